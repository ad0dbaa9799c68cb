-- What a block is seen as.
use Rattle.std.specs.Prelude.{List, [], ◌∷◌, None, Some}
use Rattle.iot_lang.specs.Code.{Code, End, Plain, Halt, If, IfElse, For}
use Rattle.iot_lang.specs.declared.blocks.Stmt.{Stmt}
use Rattle.iot_lang.specs.declared.blocks.Stmt.TheVariants as statements

-- a statement before others
abbrev pub with_statement : Stmt → Code → Code
with_statement (statements.Do command) rest = Plain command rest
with_statement statements.Stop rest = Halt rest
with_statement (statements.If condition body None) rest = If condition body rest
with_statement (statements.If condition body (Some other)) rest = IfElse condition body other rest
with_statement (statements.For variable path body) rest = For variable path body rest

-- the script of these statements
abbrev pub code_of_statements : List Stmt → Code
code_of_statements [] = End
code_of_statements (s ∷ ss) = with_statement s (code_of_statements ss)
