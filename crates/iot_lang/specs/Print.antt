-- The text of a script, as it is printed.
use Rattle.std.specs.Prelude.{ℕ, List, [], ◌∷◌, ◌++◌, Option, None, Some}
use Rattle.std.specs.List.{flat_map}
use Rattle.iot_lang.specs.Lines.{line_words}
use Rattle.iot_lang.specs.Code.{Code, End, script_lines}
use Rattle.iot_lang.specs.Blocks.{with_statement, code_of_statements}
use Rattle.iot_lang.specs.declared.lines.Line.{Line}
use Rattle.iot_lang.specs.declared.lines.Line.TheVariants as says
use Rattle.iot_lang.specs.declared.blocks.Stmt.{Stmt}

-- each word after a space
abbrev pub after_spaces : List (List ℕ) → List ℕ
after_spaces words = flat_map (λ word. 32 ∷ word) words

-- words with one space between them
abbrev pub joined : List (List ℕ) → List ℕ
joined [] = []
joined (word ∷ words) = word ++ after_spaces words

-- lines, each with its newline
abbrev pub printed : List Line → List ℕ
printed lines = flat_map (λ line. joined (line_words line) ++ 10 ∷ []) lines

-- the lines of an else block, if there is one, with the line before it
abbrev pub otherwise_lines : Option Code → List Line
otherwise_lines None = []
otherwise_lines (Some other) = says.Else ∷ script_lines other

-- the lines of one statement
abbrev pub statement_lines : Stmt → List Line
statement_lines s = script_lines (with_statement s End)

-- the lines of statements
abbrev pub lines_in : List Stmt → List Line
lines_in statements = script_lines (code_of_statements statements)
