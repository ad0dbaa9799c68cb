-- The lines of statements, one after another.
use Rattle.std.proofs.Common.{◌≡◌, ◌++◌, List, [], ◌∷◌, Some, None, refl, sym, ap, ◌∙◌, append_assoc}
use Rattle.iot_lang.specs.Code.{Code, script_lines}
use Rattle.iot_lang.specs.Blocks.{code_of_statements, with_statement}
use Rattle.iot_lang.specs.Print.{lines_in, statement_lines}
use Rattle.iot_lang.specs.declared.blocks.Stmt.{Stmt}
use Rattle.iot_lang.specs.declared.blocks.Stmt.TheVariants as statements

pub script_lines-with_statement : (s : Stmt) (c : Code) → script_lines (with_statement s c) ≡ statement_lines s ++ script_lines c
script_lines-with_statement (statements.Do command) c = refl
script_lines-with_statement statements.Stop c = refl
script_lines-with_statement (statements.If condition body None) c = simp append_assoc
script_lines-with_statement (statements.If condition body (Some other)) c = simp append_assoc
script_lines-with_statement (statements.For x p body) c = simp append_assoc

pub lines_in-push : (ss : List Stmt) (s : Stmt) → lines_in (ss ++ s ∷ []) ≡ lines_in ss ++ statement_lines s
lines_in-push [] s = refl
lines_in-push (t ∷ ss) s =
    script_lines-with_statement t (code_of_statements (ss ++ s ∷ []))
    ∙ ap (λ ls. statement_lines t ++ ls) (lines_in-push ss s)
    ∙ sym (append_assoc (statement_lines t) (lines_in ss) (statement_lines s))
    ∙ ap (λ ls. ls ++ statement_lines s) (sym (script_lines-with_statement t (code_of_statements ss)))
