-- The acts of a run have spellings.
use Rattle.std.proofs.Common.{ℕ, sym, ◌∙◌}
use Rattle.std.specs.FinMap.{empty, get-empty}
use Rattle.std.proofs.lemmas.Option.{none-some}
use Rattle.iot_text.specs.Paths.{path_cmp}
use Rattle.iot_tree.specs.Tree.{Nodes, root_alone}
use Rattle.iot_tree.specs.declared.nodes.Node.TheVariants.{Dir}
use Rattle.iot_lang.specs.Code.{Code}
use Rattle.iot_lang.specs.Scripts.{IsScript}
use Rattle.iot_exec.specs.Values.{fresh}
use Rattle.iot_exec.specs.Commands.{Kept}
use Rattle.iot_exec.specs.Runs.{run, run_code}
use Rattle.iot_limits.proofs.WordLaws.{fresh_env}
use Rattle.iot_limits.proofs.UpdateLaws.{root_tree}
use Rattle.iot_limits.proofs.RunLaws.{has_commands, code_goes, ran_is}
use Rattle.iot_limits.specs.Spelled.{IsSpelledTree, AreSpelledFiles, SpelledRun}

-- the acts of a run have spellings, and so has the tree that it leaves, if the tree before it and the kept files have them
pub run_is_spelled : (script : Code) (kept : Kept) (t : Nodes) (budget : ℕ)
    → IsScript script → AreSpelledFiles kept → IsSpelledTree t → SpelledRun (run script kept t budget)
run_is_spelled script kept t budget is files tree =
    ran_is (run_code kept script t fresh budget)
    (code_goes kept files script (has_commands script is.lines) t fresh budget tree fresh_env)

-- the tree that has only a root has a spelling
pub root_is_spelled : IsSpelledTree (root_alone Dir)
root_is_spelled = root_tree

-- if no file is kept, each has a spelling
pub no_files_are_spelled : AreSpelledFiles empty
no_files_are_spelled = record { each = λ p bytes is. absurd (none-some bytes (sym (get-empty path_cmp p) ∙ is)) }
