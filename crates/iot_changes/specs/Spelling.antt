-- The one spelling of each change.
use Rattle.std.specs.Prelude.{ℕ, List, [], ◌∷◌, ◌++◌}
use Rattle.iot_queue.specs.declared.items.Resolution.{Resolution}
use Rattle.iot_codec.specs.Spelling.{number_spelling, name_spelling, option_spelling, files_spelling, act_spelling}
use Rattle.iot_codec.specs.Spelling.{access_spelling, acts_spelling, tree_spelling}
use Rattle.iot_changes.specs.declared.changes.Change.{Change}
use Rattle.iot_changes.specs.declared.changes.Change.TheVariants.{Held, Begun, Fetched, Acted, Ended, Cut, Conflicted, Resolved}
use Rattle.iot_changes.specs.declared.changes.Change.TheVariants.{Repaired, Left, Again}

-- what was run: the script and the budget
abbrev pub run_spelling : Resolution → List ℕ
run_spelling resolution = name_spelling resolution.script ++ number_spelling resolution.budget

-- and what it did: the kept files and the acts
abbrev pub outcome_spelling : Resolution → List ℕ
outcome_spelling resolution = files_spelling resolution.kept ++ acts_spelling resolution.acts

unfoldable pub resolution_spelling : Resolution → List ℕ
resolution_spelling resolution = run_spelling resolution ++ outcome_spelling resolution

-- a change: its tag, and then its parts
unfoldable pub change_spelling : Change → List ℕ
change_spelling (Held tree) = 1 ∷ tree_spelling tree
change_spelling (Begun number script option) = 2 ∷ (number_spelling number ++ (name_spelling script ++ option_spelling option))
change_spelling (Fetched number tree) = 3 ∷ (number_spelling number ++ tree_spelling tree)
change_spelling (Acted number act) = 4 ∷ (number_spelling number ++ act_spelling act)
change_spelling (Ended number) = 5 ∷ number_spelling number
change_spelling (Cut number acts) = 6 ∷ (number_spelling number ++ number_spelling acts)
change_spelling Conflicted = 7 ∷ []
change_spelling (Resolved resolution access) = 8 ∷ (resolution_spelling resolution ++ access_spelling access)
change_spelling (Repaired script) = 9 ∷ name_spelling script
change_spelling Left = 10 ∷ []
change_spelling (Again number) = 11 ∷ number_spelling number
