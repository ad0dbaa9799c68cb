-- The tree after the runs of a list of commits.
use Rattle.std.proofs.Common.{◌≡◌, ℕ, List, true, false, [], ◌∷◌, Option, Some, None, refl, sym, subst, ◌∙◌}
use Rattle.std.proofs.lemmas.Option.{none-some}
use Rattle.std.specs.FinMap.{empty, get, get-empty}
use Rattle.std.specs.List.{AllByRecursion}
use Rattle.iot_text.specs.Paths.{path_cmp}
use Rattle.iot_tree.specs.Tree.{Path, Nodes, IsTree, IsWhole, root_alone}
use Rattle.iot_tree.specs.Snapshots.{is_known}
use Rattle.iot_tree.specs.Updates.{mode_in, with_mode, updated}
use Rattle.iot_tree.specs.declared.acts.Act.{Act}
use Rattle.iot_tree.specs.declared.labels.Way.{Way}
use Rattle.iot_tree.specs.declared.nodes.Mode.{Mode}
use Rattle.iot_tree.specs.declared.nodes.Node.{Node}
use Rattle.iot_tree.specs.declared.nodes.Node.TheVariants.{Dir, File, FarDir, FarFile}
use Rattle.iot_tree.specs.declared.updates.Update.{Update}
use Rattle.iot_tree.specs.declared.updates.Update.TheVariants.{Put, MakeDir, Remove, Move, SetMode}
use Rattle.iot_tree.proofs.EachLaws.{EachNode, each_inserted, each_moded, each_removed, each_moved}
use Rattle.iot_tree.proofs.RowLaws.{root_rows, root_map}
use Rattle.iot_stamp.proofs.PrunedLaws.{whole_known}
use Rattle.iot_lang.specs.Code.{Code}
use Rattle.iot_acts.specs.Traces.{after_acts, after_update}
use Rattle.iot_exec.specs.Commands.{Kept}
use Rattle.iot_exec.specs.Runs.{run}
use Rattle.iot_exec.specs.Serial.{Entry, run_entry, tree_from}
use Rattle.iot_limits.specs.Spelled.{IsSpelledTree}
use Rattle.iot_limits.proofs.SpelledLaws.{run_is_spelled, root_is_spelled}
use Rattle.iot_machine.specs.Machine.{Commit, entries_of, tree_after}
use Rattle.iot_judging.specs.Entries.{IsSpelledEntry}
use Rattle.iot_judging.proofs.JudgingLaws.{own_acts, run_tree}

from_tree : (entries : List (Entry Way)) (t : Nodes) → IsTree t → IsTree (tree_from entries t)
from_tree [] t tree = tree
from_tree (entry ∷ entries) t tree = from_tree entries (run_entry entry t).tree (run_tree entry.script entry.kept t entry.budget tree)

from_spelled : (entries : List (Entry Way)) (t : Nodes) → AllByRecursion IsSpelledEntry entries → IsSpelledTree t
    → IsSpelledTree (tree_from entries t)
from_spelled [] t all tree = tree
from_spelled (entry ∷ entries) t all tree =
    from_spelled entries (run_entry entry t).tree all.1
    (run_is_spelled entry.script entry.kept t entry.budget all.0.script all.0.kept tree).tree

pub root_is_tree : IsTree (root_alone Dir)
root_is_tree = subst IsTree (root_map Dir) (root_rows Dir refl).tree

pub list_tree : (commits : List Commit) → IsTree (tree_after commits)
list_tree commits = from_tree (entries_of commits) (root_alone Dir) root_is_tree

pub list_spelled : (commits : List Commit) → AllByRecursion IsSpelledEntry (entries_of commits) → IsSpelledTree (tree_after commits)
list_spelled commits all = from_spelled (entries_of commits) (root_alone Dir) all root_is_spelled

-- ---- whole trees

abbrev IsNear : Path → Node → Type 0
IsNear path node = is_known node ≡ true

mode_near : (mode : Mode) (node : Node) → is_known node ≡ true → is_known (with_mode mode node) ≡ true
mode_near mode Dir near = refl
mode_near mode (File bytes old) near = refl
mode_near mode FarDir near = near
mode_near mode (FarFile old) near = near

update_near : (t : Nodes) (update : Update) → EachNode IsNear t → EachNode IsNear (updated t update)
update_near t (Put path bytes) each = each_inserted IsNear t path (File bytes (mode_in (get t path))) each refl
update_near t (MakeDir path) each = each_inserted IsNear t path Dir each refl
update_near t (SetMode path mode) each = each_moded IsNear mode (λ path node near. mode_near mode node near) t path each
update_near t (Remove path) each = each_removed IsNear t path each
update_near t (Move from to) each = each_moved IsNear from to (λ path node near. near) t each

acts_near : (acts : List Act) (t : Nodes) → EachNode IsNear t → EachNode IsNear (after_acts t acts)
acts_near [] t each = each
acts_near (act ∷ acts) t each = acts_near acts (after_update t act.update) (by act.update)
  where
    by : (update : Option Update) → EachNode IsNear (after_update t update)
    by None = each
    by (Some update) = update_near t update each

not_known : false ≡ true → ⊥
not_known is = cc

near_whole : (t : Nodes) → EachNode IsNear t → IsWhole t
near_whole t each = record {
  no_far_dir = λ p is. not_known (each p FarDir is);
  no_far_file = λ p mode is. not_known (each p (FarFile mode) is);
}

whole_near : (t : Nodes) → IsWhole t → EachNode IsNear t
whole_near t whole p node is = whole_known t whole p node is

-- after acts on a whole tree it is whole
pub acts_whole : (acts : List Act) (t : Nodes) → IsWhole t → IsWhole (after_acts t acts)
acts_whole acts t whole = near_whole (after_acts t acts) (acts_near acts t (whole_near t whole))

pub run_whole : (code : Code) (kept : Kept) (t : Nodes) (n : ℕ) → IsTree t → IsWhole t → IsWhole (run code kept t n).tree
run_whole code kept t n tree whole =
    subst IsWhole (sym (own_acts code kept t n tree).made) (acts_whole (run code kept t n).acts t whole)

from_whole : (entries : List (Entry Way)) (t : Nodes) → IsTree t → IsWhole t → IsWhole (tree_from entries t)
from_whole [] t tree whole = whole
from_whole (entry ∷ entries) t tree whole =
    from_whole entries (run_entry entry t).tree (run_tree entry.script entry.kept t entry.budget tree)
    (run_whole entry.script entry.kept t entry.budget tree whole)

root_is_whole : IsWhole (root_alone Dir)
root_is_whole =
    near_whole (root_alone Dir)
    (each_inserted IsNear empty [] Dir (λ path node is. absurd (none-some node (sym (get-empty path_cmp path) ∙ is))) refl)

pub list_whole : (commits : List Commit) → IsWhole (tree_after commits)
list_whole commits = from_whole (entries_of commits) (root_alone Dir) root_is_tree root_is_whole
