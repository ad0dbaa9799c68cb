-- What the access of a run, and its lines, tell of the same script's run on another tree.
use Rattle.std.specs.Prelude.{◌≡◌, ◌↔◌, ℕ, List}
use Rattle.iot_tree.specs.Tree.{Nodes, IsTree, IsWhole}
use Rattle.iot_tree.specs.declared.access.Access.{Access}
use Rattle.iot_access.specs.Access.{access_of, after_updates, lines_of}
use Rattle.iot_acts.specs.Traces.{ReadsHold}
use Rattle.iot_acts.specs.Turns.{reads_of}
use Rattle.iot_exec.specs.Commands.{Kept}
use Rattle.iot_exec.specs.Runs.{run}
use Rattle.iot_exec.specs.declared.ran.Ran.{Ran}
use Rattle.iot_lang.specs.Code.{Code}

-- the base reads hold on the tree exactly if the run there has the reads of the one here; then the updates give that run's tree, and its
-- lines are these
pub record Tells (access : Access) (said : List (List ℕ)) (here there : Ran) (u : Nodes) : Type 0 where
  pub reads : ReadsHold u access.reads ↔ (reads_of there.acts ≡ reads_of here.acts)
  pub tree : ReadsHold u access.reads → after_updates u access.updates ≡ there.tree
  pub lines : ReadsHold u access.reads → lines_of there.acts ≡ said

-- of each script's run on a tree, on every whole tree
abbrev pub ARunIsToldByItsAccess : Type 0
ARunIsToldByItsAccess =
    (code : Code) (kept : Kept) (budget : ℕ) (t u : Nodes) → IsTree t → IsTree u → IsWhole u
    → Tells (access_of (run code kept t budget).acts t) (lines_of (run code kept t budget).acts) (run code kept t budget)
    (run code kept u budget) u
