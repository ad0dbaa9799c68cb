-- Committed scripts, run alone in the order of their commits.
use Rattle.std.specs.Prelude.{ℕ, List, [], ◌∷◌}
use Rattle.iot_tree.specs.Tree.{Nodes, root_alone}
use Rattle.iot_tree.specs.declared.nodes.Node.TheVariants.{Dir}
use Rattle.iot_lang.specs.Code.{Code}
use Rattle.iot_exec.specs.Commands.{Kept}
use Rattle.iot_exec.specs.Runs.{run}
use Rattle.iot_exec.specs.declared.ran.Ran.{Ran}

-- a committed transaction: its client and number, its script with its budget and kept files, and the way on which it came
pub record Entry (Way : Type 0) : Type 0 where
  pub client : ℕ
  pub number : ℕ
  pub script : Code
  pub budget : ℕ
  pub way : Way
  pub kept : Kept

-- the entry's script alone, on this tree
abbrev pub run_entry : {Way : Type 0} → Entry Way → Nodes → Ran
run_entry entry t = run entry.script entry.kept t entry.budget

-- the runs of the entries in turn, each on the tree after the one before
abbrev pub serial_from : {Way : Type 0} → List (Entry Way) → Nodes → List Ran
serial_from [] t = []
serial_from (entry ∷ entries) t = run_entry entry t ∷ serial_from entries (run_entry entry t).tree

-- the tree after them
abbrev pub tree_from : {Way : Type 0} → List (Entry Way) → Nodes → Nodes
tree_from [] t = t
tree_from (entry ∷ entries) t = tree_from entries (run_entry entry t).tree

-- the entries run alone in order, from the tree that has only a root
abbrev pub serial : {Way : Type 0} → List (Entry Way) → List Ran
serial entries = serial_from entries (root_alone Dir)

-- the tree for which a list of entries stands
abbrev pub serial_tree : {Way : Type 0} → List (Entry Way) → Nodes
serial_tree entries = tree_from entries (root_alone Dir)
