-- What a list of commits makes: its tree, its labels and its stamps; and held trees that follow it.
use Rattle.std.specs.Prelude.{ℕ, List, [], ◌∷◌, ◌+◌, length, map}
use Rattle.iot_tree.specs.Tree.{Nodes, root_alone}
use Rattle.iot_tree.specs.declared.nodes.Node.TheVariants.{Dir}
use Rattle.iot_exec.specs.Serial.{run_entry}
use Rattle.iot_stamp.specs.Stamps.{Stamps}
use Rattle.iot_store.specs.States.{State}
use Rattle.iot_machine.specs.Machine.{Commit, tree_after}
use Rattle.iot_stamp.specs.Acting.{stamped_acts}
use Rattle.iot_store.specs.Stamps.{opening_stamps, next_stamp}
use Rattle.iot_machine.specs.Recorded.{label_of}
use Rattle.iot_stamp.specs.Trails.{Trails}

-- the stamps after commits from a tree on, of which so many came before
abbrev pub stamps_from : List Commit → Nodes → Stamps → ℕ → Stamps
stamps_from [] t stamps before = stamps
stamps_from (commit ∷ commits) t stamps before =
    stamps_from commits (run_entry commit.entry t).tree (stamped_acts stamps (run_entry commit.entry t).acts (next_stamp before))
    (before + 1)

-- the tree, the labels and the stamps of a list
abbrev pub state_of : List Commit → State
state_of commits = record {
  tree = tree_after commits;
  labels = map label_of commits;
  stamps = stamps_from commits (root_alone Dir) opening_stamps 0;
}

-- A held tree agrees with the server's tree of this list: a row of the one and a row of the other at the same path with the same stamp are
-- the same, for a directory also in its names and their kinds. It has no stamp above the number of commits plus 1.
abbrev pub Follows : Stamps → List Commit → Type 0
Follows held commits = Trails (state_of commits).stamps (length commits + 1) held
