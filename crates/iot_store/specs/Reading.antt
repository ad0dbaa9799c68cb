-- What is read of the body of a checkpoint.
use Rattle.std.specs.Prelude.{◌≡◌, ◌≤◌, ◌<◌, ◌+◌, ℕ, true, List, [], ◌∷◌}
use Rattle.iot_tree.specs.Snapshots.{is_known}
use Rattle.iot_tree.specs.Tree.{Row}
use Rattle.iot_tree.specs.declared.labels.Label.{Label}
use Rattle.iot_stamp.specs.Stamps.{Stamps, nodes_of}
use Rattle.iot_store.specs.States.{State}

-- as many stamps as rows, each from 1 to the number of commits plus 1, and no row is far
abbrev pub FitStamps : List Row → List ℕ → (commits : ℕ) → Type 0
FitStamps [] [] commits = Unit {0}
FitStamps (row ∷ rows) (stamp ∷ stamps) commits =
    (is_known row.1 ≡ true) × (0 < stamp) × (stamp ≤ commits + 1) × FitStamps rows stamps commits
FitStamps rows stamps commits = ⊥

-- the state of this tree with its stamps, and of these labels
abbrev pub state_with : Stamps → List Label → State
state_with stamps labels = record { tree = nodes_of stamps; labels = labels; stamps = stamps }
