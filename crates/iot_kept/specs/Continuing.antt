-- What becomes of the transactions that wait, and of one that is cut.
use Rattle.std.specs.Prelude.{◌≡◌, ◌≤◌, ℕ, List, [], ◌∷◌, ◌++◌, length, take}
use Rattle.iot_tree.specs.Tree.{Nodes}
use Rattle.iot_acts.specs.Traces.{ActsHold, after_acts}
use Rattle.iot_queue.specs.declared.items.Item.{Item}
use Rattle.iot_queue.specs.declared.items.Stage.TheVariants.{Waiting}
use Rattle.iot_changes.specs.declared.changes.Change.{Change}
use Rattle.iot_changes.specs.declared.changes.Change.TheVariants.{Cut}
use Rattle.iot_kept.specs.States.{Transaction, State, AllHold}
use Rattle.iot_kept.specs.Changes.{CanFollow, after}

-- ---- what waits

-- A transaction waits on: its number, script, budget and acts are what they were, with all their reads, and so is the tree on which
-- it ran. All that it read there holds. Its stage and its option may be others.
pub record WaitsOn (old_tree new_tree : Nodes) (old new : Item) : Type 0 where
  pub number : new.tid ≡ old.tid
  pub script : new.script ≡ old.script
  pub budget : new.budget ≡ old.budget
  pub acts : new.acts ≡ old.acts
  pub tree : new_tree ≡ old_tree
  pub holds : ActsHold new_tree new.acts

-- Each of the transactions that waited waits on, in the same order, and at most one joins them at the end. The first of each list ran
-- on the tree before the list, and each later one on that after those before it.
abbrev pub EachWaitsOn : Nodes → Nodes → List Item → List Item → Type 0
EachWaitsOn old_tree new_tree [] joined = length joined ≤ 1
EachWaitsOn old_tree new_tree (old ∷ waited) [] = ⊥
EachWaitsOn old_tree new_tree (old ∷ waited) (new ∷ waiting) =
    WaitsOn old_tree new_tree old new × EachWaitsOn (after_acts old_tree old.acts) (after_acts new_tree new.acts) waited waiting

-- there was a first one, and each later one waits on
abbrev pub LaterWaitOn : Nodes → Nodes → List Item → List Item → Type 0
LaterWaitOn old_tree new_tree [] waiting = ⊥
LaterWaitOn old_tree new_tree (old ∷ waited) waiting = EachWaitsOn (after_acts old_tree old.acts) new_tree waited waiting

-- all that waited wait on, or all but the first
pub data Continues (old new : State) : Type 0 where
  all_wait_on : EachWaitsOn old.held new.held old.items new.items → Continues old new
  first_leaves : LaterWaitOn old.held new.held old.items new.items → Continues old new

-- whatever change can follow
abbrev pub PendingReadsStay : Type 0
PendingReadsStay = (state : State) (change : Change) → CanFollow state change → AllHold state → Continues state (after state change)

-- ---- a cut

-- a running transaction waits with the first of the acts that it has done so far, in their order, and may do no more of them
pub record IsPrefixOf (it : Transaction) (count : ℕ) (item : Item) : Type 0 where
  pub number : item.tid ≡ it.number
  pub script : item.script ≡ it.script
  pub option : item.option ≡ it.option
  pub acts : item.acts ≡ take count it.acts
  pub budget : item.budget ≡ count
  pub stage : item.stage ≡ Waiting

-- it is the last that waits; the others run on, and nothing else changes
pub record IsCutFrom (it : Transaction) (running : List Transaction) (acts : ℕ) (old new : State) : Type 0 where
  pub item : Item
  pub prefix : IsPrefixOf it acts item
  pub items : new.items ≡ old.items ++ item ∷ []
  pub run : new.running ≡ running
  pub held : new.held ≡ old.held
  pub last : new.last ≡ old.last

-- whenever one is the first that runs
abbrev pub ACutIsItsPrefix : Type 0
ACutIsItsPrefix = (state : State) (it : Transaction) (running : List Transaction) (acts : ℕ) → state.running ≡ it ∷ running
    → IsCutFrom it running acts state (after state (Cut it.number acts))
