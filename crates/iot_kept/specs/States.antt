-- What is durable of a client.
use Rattle.std.specs.Prelude.{ℕ, ◌==◌, Bool, List, [], ◌∷◌, find, Option}
use Rattle.std.specs.List.{AllByRecursion}
use Rattle.iot_tree.specs.Tree.{Nodes, root_alone}
use Rattle.iot_tree.specs.declared.nodes.Node.TheVariants.{FarDir}
use Rattle.iot_tree.specs.declared.access.Access.{Access}
use Rattle.iot_tree.specs.declared.acts.Act.{Act}
use Rattle.iot_tree.specs.declared.labels.OnConflict.{OnConflict}
use Rattle.iot_access.specs.Access.{no_access}
use Rattle.iot_acts.specs.Traces.{ActsHold, after_acts}
use Rattle.iot_acts.specs.Guards.{AllGuarded}
use Rattle.iot_queue.specs.declared.items.Item.{Item}

-- a running transaction: its number, its script's name, what is done if it conflicts, the tree on which it began, and the acts so far
pub record Transaction : Type 0 where
  pub number : ℕ
  pub script : List ℕ
  pub option : OnConflict
  pub base : Nodes
  pub acts : List Act

-- the held tree, the transactions that wait, those that run, by their numbers, and the number of the last one; and the access of the run
-- that was made in the place of the first one that waits, if it was resolved
pub record State : Type 0 where
  pub held : Nodes
  pub items : List Item
  pub running : List Transaction
  pub last : ℕ
  pub access : Access

-- before the first change nothing is known and nothing runs
abbrev pub opening : State
opening = record { held = root_alone FarDir; items = []; running = []; last = 0; access = no_access }

-- the tree after the updates of each item in turn
abbrev pub after_each : Nodes → List Item → Nodes
after_each t [] = t
after_each t (item ∷ items) = after_each (after_acts t item.acts) items

-- the view: the held tree, then each item's updates
abbrev pub view : State → Nodes
view state = after_each state.held state.items

-- a running transaction's own view: its base, then its acts
abbrev pub own_view : Transaction → Nodes
own_view it = after_acts it.base it.acts

-- the one with this number, if it runs
abbrev pub has_number : ℕ → Transaction → Bool
has_number number it = it.number == number

abbrev pub numbered : ℕ → List Transaction → Option Transaction
numbered number running = find (has_number number) running

-- the acts of each item hold on the tree after the items before it
abbrev pub EachHold : Nodes → List Item → Type 0
EachHold t [] = Unit {0}
EachHold t (item ∷ items) = ActsHold t item.acts × EachHold (after_acts t item.acts) items

-- the acts of a running transaction hold on its base
abbrev pub HoldsOwn : Transaction → Type 0
HoldsOwn it = ActsHold it.base it.acts

pub record AllHold (state : State) : Type 0 where
  pub items : EachHold state.held state.items
  pub running : AllByRecursion HoldsOwn state.running

-- each act of the items, and each running act, is guarded by its reads
abbrev pub EachGuarded : List Item → Type 0
EachGuarded [] = Unit {0}
EachGuarded (item ∷ items) = AllGuarded item.acts × EachGuarded items

abbrev pub IsGuardedOwn : Transaction → Type 0
IsGuardedOwn it = AllGuarded it.acts

pub record AreGuarded (state : State) : Type 0 where
  pub items : EachGuarded state.items
  pub running : AllByRecursion IsGuardedOwn state.running
