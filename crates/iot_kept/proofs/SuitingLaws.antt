-- Acts that suit a tree in turn, and acts that hold in turn and are guarded.
use Rattle.std.proofs.Common.{List, [], ◌∷◌}
use Rattle.std.specs.List.{AllByRecursion}
use Rattle.iot_tree.specs.Tree.{Nodes}
use Rattle.iot_tree.specs.declared.acts.Act.{Act}
use Rattle.iot_acts.specs.Guards.{AllGuarded}
use Rattle.iot_acts.specs.Traces.{ActsHold, after_update, after_acts}
use Rattle.iot_queue.specs.declared.items.Item.{Item}
use Rattle.iot_kept.specs.Reading.{ActsSuit, EachSuit, SuitOwn, AllSuit}
use Rattle.iot_kept.specs.States.{Transaction, State, EachHold, HoldsOwn, EachGuarded, IsGuardedOwn, AllHold, AreGuarded}

suit_hold : (acts : List Act) (t : Nodes) → ActsSuit acts t → ActsHold t acts
suit_hold [] t suit = tt
suit_hold (act ∷ acts) t suit = (suit.0.2, suit.0.1, suit_hold acts (after_update t act.update) suit.1)

suit_guarded : (acts : List Act) (t : Nodes) → ActsSuit acts t → AllGuarded acts
suit_guarded [] t suit = tt
suit_guarded (act ∷ acts) t suit = (suit.0.0, suit_guarded acts (after_update t act.update) suit.1)

hold_suit : (acts : List Act) (t : Nodes) → ActsHold t acts → AllGuarded acts → ActsSuit acts t
hold_suit [] t hold guarded = tt
hold_suit (act ∷ acts) t hold guarded =
    ((guarded.0, hold.1, hold.0), hold_suit acts (after_update t act.update) hold.2 guarded.1)

-- ---- of each transaction

each_hold : (items : List Item) (t : Nodes) → EachSuit items t → EachHold t items
each_hold [] t suit = tt
each_hold (item ∷ items) t suit = (suit_hold item.acts t suit.0, each_hold items (after_acts t item.acts) suit.1)

each_guarded : (items : List Item) (t : Nodes) → EachSuit items t → EachGuarded items
each_guarded [] t suit = tt
each_guarded (item ∷ items) t suit = (suit_guarded item.acts t suit.0, each_guarded items (after_acts t item.acts) suit.1)

each_suit : (items : List Item) (t : Nodes) → EachHold t items → EachGuarded items → EachSuit items t
each_suit [] t hold guarded = tt
each_suit (item ∷ items) t hold guarded =
    (hold_suit item.acts t hold.0 guarded.0, each_suit items (after_acts t item.acts) hold.1 guarded.1)

-- ---- of those that run

own_hold : (running : List Transaction) → AllByRecursion SuitOwn running → AllByRecursion HoldsOwn running
own_hold [] suit = tt
own_hold (it ∷ running) suit = (suit_hold it.acts it.base suit.0, own_hold running suit.1)

own_guarded : (running : List Transaction) → AllByRecursion SuitOwn running → AllByRecursion IsGuardedOwn running
own_guarded [] suit = tt
own_guarded (it ∷ running) suit = (suit_guarded it.acts it.base suit.0, own_guarded running suit.1)

own_suit : (running : List Transaction) → AllByRecursion HoldsOwn running → AllByRecursion IsGuardedOwn running
    → AllByRecursion SuitOwn running
own_suit [] hold guarded = tt
own_suit (it ∷ running) hold guarded = (hold_suit it.acts it.base hold.0 guarded.0, own_suit running hold.1 guarded.1)

-- ---- of all

pub all_hold : (state : State) → AllSuit state → AllHold state
all_hold state suit = record {
  items = each_hold state.items state.held suit.items;
  running = own_hold state.running suit.running;
}

pub all_guarded : (state : State) → AllSuit state → AreGuarded state
all_guarded state suit = record {
  items = each_guarded state.items state.held suit.items;
  running = own_guarded state.running suit.running;
}

pub all_suit : (state : State) → AllHold state → AreGuarded state → AllSuit state
all_suit state hold guarded = record {
  items = each_suit state.items state.held hold.items guarded.items;
  running = own_suit state.running hold.running guarded.running;
}
