-- A change that can follow and has a spelling leads from a state that a client may have to such a state.
use Rattle.std.proofs.Common.{◌≡◌, ◌≤◌, ℕ, Bool, true, false, cond, List, [], ◌∷◌, ◌++◌, drop, length, suc, Option, Some, None, refl, sym, ap}
use Rattle.std.proofs.Common.{◌∙◌, subst, arith, length-append}
use Rattle.std.specs.List.{AllByRecursion}
use Rattle.iot_bodies.specs.declared.running.TheConstants.{RUN_LIMIT}
use Rattle.iot_changes.specs.Rules.{IsChange}
use Rattle.iot_changes.specs.declared.changes.Change.{Change}
use Rattle.iot_changes.specs.declared.changes.Change.TheVariants.{Held, Begun, Fetched, Acted, Ended, Cut, Conflicted, Resolved}
use Rattle.iot_changes.specs.declared.changes.Change.TheVariants.{Repaired, Left, Again}
use Rattle.iot_tree.specs.Tree.{Nodes}
use Rattle.iot_stamp.specs.Stamps.{Stamps, unstamped}
use Rattle.iot_queue.specs.declared.items.Item.{Item}
use Rattle.iot_kept.specs.Bodies.{IsState}
use Rattle.iot_kept.specs.Changes.{CanFollow, with_running, anew, with_act, others, cut, left, stage_by, stays_in, conflicted, after}
use Rattle.iot_kept.specs.Memory.{durable_state, memory_state, StandsOn, classes_of, other_classes, classes_after}
use Rattle.iot_kept.specs.Memory.{AreSecond}
use Rattle.iot_kept.specs.Rules.{IsNoted, IsMemory, IsStarted}
use Rattle.iot_kept.specs.Stamps.{restamped}
use Rattle.iot_kept.specs.States.{Transaction, State, opening, after_each, view, has_number}
use Rattle.iot_kept.specs.declared.durable.Durable.{Durable}
use Rattle.iot_kept.specs.declared.memory.Memory.{Memory}
use Rattle.iot_kept.proofs.HeadLaws.{keeps_head}
use Rattle.iot_kept.proofs.NumbersLaws.{keeps_numbered}
use Rattle.iot_kept.proofs.SpelledLaws.{keeps_spelled, opening_spelled}
use Rattle.iot_kept.proofs.StampsLaws.{zero_change}
use Rattle.iot_kept.proofs.StatesLaws.{keeps, keeps_guarded, opening_holds, opening_guarded}

-- ---- how many run

module _ (number : ℕ) where
  with_few : (change : Transaction → Transaction) (running : List Transaction)
      → length (with_running number change running) ≡ length running
  with_few change [] = refl
  with_few change (it ∷ running) = by_test (with_few change running) (has_number number it)
    where
      by_test : length (with_running number change running) ≡ length running → (b : Bool)
          → length (cond b (change it ∷ running) (it ∷ with_running number change running)) ≡ length (it ∷ running)
      by_test rest true = refl
      by_test rest false = ap suc rest

  others_few : (running : List Transaction) → length (others number running) ≤ length running
  others_few [] = omega arith
  others_few (it ∷ running) = by_test (others_few running) (has_number number it)
    where
      by_test : length (others number running) ≤ length running → (b : Bool)
          → length (cond b running (it ∷ others number running)) ≤ length (it ∷ running)
      by_test rest true = omega arith
      by_test rest false = omega (arith, rest)

cut_few : (acts : ℕ) (running : List Transaction) (state : State) → running ≡ state.running → length state.running ≤ RUN_LIMIT
    → length (cut acts running state).running ≤ RUN_LIMIT
cut_few acts [] state is few = few
cut_few acts (it ∷ running) state is few = omega (arith, few, ap length is)

left_few : (items : List Item) (state : State) → (left state items).running ≡ state.running
left_few [] state = refl
left_few (item ∷ items) state = refl

conflicted_few : (items : List Item) (state : State) → (conflicted state items).running ≡ state.running
conflicted_few [] state = refl
conflicted_few (item ∷ items) state = by (stage_by item.option)
  where
    by : (stage : Option _) → (stays_in stage state).running ≡ state.running
    by (Some stage) = refl
    by None = left_few state.items state

keeps_few : (state : State) (change : Change) → CanFollow state change → length state.running ≤ RUN_LIMIT
    → length (after state change).running ≤ RUN_LIMIT
keeps_few state (Held tree) follows few = few
keeps_few state (Begun number script option) follows few =
    omega (
      arith,
      follows.0,
      length-append state.running (record {
        number = number;
        script = script;
        option = option;
        base = view state;
        acts = [];
      } ∷ []),
    )
keeps_few state (Fetched number tree) follows few =
    omega (arith, few, with_few number (anew (after_each tree state.items)) state.running)
keeps_few state (Acted number act) follows few = omega (arith, few, with_few number (with_act act) state.running)
keeps_few state (Ended number) follows few = omega (arith, few, others_few number state.running)
keeps_few state (Cut number acts) follows few = cut_few acts state.running state refl few
keeps_few state Conflicted follows few = omega (arith, few, ap length (conflicted_few state.items state))
keeps_few state (Resolved done access) follows few = few
keeps_few state (Repaired script) follows few = few
keeps_few state Left follows few = omega (arith, few, ap length (left_few state.items state))
keeps_few state (Again number) follows few = omega (arith, few, with_few number (anew (view state)) state.running)

-- ---- states

pub opening_state : IsState opening
opening_state = record {
  spelled = opening_spelled;
  hold = opening_holds;
  guarded = opening_guarded;
  few = omega arith;
  numbered = record { apart = tt; last = tt; rise = tt };
  head = refl;
}

pub keeps_state : (state : State) (change : Change) → IsChange change → CanFollow state change → IsState state
    → IsState (after state change)
keeps_state state change is follows has = record {
  spelled = keeps_spelled state change is follows has.hold has.spelled;
  hold = keeps state change follows has.hold;
  guarded = keeps_guarded state change follows has.guarded;
  few = keeps_few state change follows has.few;
  numbered = keeps_numbered state change follows has.numbered;
  head = keeps_head state change is follows has.head;
}

-- and memory has that state with its views
pub noted_sound : (old : Memory) (change : Change) (new : Memory) → IsMemory old → IsChange change → CanFollow (memory_state old) change
    → IsNoted old change new → IsMemory new
noted_sound old change new sound is follows noted = record {
  state = subst IsState (sym noted.state) (keeps_state (memory_state old) change is follows sound.state);
  sees = noted.sees;
}

-- the classes and the stamps of the server are no part of it
pub still_sound : (old : Memory) (durable : Durable) → durable_state durable ≡ memory_state old
    → ((t : Nodes) → AllByRecursion (StandsOn t) old.durable.running.items → AllByRecursion (StandsOn t) durable.running.items)
    → IsMemory old → IsMemory (record { durable = durable; view = old.view })
still_sound old durable same stands sound = record {
  state = subst IsState (sym same) sound.state;
  sees = record { view = sound.sees.view ∙ ap view (sym same); running = stands old.view sound.sees.running };
}

-- ---- running transactions are second class after a change

second_push : (classes : List Bool) → AreSecond classes → AreSecond (classes ++ false ∷ [])
second_push [] all = (refl, tt)
second_push (first ∷ classes) all = (all.0, second_push classes all.1)

second_others : (number : ℕ) (running : List Transaction) (classes : List Bool) → AreSecond classes
    → AreSecond (other_classes number running classes)
second_others number [] classes all = all
second_others number (it ∷ running) [] all = tt
second_others number (it ∷ running) (first ∷ classes) all = by_test (second_others number running classes all.1) (has_number number it)
  where
    by_test : AreSecond (other_classes number running classes) → (b : Bool)
        → AreSecond (cond b classes (first ∷ other_classes number running classes))
    by_test rest true = all.1
    by_test rest false = (all.0, rest)

second_later : (classes : List Bool) → AreSecond classes → AreSecond (drop 1 classes)
second_later [] all = tt
second_later (first ∷ classes) all = all.1

second_after : (change : Change) (running : List Transaction) (classes : List Bool) → AreSecond classes
    → AreSecond (classes_after change running classes)
second_after (Begun number script option) running classes all = second_push classes all
second_after (Ended number) running classes all = second_others number running classes all
second_after (Cut number acts) running classes all = second_later classes all
second_after (Held tree) running classes all = all
second_after (Fetched number tree) running classes all = all
second_after (Acted number act) running classes all = all
second_after Conflicted running classes all = all
second_after (Resolved done access) running classes all = all
second_after (Repaired script) running classes all = all
second_after Left running classes all = all
second_after (Again number) running classes all = all

-- a change keeps that no stamp of a server is known, and that what runs is second class
pub keeps_started : (old : Memory) (change : Change) (new : Memory) → IsNoted old change new → IsStarted old → IsStarted new
keeps_started old change new noted started = record {
  stamps =
      noted.makes.stamps ∙ ap (λ (held : Stamps). restamped (memory_state old).items held change) started.stamps
      ∙ zero_change (memory_state old) change ∙ ap (λ (s : State). unstamped s.held) (sym noted.state);
  class = subst AreSecond (sym noted.makes.class)
      (second_after change (memory_state old).running (classes_of old.durable.running.items) started.class);
}
