-- What each change makes in memory: the state, the classes, and the trees that are kept beside the state.
use Rattle.std.proofs.Common.{◌≡◌, ℕ, Bool, false, List, [], ◌∷◌, ◌++◌, map, take, drop, Some, Result, Ok, Err, OnOk}
use Rattle.std.proofs.Common.{slice_index_or, slice_set, refl, sym, ap, subst, ◌∙◌}
use Rattle.std.specs.List.{AllByRecursion, remove}
use Rattle.std.specs.declared.alloc.AllocError.{AllocError as NoMemory}
use Rattle.iot_tree.specs.Tree.{Nodes}
use Rattle.iot_tree.specs.declared.acts.Act.{Act}
use Rattle.iot_tree.specs.declared.labels.OnConflict.{OnConflict}
use Rattle.iot_tree.specs.declared.limits.TheConstants.{ACT_LIMIT}
use Rattle.iot_acts.specs.Traces.{ActsHold, after_update, after_acts}
use Rattle.iot_certify.specs.Verdicts.{IsLongest}
use Rattle.iot_stamp.specs.Acting.{UpdatesFit}
use Rattle.iot_stamp.specs.Stamps.{nodes_of, unstamped}
use Rattle.iot_stamp.proofs.ActingLaws.{holds_fit}
use Rattle.iot_queue.specs.declared.items.Item.{Item}
use Rattle.iot_changes.specs.declared.changes.Change.{Change}
use Rattle.iot_changes.specs.declared.changes.Change.TheVariants.{Held, Begun, Fetched, Acted, Ended, Cut, Again}
use Rattle.iot_kept.specs.States.{Transaction, State, after_each, view, numbered}
use Rattle.iot_kept.specs.Changes.{CanFollow, RunIs, FirstRunIs, with_running, anew, with_act, waiting, ended, cut, after}
use Rattle.iot_kept.specs.Memory.{transaction, transactions, durable_state, memory_state, SeesOwn, StandsOn, Sees, classes_of, classes_after}
use Rattle.iot_kept.specs.Memory.{IsPlace, past}
use Rattle.iot_kept.specs.Rules.{IsNoted}
use Rattle.iot_kept.specs.Stamps.{restamped}
use Rattle.iot_kept.specs.declared.durable.Durable.{Durable}
use Rattle.iot_kept.specs.declared.memory.Memory.{Memory}
use Rattle.iot_kept.specs.declared.running.Running.{Running}
use Rattle.iot_kept.proofs.StatesLaws.{after_more, held_view, joined_view}
use Rattle.iot_kept.proofs.PlaceLaws.{place_within, place_is, place_with, place_class, place_others, place_other_classes, place_numbered}
use Rattle.iot_kept.proofs.PlaceLaws.{place_past, past_transactions, past_classes, past_stand, at_place, set_place, without_place, one_more}
use Rattle.iot_kept.proofs.PlaceLaws.{transactions_more, classes_more}

-- ---- states by their parts

state_is : (one other : State) → one.held ≡ other.held → one.items ≡ other.items → one.running ≡ other.running → one.last ≡ other.last
    → one.access ≡ other.access → one ≡ other
state_is one other held items running last access =
    λ i. record { held = held i; items = items i; running = running i; last = last i; access = access i }

-- ---- the trees

pub own_seen : (t : Nodes) (running : List Running) → AllByRecursion (StandsOn t) running → AllByRecursion SeesOwn running
own_seen t [] all = tt
own_seen t (it ∷ running) all = let stands : StandsOn t it = all.0 in (stands.own, own_seen t running all.1)

-- it has done one act more
pub added_stands : (result : Result (Unit {0}) NoMemory) (old : Running) (own : Nodes) (acts : List Act) (act : Act) → SeesOwn old
    → own ≡ after_update old.own act.update → OnOk result (acts ≡ old.acts ++ act ∷ [])
    → OnOk result ((t : Nodes) → StandsOn t old → StandsOn t (record old { acts = acts; own = own }))
added_stands (Ok done) old own acts act sees made pushed = λ t stands. record {
  own = made ∙ ap (λ (t : Nodes). after_update t act.update) sees ∙ sym (after_more old.acts act old.base)
      ∙ ap (after_acts old.base) (sym pushed);
  base = stands.base;
}
added_stands (Err fault) old own acts act sees made pushed = tt

-- ---- the one with a number, by its place

module _ (running : List Running) (number at : ℕ) (it : Running) (place : IsPlace number running at)
    (is : it ≡ slice_index_or running at it) where
  -- what is so of the one with this number is so of the one there
  pub here : (Q : Transaction → Type 0) → RunIs number Q (transactions running) → Q (transaction it)
  here Q runs = subst (λ (one : Running). Q (transaction one)) (sym is) (place_is Q number running at it place runs)

  pub stands_here : (t : Nodes) → AllByRecursion (StandsOn t) running → StandsOn t it
  stands_here t all = subst (StandsOn t) (sym is) (at_place (StandsOn t) running at it (place_within number running at place) all)

  pub own_here : AllByRecursion SeesOwn running → SeesOwn it
  own_here all = subst SeesOwn (sym is) (at_place SeesOwn running at it (place_within number running at place) all)

  -- it changes
  changed_here : (change : Transaction → Transaction) (new : Running) → transaction new ≡ change (transaction it)
      → transactions (slice_set running at new) ≡ with_running number change (transactions running)
  changed_here change new same =
      place_with change number running at it new place (same ∙ ap (λ (one : Running). change (transaction one)) is)

  class_here : (new : Running) → new.first ≡ it.first → classes_of (slice_set running at new) ≡ classes_of running
  class_here new same =
      place_class running at it new (same ∙ ap (λ (one : Running). one.first) is) (place_within number running at place)

  -- it ends
  ended_here : (item : Item) → item ≡ waiting ACT_LIMIT it.acts (transaction it)
      → item ∷ [] ≡ ended (numbered number (transactions running))
  ended_here item same =
      ap (λ (one : Item). one ∷ []) same
      ∙ sym (ap ended (place_numbered number running at it place ∙ ap (λ (one : Running). Some (transaction one)) (sym is)))

-- ---- a tree is brought

-- which is held and seen
pub record HoldsTree (tree : Nodes) (old new : Memory) : Type 0 where
  pub held : new.durable.held ≡ unstamped tree
  pub nodes : nodes_of new.durable.held ≡ tree
  pub view : new.view ≡ tree
  pub queue : new.durable.queue ≡ old.durable.queue
  pub last : new.durable.last ≡ old.durable.last
  pub access : new.durable.access ≡ old.durable.access

brought_view : (tree : Nodes) (old new : Memory) → HoldsTree tree old new → old.durable.queue ≡ [] → new.view ≡ view (memory_state new)
brought_view tree old new holds none =
    let empty : new.durable.queue ≡ [] = holds.queue ∙ none in
    holds.view ∙ sym (ap (λ (items : List Item). after_each (nodes_of new.durable.held) items) empty ∙ holds.nodes)

pub held_noted : (tree : Nodes) (old new : Memory) → CanFollow (memory_state old) (Held tree) → Sees old → HoldsTree tree old new
    → new.durable.running.items ≡ map past old.durable.running.items → IsNoted old (Held tree) new
held_noted tree old new follows sees holds run =
    let before : List Running = old.durable.running.items in
    record {
      state = state_is (memory_state new) (after (memory_state old) (Held tree)) holds.nodes holds.queue
          (ap transactions run ∙ past_transactions before) holds.last holds.access;
      makes = record { stamps = holds.held; class = ap classes_of run ∙ past_classes before };
      sees = record {
        view = brought_view tree old new holds follows;
        running = subst (AllByRecursion (StandsOn new.view)) (sym run) (past_stand old.view new.view before sees.running);
      };
    }

module _ (tree : Nodes) (number at : ℕ) (old new : Memory) (it it_ : Running)
    (follows : CanFollow (memory_state old) (Fetched number tree)) (sees : Sees old) (holds : HoldsTree tree old new)
    (place : IsPlace number old.durable.running.items at) (is : it ≡ slice_index_or (map past old.durable.running.items) at it)
    (run : new.durable.running.items ≡ slice_set (map past old.durable.running.items) at it_) where
  pub fetched_noted : transaction it_ ≡ anew new.view (transaction it) → it_.first ≡ it.first → StandsOn new.view it_
      → IsNoted old (Fetched number tree) new
  fetched_noted same class stands =
      let before : List Running = old.durable.running.items in
      let there : IsPlace number (map past before) at = place_past number before at place in
      let base : new.view ≡ after_each tree old.durable.queue =
      holds.view ∙ sym (held_view (memory_state old) tree follows.1) in
      record {
        state = state_is (memory_state new) (after (memory_state old) (Fetched number tree)) holds.nodes holds.queue
            (ap transactions run
            ∙ changed_here (map past before) number at it there is (anew (after_each tree old.durable.queue)) it_
            (same ∙ ap (λ (t : Nodes). anew t (transaction it)) base)
            ∙ ap (with_running number (anew (after_each tree old.durable.queue))) (past_transactions before))
            holds.last holds.access;
        makes = record {
          stamps = holds.held;
          class = ap classes_of run ∙ class_here (map past before) number at it there is it_ class ∙ past_classes before;
        };
        sees = record {
          view = brought_view tree old new holds follows.1;
          running = subst (AllByRecursion (StandsOn new.view)) (sym run)
              (set_place (StandsOn new.view) (map past before) at it_ stands (past_stand old.view new.view before sees.running));
        };
      }

-- ---- those that run change, beside the same view

-- nothing else changes
pub record KeepsView (old new : Memory) : Type 0 where
  pub held : new.durable.held ≡ old.durable.held
  pub view : new.view ≡ old.view
  pub queue : new.durable.queue ≡ old.durable.queue
  pub access : new.durable.access ≡ old.durable.access

kept_view : (old new : Memory) → Sees old → KeepsView old new → new.view ≡ view (memory_state new)
kept_view old new sees keeps =
    keeps.view ∙ sees.view ∙ (λ i. after_each (nodes_of (sym keeps.held i)) (sym keeps.queue i))

pub begun_noted : (number : ℕ) (script : List ℕ) (option : OnConflict) (old new : Memory) (it : Running) → Sees old → KeepsView old new
    → new.durable.last ≡ number → new.durable.running.items ≡ old.durable.running.items ++ it ∷ []
    → transaction it ≡ record { number = number; script = script; option = option; base = old.view; acts = [] } → it.first ≡ false
    → StandsOn old.view it → IsNoted old (Begun number script option) new
begun_noted number script option old new it sees keeps last run is class stands =
    let before : List Running = old.durable.running.items in
    let one : transaction it
    ≡ record { number = number; script = script; option = option; base = view (memory_state old); acts = [] } =
    is ∙ ap (λ (t : Nodes). record { number = number; script = script; option = option; base = t; acts = [] }) sees.view in
    record {
      state = state_is (memory_state new) (after (memory_state old) (Begun number script option)) (ap nodes_of keeps.held) keeps.queue
          (ap transactions run ∙ transactions_more before it ∙ ap (λ (last : Transaction). transactions before ++ last ∷ []) one)
          last keeps.access;
      makes = record {
        stamps = keeps.held;
        class = ap classes_of run ∙ classes_more before it ∙ ap (λ (first : Bool). classes_of before ++ first ∷ []) class;
      };
      sees = record {
        view = kept_view old new sees keeps;
        running = subst (λ (t : Nodes). AllByRecursion (StandsOn t) new.durable.running.items) (sym keeps.view)
            (subst (AllByRecursion (StandsOn old.view)) (sym run) (one_more (StandsOn old.view) before it stands sees.running));
      };
    }

module _ (number at : ℕ) (old new : Memory) (it it_ : Running) (sees : Sees old) (keeps : KeepsView old new)
    (last : new.durable.last ≡ old.durable.last) (place : IsPlace number old.durable.running.items at)
    (is : it ≡ slice_index_or old.durable.running.items at it) (run : new.durable.running.items ≡ slice_set old.durable.running.items at it_)
    (class : it_.first ≡ it.first) where
  -- the one with this number does
  changed_state : (change : Transaction → Transaction) → transaction it_ ≡ change (transaction it)
      → memory_state new
      ≡ record (memory_state old) { running = with_running number change (transactions old.durable.running.items) }
  changed_state change same =
      state_is (memory_state new)
      (record (memory_state old) { running = with_running number change (transactions old.durable.running.items) })
      (ap nodes_of keeps.held) keeps.queue
      (ap transactions run ∙ changed_here old.durable.running.items number at it place is change it_ same) last keeps.access

  changed_classes : classes_of new.durable.running.items ≡ classes_of old.durable.running.items
  changed_classes = ap classes_of run ∙ class_here old.durable.running.items number at it place is it_ class

  changed_sees : StandsOn old.view it_ → Sees new
  changed_sees stands = record {
    view = kept_view old new sees keeps;
    running = subst (λ (t : Nodes). AllByRecursion (StandsOn t) new.durable.running.items) (sym keeps.view)
        (subst (AllByRecursion (StandsOn old.view)) (sym run)
        (set_place (StandsOn old.view) old.durable.running.items at it_ stands sees.running));
  }

  pub acted_noted : (act : Act) → transaction it_ ≡ with_act act (transaction it)
      → ((t : Nodes) → StandsOn t it → StandsOn t it_) → IsNoted old (Acted number act) new
  acted_noted act same stands = record {
    state = changed_state (with_act act) same;
    makes = record { stamps = keeps.held; class = changed_classes };
    sees = changed_sees (stands old.view (stands_here old.durable.running.items number at it place is old.view sees.running));
  }

  pub again_noted : transaction it_ ≡ anew old.view (transaction it) → StandsOn old.view it_ → IsNoted old (Again number) new
  again_noted same stands = record {
    state = changed_state (anew (view (memory_state old))) (same ∙ ap (λ (t : Nodes). anew t (transaction it)) sees.view);
    makes = record { stamps = keeps.held; class = changed_classes };
    sees = changed_sees stands;
  }

-- ---- one joins those that wait

-- its updates are made on the view, and it no longer runs
pub record Joins (at : ℕ) (item : Item) (old new : Memory) : Type 0 where
  pub held : new.durable.held ≡ old.durable.held
  pub view : new.view ≡ after_acts old.view item.acts
  pub queue : new.durable.queue ≡ old.durable.queue ++ item ∷ []
  pub running : new.durable.running.items ≡ map past (remove old.durable.running.items at)
  pub last : new.durable.last ≡ old.durable.last
  pub access : new.durable.access ≡ old.durable.access

joined_sees : (at : ℕ) (item : Item) (old new : Memory) → Sees old → Joins at item old new → Sees new
joined_sees at item old new sees joins = record {
  view = joins.view ∙ ap (λ (t : Nodes). after_acts t item.acts) sees.view ∙ sym (joined_view (memory_state old) item)
      ∙ (λ i. after_each (nodes_of (sym joins.held i)) (sym joins.queue i));
  running = subst (AllByRecursion (StandsOn new.view)) (sym joins.running)
      (past_stand old.view new.view (remove old.durable.running.items at)
      (without_place (StandsOn old.view) old.durable.running.items at sees.running));
}

pub ended_noted : (number at : ℕ) (old new : Memory) (it : Running) (item : Item) → Sees old → IsPlace number old.durable.running.items at
    → it ≡ slice_index_or old.durable.running.items at it → item ≡ waiting ACT_LIMIT it.acts (transaction it) → Joins at item old new
    → IsNoted old (Ended number) new
ended_noted number at old new it item sees place is same joins =
    let before : List Running = old.durable.running.items in
    record {
      state = state_is (memory_state new) (after (memory_state old) (Ended number)) (ap nodes_of joins.held)
          (joins.queue ∙ ap (λ (more : List Item). old.durable.queue ++ more) (ended_here before number at it place is item same))
          (ap transactions joins.running ∙ past_transactions (remove before at) ∙ place_others number before at place)
          joins.last joins.access;
      makes = record {
        stamps = joins.held;
        class = ap classes_of joins.running ∙ past_classes (remove before at) ∙ place_other_classes number before at place;
      };
      sees = joined_sees at item old new sees joins;
    }

-- the first one
pub first_here : (running : List Running) (number : ℕ) (it : Running) (Q : Transaction → Type 0) → it ≡ slice_index_or running 0 it
    → FirstRunIs number Q (transactions running) → Q (transaction it)
first_here [] number it Q is runs = absurd runs
first_here (one ∷ running) number it Q is runs = subst (λ (one : Running). Q (transaction one)) (sym is) runs.1

cut_is : (number acts : ℕ) (running : List Running) (it : Running) (item : Item) (Q : Transaction → Type 0) (state : State)
    → it ≡ slice_index_or running 0 it → item ≡ waiting acts (take acts it.acts) (transaction it)
    → FirstRunIs number Q (transactions running)
    → cut acts (transactions running) state
    ≡ record state { items = state.items ++ item ∷ []; running = transactions (remove running 0) }
cut_is number acts [] it item Q state is same runs = absurd runs
cut_is number acts (one ∷ running) it item Q state is same runs =
    let kept : waiting acts (take acts one.acts) (transaction one) ≡ item =
    ap (λ (one : Running). waiting acts (take acts one.acts) (transaction one)) (sym is) ∙ sym same in
    (λ i. record state { items = state.items ++ kept i ∷ []; running = transactions running })

pub cut_noted : (number acts : ℕ) (old new : Memory) (it : Running) (item : Item) → CanFollow (memory_state old) (Cut number acts)
    → Sees old → it ≡ slice_index_or old.durable.running.items 0 it → item ≡ waiting acts (take acts it.acts) (transaction it)
    → Joins 0 item old new → IsNoted old (Cut number acts) new
cut_noted number acts old new it item follows sees is same joins =
    let before : List Running = old.durable.running.items in
    let joined : State = record (memory_state old) {
      items = old.durable.queue ++ item ∷ [];
      running = transactions (remove before 0);
    } in
    record {
      state = state_is (memory_state new) joined (ap nodes_of joins.held) joins.queue
          (ap transactions joins.running ∙ past_transactions (remove before 0)) joins.last joins.access
          ∙ sym (cut_is number acts before it item (λ (it : Transaction). IsLongest (view (memory_state old)) it.acts acts)
          (memory_state old) is same follows);
      makes = record {
        stamps = joins.held;
        class = ap classes_of joins.running ∙ past_classes (remove before 0) ∙ first_classes before;
      };
      sees = joined_sees 0 item old new sees joins;
    }
  where
    first_classes : (running : List Running) → classes_of (remove running 0) ≡ drop 1 (classes_of running)
    first_classes [] = refl
    first_classes (it ∷ running) = refl

-- its updates fit the view
pub joins_fit : (memory : Memory) (acts : List Act) → Sees memory → ActsHold (view (memory_state memory)) acts
    → UpdatesFit memory.view acts
joins_fit memory acts sees hold =
    subst (λ (t : Nodes). UpdatesFit t acts) (sym sees.view) (holds_fit (view (memory_state memory)) acts hold)

-- ---- the first one that waits changes

pub head_noted : (result : Result (Unit {0}) NoMemory) (old : Memory) (change : Change) (now : Durable) → Sees old
    → view (after (memory_state old) change) ≡ view (memory_state old)
    → ((running : List Transaction) (classes : List Bool) → classes_after change running classes ≡ classes)
    → OnOk result (durable_state now ≡ after (memory_state old) change) → OnOk result (now.running ≡ old.durable.running)
    → OnOk result (now.held ≡ restamped old.durable.queue old.durable.held change)
    → OnOk result (IsNoted old change (record { durable = now; view = old.view }))
head_noted (Ok done) old change now sees same classes is run stamps = record {
  state = is;
  makes = record {
    stamps = stamps;
    class = ap (λ running. classes_of running.items) run
        ∙ sym (classes (memory_state old).running (classes_of old.durable.running.items));
  };
  sees = record {
    view = sees.view ∙ sym same ∙ ap view (sym is);
    running = subst (λ running. AllByRecursion (StandsOn old.view) running.items) (sym run) sees.running;
  };
}
head_noted (Err fault) old change now sees same classes is run stamps = tt
