-- The parts of a client's body and the states that they make.
use Rattle.std.proofs.Common.{◌≡◌, List, [], ◌∷◌, map, refl, sym, ap, subst, arith}
use Rattle.std.proofs.lemmas.List.{length-map}
use Rattle.std.specs.List.{AllByRecursion}
use Rattle.iot_tree.specs.declared.access.Access.{Access}
use Rattle.iot_access.specs.Access.{no_access}
use Rattle.iot_views.specs.Rules.{IsAccess}
use Rattle.iot_queue.specs.declared.items.Item.{Item}
use Rattle.iot_queue.specs.declared.items.Stage.{Stage}
use Rattle.iot_queue.specs.declared.items.Stage.TheVariants as stages
use Rattle.iot_bodies.specs.Rules.{IsStage, IsWaiting, IsRunning, IsClientBody, waiting_of}
use Rattle.iot_bodies.specs.declared.client.ClientBody.{ClientBody}
use Rattle.iot_bodies.specs.declared.client.Running.{Running as Spelled}
use Rattle.iot_bodies.specs.declared.client.Waiting.{Waiting}
use Rattle.iot_kept.specs.Bodies.{HeadStands, IsState, body_of, running_of}
use Rattle.iot_kept.specs.Reading.{AllWait, MayWait, SuitOwn, AllSuit, Passes, access_of, items_of, state_from, transaction_from}
use Rattle.iot_kept.specs.Spelled.{IsSpelledStage, IsSpelledItem, AreSpelledItems, IsSpelledRunning, AreSpelledRunning}
use Rattle.iot_kept.specs.States.{Transaction, State}
use Rattle.iot_kept.proofs.SpelledLaws.{nothing_spelled}
use Rattle.iot_kept.proofs.SuitingLaws.{all_hold, all_guarded, all_suit}

-- ---- parts that make a state

spelled_stage : (stage : Stage) (access : Access) → IsStage stage access → IsSpelledStage stage
spelled_stage stages.Waiting access is = tt
spelled_stage stages.Conflict access is = tt
spelled_stage stages.Manual access is = tt
spelled_stage (stages.Resolved done) access is = is.0

spelled_access : (stage : Stage) (access : Access) → IsStage stage access → IsAccess access
spelled_access stages.Waiting access is = subst IsAccess (sym is) nothing_spelled
spelled_access stages.Conflict access is = subst IsAccess (sym is) nothing_spelled
spelled_access stages.Manual access is = subst IsAccess (sym is) nothing_spelled
spelled_access (stages.Resolved done) access is = is.1

spelled_item : (it : Waiting) → IsWaiting it → IsSpelledItem it.item
spelled_item it is = record {
  number = is.number;
  script = is.script;
  budget = is.budget;
  acts = is.acts;
  option = is.option;
  stage = spelled_stage it.item.stage it.access is.stage;
}

spelled_items : (waiting : List Waiting) → AllByRecursion IsWaiting waiting → AreSpelledItems (items_of waiting)
spelled_items [] are = tt
spelled_items (it ∷ waiting) are = (spelled_item it are.0, spelled_items waiting are.1)

first_access : (waiting : List Waiting) → AllByRecursion IsWaiting waiting → IsAccess (access_of waiting)
first_access [] are = nothing_spelled
first_access (it ∷ waiting) are = let is : IsWaiting it = are.0 in spelled_access it.item.stage it.access is.stage

spelled_running : (it : Spelled) → IsRunning it → IsSpelledRunning (transaction_from it)
spelled_running it is = record { number = is.number; script = is.script; option = is.option; base = is.base; acts = is.acts }

spelled_each : (running : List Spelled) → AllByRecursion IsRunning running → AreSpelledRunning (map transaction_from running)
spelled_each [] are = tt
spelled_each (it ∷ running) are = (spelled_running it are.0, spelled_each running are.1)

head_stands : (waiting : List Waiting) → AllByRecursion IsWaiting waiting → MayWait (items_of waiting)
    → HeadStands (items_of waiting) (access_of waiting)
head_stands [] are may = refl
head_stands (it ∷ waiting) are may = let is : IsWaiting it = are.0 in (may.0, is.stage, may.1)

pub parts_state : (parts : ClientBody) → IsClientBody parts → AllByRecursion SuitOwn (map transaction_from parts.running)
    → Passes (state_from parts) → IsState (state_from parts)
parts_state parts is own passes =
    let suit : AllSuit (state_from parts) = record { items = passes.items; running = own } in
    record {
      spelled = record {
        held = is.held;
        items = spelled_items parts.items is.items;
        running = spelled_each parts.running is.running.each;
        last = is.last;
        access = first_access parts.items is.items;
      };
      hold = all_hold (state_from parts) suit;
      guarded = all_guarded (state_from parts) suit;
      few = omega (arith, is.running.few, length-map parts.running transaction_from);
      numbered = passes.numbered;
      head = head_stands parts.items is.items passes.waits;
    }

-- ---- and which are its parts

others_again : (waiting : List Waiting) → AllByRecursion IsWaiting waiting → AllWait (items_of waiting)
    → waiting_of (items_of waiting) no_access ≡ waiting
others_again [] are all = refl
others_again (it ∷ waiting) are all =
    let is : IsWaiting it = are.0 in
    let none : it.access ≡ no_access = subst (λ (s : Stage). IsStage s it.access) all.0 is.stage in
    let rest = others_again waiting are.1 all.1 in
    (λ i. record { item = it.item; access = sym none i } ∷ rest i)

items_again : (waiting : List Waiting) → AllByRecursion IsWaiting waiting → MayWait (items_of waiting)
    → waiting_of (items_of waiting) (access_of waiting) ≡ waiting
items_again [] are may = refl
items_again (it ∷ waiting) are may = ap (λ (rest : List Waiting). it ∷ rest) (others_again waiting are.1 may.1)

running_again : (running : List Spelled) → map running_of (map transaction_from running) ≡ running
running_again [] = refl
running_again (it ∷ running) = ap (λ (rest : List Spelled). it ∷ rest) (running_again running)

pub parts_again : (parts : ClientBody) → IsClientBody parts → MayWait (items_of parts.items) → body_of (state_from parts) ≡ parts
parts_again parts is may =
    let items = items_again parts.items is.items may in
    (λ i. record { held = parts.held; items = items i; running = running_again parts.running i; last = parts.last })

-- ---- a state as parts

items_back : (items : List Item) (access : Access) → items_of (waiting_of items access) ≡ items
items_back [] access = refl
items_back (item ∷ items) access = ap (λ (rest : List Item). item ∷ rest) (items_back items no_access)

access_back : (items : List Item) (access : Access) → HeadStands items access → access_of (waiting_of items access) ≡ access
access_back [] access head = sym head
access_back (item ∷ items) access head = refl

running_back : (running : List Transaction) → map transaction_from (map running_of running) ≡ running
running_back [] = refl
running_back (it ∷ running) = ap (λ (rest : List Transaction). it ∷ rest) (running_back running)

pub state_again : (state : State) → HeadStands state.items state.access → state_from (body_of state) ≡ state
state_again state head =
    let access = access_back state.items state.access head in
    (λ i. record {
      held = state.held;
      items = items_back state.items state.access i;
      running = running_back state.running i;
      last = state.last;
      access = access i;
    })

-- its parts have a spelling
waits : (item : Item) (access : Access) → IsSpelledItem item → IsStage item.stage access
    → IsWaiting (record { item = item; access = access })
waits item access is stage = record {
  number = is.number;
  script = is.script;
  budget = is.budget;
  acts = is.acts;
  option = is.option;
  stage = stage;
}

others_wait : (items : List Item) → AreSpelledItems items → AllWait items → AllByRecursion IsWaiting (waiting_of items no_access)
others_wait [] are all = tt
others_wait (item ∷ items) are all =
    (waits item no_access are.0 (subst (λ (s : Stage). IsStage s no_access) (sym all.0) refl), others_wait items are.1 all.1)

all_wait : (items : List Item) (access : Access) → AreSpelledItems items → HeadStands items access
    → AllByRecursion IsWaiting (waiting_of items access)
all_wait [] access are head = tt
all_wait (item ∷ items) access are head = (waits item access are.0 head.1, others_wait items are.1 head.2)

runs : (it : Transaction) → IsSpelledRunning it → IsRunning (running_of it)
runs it is = record { number = is.number; script = is.script; option = is.option; base = is.base; acts = is.acts }

each_runs : (running : List Transaction) → AreSpelledRunning running → AllByRecursion IsRunning (map running_of running)
each_runs [] are = tt
each_runs (it ∷ running) are = (runs it are.0, each_runs running are.1)

pub state_parts : (state : State) → IsState state → IsClientBody (body_of state)
state_parts state is = record {
  held = is.spelled.held;
  items = all_wait state.items state.access is.spelled.items is.head;
  running = record {
    few = omega (arith, is.few, length-map state.running running_of);
    each = each_runs state.running is.spelled.running;
  };
  last = is.spelled.last;
}

-- and it passes the tests
may_wait : (items : List Item) (access : Access) → HeadStands items access → MayWait items
may_wait [] access head = tt
may_wait (item ∷ items) access head = (head.0, head.2)

pub state_suits : (state : State) → IsState state → AllSuit state
state_suits state is = all_suit state is.hold is.guarded

pub state_passes : (state : State) → IsState state → Passes state
state_passes state is = record {
  numbered = is.numbered;
  waits = may_wait state.items state.access is.head;
  items = (state_suits state is).items;
}
