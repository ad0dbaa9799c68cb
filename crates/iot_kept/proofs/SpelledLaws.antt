-- Changes that have spellings keep that all parts of a state have them.
use Rattle.std.proofs.Common.{◌≡◌, ◌≤◌, ℕ, zero, suc, ◌<◌, List, [], ◌∷◌, ◌++◌, length, take, Option, Some, None}
use Rattle.std.proofs.Common.{refl, sym, subst, arith, lit<, length-append}
use Rattle.std.proofs.lemmas.List.{length-take-le}
use Rattle.std.specs.List.{AllByRecursion}
use Rattle.iot_text.specs.Names.{IsName}
use Rattle.iot_tree.specs.Tree.{Nodes, root_alone}
use Rattle.iot_tree.specs.declared.access.Access.{Access}
use Rattle.iot_tree.specs.declared.acts.Act.{Act}
use Rattle.iot_tree.specs.declared.labels.OnConflict.{OnConflict}
use Rattle.iot_tree.specs.declared.labels.OnConflict.TheVariants as options
use Rattle.iot_tree.specs.declared.limits.TheConstants.{ACT_LIMIT}
use Rattle.iot_tree.specs.declared.nodes.Node.TheVariants.{FarDir}
use Rattle.iot_tree.specs.declared.updates.Update.{Update}
use Rattle.iot_access.specs.Access.{no_access}
use Rattle.iot_acts.specs.Traces.{ActsHold, FitsIfAny, after_update, after_acts}
use Rattle.iot_views.specs.Rules.{IsAccess, IsNumber, IsOptionalUpdate, IsAct, AreActs, IsTreeOfRows, IsBudget}
use Rattle.iot_queue.specs.Queues.{with_head, staged}
use Rattle.iot_queue.specs.declared.items.Item.{Item}
use Rattle.iot_queue.specs.declared.items.Stage.{Stage}
use Rattle.iot_queue.specs.declared.items.Stage.TheVariants as stages
use Rattle.iot_bodies.proofs.TreesLaws.{root_of_rows, rows_updated}
use Rattle.iot_changes.specs.Rules.{IsChange}
use Rattle.iot_changes.specs.declared.changes.Change.{Change}
use Rattle.iot_changes.specs.declared.changes.Change.TheVariants.{Held, Begun, Fetched, Acted, Ended, Cut, Conflicted, Resolved}
use Rattle.iot_changes.specs.declared.changes.Change.TheVariants.{Repaired, Left, Again}
use Rattle.iot_certify.specs.Verdicts.{IsLongest}
use Rattle.iot_kept.specs.States.{Transaction, State, opening, numbered, EachHold, AllHold, view, after_each}
use Rattle.iot_kept.specs.Changes.{CanFollow, FirstRunIs, CanAct, anew, with_act, waiting, ended, cut, left, stage_by, stays_in}
use Rattle.iot_kept.specs.Changes.{conflicted, repaired, after}
use Rattle.iot_kept.specs.Spelled.{IsSpelledStage, IsSpelledItem, AreSpelledItems, IsSpelledRunning, AreSpelledRunning, IsSpelledState}
use Rattle.iot_kept.proofs.StatesLaws.{changed, run_push, run_others, run_changed, run_found}

-- ---- trees whose rows have spellings

-- after an update that has a spelling and fits, if there is one
pub rows_after : (t : Nodes) (update : Option Update) → IsOptionalUpdate update → FitsIfAny t update → IsTreeOfRows t
    → IsTreeOfRows (after_update t update)
rows_after t None is fits rows = rows
rows_after t (Some update) is fits rows = rows_updated t update is fits rows

-- after acts that have spellings and hold
pub rows_after_acts : (t : Nodes) (acts : List Act) → AllByRecursion IsAct acts → ActsHold t acts → IsTreeOfRows t
    → IsTreeOfRows (after_acts t acts)
rows_after_acts t [] are hold rows = rows
rows_after_acts t (act ∷ acts) are hold rows =
    let is : IsAct act = are.0 in
    rows_after_acts (after_update t act.update) acts are.1 hold.2 (rows_after t act.update is.update hold.1 rows)

-- the tree of which nothing is known
pub far_root_rows : IsTreeOfRows (root_alone FarDir)
far_root_rows = root_of_rows FarDir refl tt

-- ---- lists

module _ {X : Type 0} (P : X → Type 0) where
  all_joined : (xs more : List X) → AllByRecursion P xs → AllByRecursion P more → AllByRecursion P (xs ++ more)
  all_joined [] more all rest = rest
  all_joined (x ∷ xs) more all rest = (all.0, all_joined xs more all.1 rest)

-- ---- those that run

no_acts : AreActs []
no_acts = record { few = omega arith; each = tt }

more_acts : (acts : List Act) (act : Act) → length acts < ACT_LIMIT → AreActs acts → IsAct act → AreActs (acts ++ act ∷ [])
more_acts acts act less are is = record {
  few = omega (arith, length-append acts (act ∷ []));
  each = all_joined IsAct acts (act ∷ []) are.each (is, tt);
}

again_spelled : (t : Nodes) (it : Transaction) → IsTreeOfRows t → IsSpelledRunning it → IsSpelledRunning (anew t it)
again_spelled t it tree is = record { number = is.number; script = is.script; option = is.option; base = tree; acts = no_acts }

acted_spelled : (act : Act) (it : Transaction) → length it.acts < ACT_LIMIT → IsAct act → IsSpelledRunning it
    → IsSpelledRunning (with_act act it)
acted_spelled act it less is spelled = record {
  number = spelled.number;
  script = spelled.script;
  option = spelled.option;
  base = spelled.base;
  acts = more_acts it.acts act less spelled.acts is;
}

take_acts : (n : ℕ) (acts : List Act) → AllByRecursion IsAct acts → AllByRecursion IsAct (take n acts)
take_acts zero acts all = tt
take_acts (suc n) [] all = tt
take_acts (suc n) (act ∷ acts) all = (all.0, take_acts n acts all.1)

first_acts : (n : ℕ) (acts : List Act) → n ≤ length acts → AreActs acts → AreActs (take n acts)
first_acts n acts few are = record {
  few = omega (arith, length-take-le n acts few, few, are.few);
  each = take_acts n acts are.each;
}

waits_spelled : (budget : ℕ) (acts : List Act) (it : Transaction) → IsBudget budget → AreActs acts → IsSpelledRunning it
    → IsSpelledItem (waiting budget acts it)
waits_spelled budget acts it few are is = record {
  number = is.number;
  script = is.script;
  budget = few;
  acts = are;
  option = is.option;
  stage = tt;
}

-- so have their numbers
pub numbers_spelled : (running : List Transaction) → AreSpelledRunning running
    → AllByRecursion (λ (it : Transaction). IsNumber it.number) running
numbers_spelled [] are = tt
numbers_spelled (it ∷ running) are = let is : IsSpelledRunning it = are.0 in (is.number, numbers_spelled running are.1)

ended_spelled : (number : ℕ) (running : List Transaction) (found : Option Transaction) → numbered number running ≡ found
    → AreSpelledRunning running → AreSpelledItems (ended found)
ended_spelled number running None is all = tt
ended_spelled number running (Some it) is all =
    let this : IsSpelledRunning it = run_found IsSpelledRunning number running it is all in
    (waits_spelled ACT_LIMIT it.acts it (omega arith) this.acts this, tt)

cut_spelled : (number acts : ℕ) (running : List Transaction) (state : State) → running ≡ state.running
    → FirstRunIs number (λ it. IsLongest (view state) it.acts acts) running → IsSpelledState state → IsSpelledState (cut acts running state)
cut_spelled number acts [] state same is spelled = spelled
cut_spelled number acts (it ∷ running) state same is spelled =
    let all : AreSpelledRunning (it ∷ running) = subst AreSpelledRunning (sym same) spelled.running in
    let this : IsSpelledRunning it = all.0 in
    let few : acts ≤ length it.acts = is.1.few in
    record {
      held = spelled.held;
      items = all_joined IsSpelledItem state.items (waiting acts (take acts it.acts) it ∷ []) spelled.items
          (waits_spelled acts (take acts it.acts) it (omega (arith, few, this.acts.few)) (first_acts acts it.acts few this.acts) this, tt);
      running = all.1;
      last = spelled.last;
      access = spelled.access;
    }

-- the view has a spelling
each_rows : (t : Nodes) (items : List Item) → AreSpelledItems items → EachHold t items → IsTreeOfRows t → IsTreeOfRows (after_each t items)
each_rows t [] are hold rows = rows
each_rows t (item ∷ items) are hold rows =
    let this : IsSpelledItem item = are.0 in
    each_rows (after_acts t item.acts) items are.1 hold.1 (rows_after_acts t item.acts this.acts.each hold.0 rows)

pub view_rows : (state : State) → IsSpelledState state → AllHold state → IsTreeOfRows (view state)
view_rows state spelled hold = each_rows state.held state.items spelled.items hold.items spelled.held

-- ---- the head

pub nothing_spelled : IsAccess no_access
nothing_spelled = record { bases = record { even = refl; reads = tt; places = tt }; updates = tt }

staged_spelled : (stage : Stage) (item : Item) → IsSpelledStage stage → IsSpelledItem item → IsSpelledItem (staged stage item)
staged_spelled stage item has is = record {
  number = is.number;
  script = is.script;
  budget = is.budget;
  acts = is.acts;
  option = is.option;
  stage = has;
}

repaired_spelled : (script : List ℕ) (item : Item) → IsName script → IsSpelledItem item → IsSpelledItem (repaired script item)
repaired_spelled script item named is = record {
  number = is.number;
  script = is.script;
  budget = is.budget;
  acts = is.acts;
  option = named;
  stage = tt;
}

head_spelled : (change : Item → Item) (items : List Item) → ((item : Item) → IsSpelledItem item → IsSpelledItem (change item))
    → AreSpelledItems items → AreSpelledItems (with_head change items)
head_spelled change [] each are = tt
head_spelled change (item ∷ items) each are = (each item are.0, are.1)

changed_spelled : (change : Item → Item) (access : Access) (state : State)
    → ((item : Item) → IsSpelledItem item → IsSpelledItem (change item)) → IsAccess access → IsSpelledState state
    → IsSpelledState (changed change access state)
changed_spelled change access state each has is = record {
  held = is.held;
  items = head_spelled change state.items each is.items;
  running = is.running;
  last = is.last;
  access = has;
}

left_spelled : (items : List Item) (state : State) → items ≡ state.items → AllHold state → IsSpelledState state
    → IsSpelledState (left state items)
left_spelled [] state same hold is = is
left_spelled (item ∷ items) state same hold is =
    let head = subst AreSpelledItems (sym same) is.items in
    let first : IsSpelledItem item = head.0 in
    record {
      held = rows_after_acts state.held item.acts first.acts.each (subst (EachHold state.held) (sym same) hold.items).0 is.held;
      items = head.1;
      running = is.running;
      last = is.last;
      access = nothing_spelled;
    }

stays_spelled : (option : OnConflict) (state : State) → AllHold state → IsSpelledState state
    → IsSpelledState (stays_in (stage_by option) state)
stays_spelled options.Reexec state hold is =
    changed_spelled (staged stages.Conflict) no_access state (λ item. staged_spelled stages.Conflict item tt) nothing_spelled is
stays_spelled (options.Resolver script) state hold is =
    changed_spelled (staged stages.Conflict) no_access state (λ item. staged_spelled stages.Conflict item tt) nothing_spelled is
stays_spelled options.Abort state hold is = left_spelled state.items state refl hold is
stays_spelled options.Manual state hold is =
    changed_spelled (staged stages.Manual) no_access state (λ item. staged_spelled stages.Manual item tt) nothing_spelled is

conflicted_spelled : (items : List Item) (state : State) → AllHold state → IsSpelledState state → IsSpelledState (conflicted state items)
conflicted_spelled [] state hold is = is
conflicted_spelled (item ∷ items) state hold is = stays_spelled item.option state hold is

-- ---- every change

-- a change that has a spelling and can follow
pub keeps_spelled : (state : State) (change : Change) → IsChange change → CanFollow state change → AllHold state → IsSpelledState state
    → IsSpelledState (after state change)
keeps_spelled state (Held tree) is follows hold spelled = record {
  held = is;
  items = spelled.items;
  running = spelled.running;
  last = spelled.last;
  access = spelled.access;
}
keeps_spelled state (Begun number script option) is follows hold spelled = record {
  held = spelled.held;
  items = spelled.items;
  running = run_push IsSpelledRunning state.running _
      (record { number = is.0; script = is.1.0; option = is.1.1; base = view_rows state spelled hold; acts = no_acts }) spelled.running;
  last = is.0;
  access = spelled.access;
}
keeps_spelled state (Fetched number tree) is follows hold spelled = record {
  held = is.1;
  items = spelled.items;
  running = run_changed IsSpelledRunning number _ _ state.running
      (λ it here own. again_spelled (after_each tree state.items) it
      (subst (λ (items : List Item). IsTreeOfRows (after_each tree items)) (sym follows.1) is.1) own)
      follows.0 spelled.running;
  last = spelled.last;
  access = spelled.access;
}
keeps_spelled state (Acted number act) is follows hold spelled = record {
  held = spelled.held;
  items = spelled.items;
  running = run_changed IsSpelledRunning number (CanAct act) (with_act act) state.running
      (λ it can own. acted_spelled act it can.0 is.1 own) follows spelled.running;
  last = spelled.last;
  access = spelled.access;
}
keeps_spelled state (Ended number) is follows hold spelled = record {
  held = spelled.held;
  items = all_joined IsSpelledItem state.items (ended (numbered number state.running)) spelled.items
      (ended_spelled number state.running (numbered number state.running) refl spelled.running);
  running = run_others IsSpelledRunning number state.running spelled.running;
  last = spelled.last;
  access = spelled.access;
}
keeps_spelled state (Cut number acts) is follows hold spelled = cut_spelled number acts state.running state refl follows spelled
keeps_spelled state (Again number) is follows hold spelled = record {
  held = spelled.held;
  items = spelled.items;
  running = run_changed IsSpelledRunning number _ _ state.running
      (λ it here own. again_spelled (view state) it (view_rows state spelled hold) own) follows spelled.running;
  last = spelled.last;
  access = spelled.access;
}
keeps_spelled state Conflicted is follows hold spelled = conflicted_spelled state.items state hold spelled
keeps_spelled state (Resolved done access) is follows hold spelled =
    changed_spelled (staged (stages.Resolved done)) access state (λ item. staged_spelled (stages.Resolved done) item is.0) is.1 spelled
keeps_spelled state (Repaired script) is follows hold spelled =
    changed_spelled (repaired script) no_access state (λ item. repaired_spelled script item is) nothing_spelled spelled
keeps_spelled state Left is follows hold spelled = left_spelled state.items state refl hold spelled

-- before the first change
pub opening_spelled : IsSpelledState opening
opening_spelled = record { held = far_root_rows; items = tt; running = tt; last = lit< tt; access = nothing_spelled }
