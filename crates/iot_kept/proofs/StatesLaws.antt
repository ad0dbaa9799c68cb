-- Changes keep that all acts hold in turn and are guarded; and what they make of the view.
use Rattle.std.proofs.Common.{◌≡◌, ◌==◌, ℕ, zero, suc, Bool, true, false, cond, List, [], ◌∷◌, ◌++◌, Option, Some, None, take, refl, sym, ap}
use Rattle.std.proofs.Common.{subst, ◌∙◌, arith}
use Rattle.std.proofs.lemmas.Bool.Decides.{nat_tests}
use Rattle.std.specs.List.{AllByRecursion}
use Rattle.iot_tree.specs.Tree.{Nodes}
use Rattle.iot_tree.specs.declared.access.Access.{Access}
use Rattle.iot_tree.specs.declared.acts.Act.{Act}
use Rattle.iot_access.specs.Access.{no_access}
use Rattle.iot_acts.specs.Traces.{ActsHold, after_update, after_acts}
use Rattle.iot_acts.specs.Guards.{IsGuarded, AllGuarded}
use Rattle.iot_stamp.specs.Acting.{UpdatesFit, stamped_acts}
use Rattle.iot_stamp.specs.Stamps.{Stamps, nodes_of}
use Rattle.iot_stamp.proofs.ActingLaws.{nodes_after_acts, holds_fit}
use Rattle.iot_queue.specs.declared.items.Item.{Item}
use Rattle.iot_kept.specs.States.{Transaction, State, opening, after_each, view, has_number, numbered}
use Rattle.iot_kept.specs.States.{EachHold, HoldsOwn, AllHold, EachGuarded, IsGuardedOwn, AreGuarded}
use Rattle.iot_queue.specs.Queues.{with_head, staged}
use Rattle.iot_queue.specs.declared.items.Resolution.{Resolution}
use Rattle.iot_queue.specs.declared.items.Stage.{Stage}
use Rattle.iot_queue.specs.declared.items.Stage.TheVariants as stages
use Rattle.iot_changes.specs.declared.changes.Change.{Change}
use Rattle.iot_changes.specs.declared.changes.Change.TheVariants.{Held, Begun, Fetched, Acted, Ended, Cut, Conflicted, Resolved}
use Rattle.iot_changes.specs.declared.changes.Change.TheVariants.{Repaired, Left, Again}
use Rattle.iot_certify.specs.Verdicts.{IsLongest}
use Rattle.iot_kept.specs.Changes.{CanFollow, IsSomeOf, RunIs, FirstRunIs, CanAct, HeadIs, IsSubmitted, IsSubmittedIn, MayLeave, MayLeaveIn}
use Rattle.iot_kept.specs.Changes.{with_running, with_act, others, waiting, ended, cut, left, stage_by, stays_in, conflicted, repaired, after}
use Rattle.iot_kept.specs.Stamps.{stamps_left}

-- ---- acts and items in turn

pub after_more : (acts : List Act) (act : Act) (t : Nodes) → after_acts t (acts ++ act ∷ []) ≡ after_update (after_acts t acts) act.update
after_more [] act t = refl
after_more (first ∷ later) act t = after_more later act (after_update t first.update)

hold_more : (acts : List Act) (act : Act) (t : Nodes) → ActsHold t acts → ActsHold (after_acts t acts) (act ∷ [])
    → ActsHold t (acts ++ act ∷ [])
hold_more [] act t hold more = more
hold_more (first ∷ later) act t hold more = (hold.0, hold.1, hold_more later act (after_update t first.update) hold.2 more)

-- the updates of the head fit
pub head_fits : (item : Item) (items queue : List Item) (t : Nodes) → queue ≡ item ∷ items → EachHold t queue → UpdatesFit t item.acts
head_fits item items queue t is hold = holds_fit t item.acts (subst (EachHold t) is hold).0

-- what the head leaves behind
pub left_made : (held new : Stamps) (items rest : List Item) (running : List Transaction) (last : ℕ) (access now : Access) (head : Item)
    → items ≡ head ∷ rest → new ≡ stamped_acts held head.acts 0 → now ≡ no_access
    → record { held = nodes_of new; items = rest; running = running; last = last; access = now }
    ≡ left (record { held = nodes_of held; items = items; running = running; last = last; access = access }) items
left_made held new items rest running last access now head is made none =
    let tree : nodes_of new ≡ after_acts (nodes_of held) head.acts = ap nodes_of made ∙ nodes_after_acts 0 held head.acts in
    (λ i. record { held = tree i; items = rest; running = running; last = last; access = none i })
    ∙ sym (ap (λ queue. left (record { held = nodes_of held; items = items; running = running; last = last; access = access }) queue) is)

pub stamps_made : (held new : Stamps) (items rest : List Item) (head : Item) → items ≡ head ∷ rest → new ≡ stamped_acts held head.acts 0
    → new ≡ stamps_left held items
stamps_made held new items rest head is made = made ∙ sym (ap (stamps_left held) is)

each_more : (items more : List Item) (t : Nodes) → EachHold t items → EachHold (after_each t items) more → EachHold t (items ++ more)
each_more [] more t hold own = own
each_more (item ∷ items) more t hold own = (hold.0, each_more items more (after_acts t item.acts) hold.1 own)

after_each_more : (items more : List Item) (t : Nodes) → after_each t (items ++ more) ≡ after_each (after_each t items) more
after_each_more [] more t = refl
after_each_more (item ∷ items) more t = after_each_more items more (after_acts t item.acts)

-- ---- those that run

module _ (P : Transaction → Type 0) where
  pub run_push : (running : List Transaction) (it : Transaction) → P it → AllByRecursion P running → AllByRecursion P (running ++ it ∷ [])
  run_push [] it this all = (this, tt)
  run_push (first ∷ running) it this all = (all.0, run_push running it this all.1)

  module _ (number : ℕ) where
    pub run_others : (running : List Transaction) → AllByRecursion P running → AllByRecursion P (others number running)
    run_others [] all = tt
    run_others (it ∷ running) all = by_test (run_others running all.1) (has_number number it)
      where
        by_test : AllByRecursion P (others number running) → (b : Bool) → AllByRecursion P (cond b running (it ∷ others number running))
        by_test rest true = all.1
        by_test rest false = (all.0, rest)

    -- the one with this number changes, of which this is so
    pub run_changed : (Q : Transaction → Type 0) (change : Transaction → Transaction) (running : List Transaction)
        → ((it : Transaction) → Q it → P it → P (change it)) → RunIs number Q running → AllByRecursion P running
        → AllByRecursion P (with_running number change running)
    run_changed Q change [] goes is all = tt
    run_changed Q change (it ∷ running) goes is all =
        by_test (λ later. run_changed Q change running goes later all.1) (has_number number it) is
      where
        by_test : (RunIs number Q running → AllByRecursion P (with_running number change running)) → (b : Bool)
            → IsSomeOf Q (cond b (Some it) (numbered number running))
            → AllByRecursion P (cond b (change it ∷ running) (it ∷ with_running number change running))
        by_test rest true is = (goes it is all.0, all.1)
        by_test rest false is = (all.0, rest is)

    -- it is one of them
    pub run_found : (running : List Transaction) (it : Transaction) → numbered number running ≡ Some it → AllByRecursion P running → P it
    run_found [] it is all = absurd cc
    run_found (first ∷ running) it is all = by_test (λ later. run_found running it later all.1) (has_number number first) is
      where
        by_test : (numbered number running ≡ Some it → P it) → (b : Bool) → cond b (Some first) (numbered number running) ≡ Some it → P it
        by_test rest true is = let same : first ≡ it = cc in subst P same all.0
        by_test rest false is = rest is

has_equal : (number other : ℕ) → (other == number) ≡ true → other ≡ number
has_equal number other = grind (arith, nat_tests)

-- what is so of the number of each is so of the number of the one that runs
pub run_number : (P : ℕ → Type 0) (number : ℕ) (running : List Transaction) (Q : Transaction → Type 0) → RunIs number Q running
    → AllByRecursion (λ (it : Transaction). P it.number) running → P number
run_number P number [] Q is all = absurd is
run_number P number (it ∷ running) Q is all = by_test (λ later. run_number P number running Q later all.1) (has_number number it) refl is
  where
    by_test : (RunIs number Q running → P number) → (b : Bool) → has_number number it ≡ b
        → IsSomeOf Q (cond b (Some it) (numbered number running)) → P number
    by_test rest true same is = subst P (has_equal number it.number same) all.0
    by_test rest false same is = rest is

-- the one that ends as an item
ended_holds : (found : Option Transaction) (t : Nodes) → IsSomeOf (λ it. ActsHold t it.acts) found → EachHold t (ended found)
ended_holds None t own = tt
ended_holds (Some it) t own = (own, tt)

ended_guarded : (number : ℕ) (running : List Transaction) (found : Option Transaction) → numbered number running ≡ found
    → AllByRecursion IsGuardedOwn running → EachGuarded (ended found)
ended_guarded number running None is all = tt
ended_guarded number running (Some it) is all = (run_found IsGuardedOwn number running it is all, tt)

-- the one that is cut
cut_holds : (number acts : ℕ) (running : List Transaction) (state : State) → running ≡ state.running
    → FirstRunIs number (λ it. IsLongest (view state) it.acts acts) running → AllHold state → AllHold (cut acts running state)
cut_holds number acts [] state same is hold = hold
cut_holds number acts (it ∷ running) state same is hold = record {
  items = each_more state.items (waiting acts (take acts it.acts) it ∷ []) state.held hold.items (is.1.holds, tt);
  running = (subst (AllByRecursion HoldsOwn) (sym same) hold.running).1;
}

guarded_take : (n : ℕ) (acts : List Act) → AllGuarded acts → AllGuarded (take n acts)
guarded_take zero acts guarded = tt
guarded_take (suc n) [] guarded = tt
guarded_take (suc n) (act ∷ acts) guarded = (guarded.0, guarded_take n acts guarded.1)

each_guarded : (items more : List Item) → EachGuarded items → EachGuarded more → EachGuarded (items ++ more)
each_guarded [] more guarded own = own
each_guarded (item ∷ items) more guarded own = (guarded.0, each_guarded items more guarded.1 own)

cut_guarded : (acts : ℕ) (running : List Transaction) (state : State) → running ≡ state.running → AreGuarded state
    → AreGuarded (cut acts running state)
cut_guarded acts [] state same guarded = guarded
cut_guarded acts (it ∷ running) state same guarded =
    let all : AllByRecursion IsGuardedOwn (it ∷ running) = subst (AllByRecursion IsGuardedOwn) (sym same) guarded.running in
    record {
      items = each_guarded state.items (waiting acts (take acts it.acts) it ∷ []) guarded.items (guarded_take acts it.acts all.0, tt);
      running = all.1;
    }

-- ---- the head leaves

left_holds : (items : List Item) (state : State) → items ≡ state.items → AllHold state → AllHold (left state items)
left_holds [] state is hold = hold
left_holds (item ∷ items) state is hold = record {
  items = (subst (EachHold state.held) (sym is) hold.items).1;
  running = hold.running;
}

pub left_view : (items : List Item) (state : State) → items ≡ state.items → view (left state items) ≡ view state
left_view [] state is = refl
left_view (item ∷ items) state is = ap (after_each state.held) is

-- ---- the head changes, but not its acts

abbrev pub Keeps : (Item → Item) → Type 0
Keeps change = (item : Item) → (change item).acts ≡ item.acts

abbrev pub changed : (Item → Item) → Access → State → State
changed change access state = record state { items = with_head change state.items; access = access }

pub head_after : (change : Item → Item) (items : List Item) (t : Nodes) → Keeps change
    → after_each t (with_head change items) ≡ after_each t items
head_after change [] t same = refl
head_after change (item ∷ items) t same = ap (λ (acts : List Act). after_each (after_acts t acts) items) (same item)

head_holds : (change : Item → Item) (items : List Item) (t : Nodes) → Keeps change → EachHold t items
    → EachHold t (with_head change items)
head_holds change [] t same hold = hold
head_holds change (item ∷ items) t same hold = (
  subst (ActsHold t) (sym (same item)) hold.0,
  subst (λ (acts : List Act). EachHold (after_acts t acts) items) (sym (same item)) hold.1,
)

head_guarded : (change : Item → Item) (items : List Item) → Keeps change → EachGuarded items → EachGuarded (with_head change items)
head_guarded change [] same guarded = guarded
head_guarded change (item ∷ items) same guarded = (subst AllGuarded (sym (same item)) guarded.0, guarded.1)

pub changed_holds : (change : Item → Item) (access : Access) (state : State) → Keeps change → AllHold state
    → AllHold (changed change access state)
changed_holds change access state same hold = record {
  items = head_holds change state.items state.held same hold.items;
  running = hold.running;
}

pub changed_guarded : (change : Item → Item) (access : Access) (state : State) → Keeps change → AreGuarded state
    → AreGuarded (changed change access state)
changed_guarded change access state same guarded = record {
  items = head_guarded change state.items same guarded.items;
  running = guarded.running;
}

pub changed_view : (change : Item → Item) (access : Access) (state : State) → Keeps change
    → view (changed change access state) ≡ view state
changed_view change access state same = head_after change state.items state.held same

-- ---- the head conflicts

stays_holds : (stage : Option Stage) (state : State) → AllHold state → AllHold (stays_in stage state)
stays_holds (Some stage) state hold = changed_holds (staged stage) no_access state (λ item. refl) hold
stays_holds None state hold = left_holds state.items state refl hold

conflicted_holds : (items : List Item) (state : State) → AllHold state → AllHold (conflicted state items)
conflicted_holds [] state hold = hold
conflicted_holds (item ∷ items) state hold = stays_holds (stage_by item.option) state hold

stays_view : (stage : Option Stage) (state : State) → view (stays_in stage state) ≡ view state
stays_view (Some stage) state = changed_view (staged stage) no_access state (λ item. refl)
stays_view None state = left_view state.items state refl

pub conflicted_view : (items : List Item) (state : State) → view (conflicted state items) ≡ view state
conflicted_view [] state = refl
conflicted_view (item ∷ items) state = stays_view (stage_by item.option) state

-- a head that is submitted may leave
submitted_leaves : (stage : Stage) → IsSubmittedIn stage → MayLeaveIn stage
submitted_leaves stages.Waiting is = tt
submitted_leaves stages.Conflict is = is
submitted_leaves stages.Manual is = tt
submitted_leaves (stages.Resolved done) is = tt

pub submitted_may_leave : (items : List Item) → HeadIs IsSubmitted items → HeadIs MayLeave items
submitted_may_leave [] is = is
submitted_may_leave (item ∷ items) is = submitted_leaves item.stage is

-- ---- every change

pub keeps : (state : State) (change : Change) → CanFollow state change → AllHold state → AllHold (after state change)
keeps state (Held tree) follows hold = record { items = subst (EachHold tree) (sym follows) tt; running = hold.running }
keeps state (Begun number script option) follows hold = record {
  items = hold.items;
  running = run_push HoldsOwn state.running _ tt hold.running;
}
keeps state (Fetched number tree) follows hold = record {
  items = subst (EachHold tree) (sym follows.1) tt;
  running = run_changed HoldsOwn number _ _ state.running (λ it here own. tt) follows.0 hold.running;
}
keeps state (Acted number act) follows hold = record {
  items = hold.items;
  running = run_changed HoldsOwn number (CanAct act) (with_act act) state.running
      (λ it can own. hold_more it.acts act it.base own (can.3, can.2, tt)) follows hold.running;
}
keeps state (Ended number) follows hold = record {
  items = each_more state.items (ended (numbered number state.running)) state.held hold.items
      (ended_holds (numbered number state.running) (view state) follows);
  running = run_others HoldsOwn number state.running hold.running;
}
keeps state (Cut number acts) follows hold = cut_holds number acts state.running state refl follows hold
keeps state Left follows hold = left_holds state.items state refl hold
keeps state Conflicted follows hold = conflicted_holds state.items state hold
keeps state (Resolved done access) follows hold = changed_holds (staged (stages.Resolved done)) access state (λ item. refl) hold
keeps state (Repaired script) follows hold = changed_holds (repaired script) no_access state (λ item. refl) hold
keeps state (Again number) follows hold = record {
  items = hold.items;
  running = run_changed HoldsOwn number _ _ state.running (λ it here own. tt) follows hold.running;
}

-- before the first change all acts hold, since there are none
pub opening_holds : AllHold opening
opening_holds = record { items = tt; running = tt }

-- ---- the view after each

pub held_view : (state : State) (tree : Nodes) → state.items ≡ [] → after_each tree state.items ≡ tree
held_view state tree none = ap (after_each tree) none

-- those that wait, and one more
pub joined_view : (state : State) (item : Item) → after_each state.held (state.items ++ item ∷ []) ≡ after_acts (view state) item.acts
joined_view state item = after_each_more state.items (item ∷ []) state.held

-- the first that waits conflicts
pub view_conflicted : (state : State) → view (after state Conflicted) ≡ view state
view_conflicted state = conflicted_view state.items state

pub view_resolved : (state : State) (done : Resolution) (access : Access) → view (after state (Resolved done access)) ≡ view state
view_resolved state done access = changed_view (staged (stages.Resolved done)) access state (λ item. refl)

pub view_repaired : (state : State) (script : List ℕ) → view (after state (Repaired script)) ≡ view state
view_repaired state script = changed_view (repaired script) no_access state (λ item. refl)

pub view_left : (state : State) → view (after state Left) ≡ view state
view_left state = left_view state.items state refl

-- ---- guarded acts

guarded_more : (acts : List Act) (act : Act) → AllGuarded acts → IsGuarded act → AllGuarded (acts ++ act ∷ [])
guarded_more [] act guarded more = (more, tt)
guarded_more (first ∷ later) act guarded more = (guarded.0, guarded_more later act guarded.1 more)

left_guarded : (items : List Item) (state : State) → items ≡ state.items → AreGuarded state → AreGuarded (left state items)
left_guarded [] state is guarded = guarded
left_guarded (item ∷ items) state is guarded = record {
  items = (subst EachGuarded (sym is) guarded.items).1;
  running = guarded.running;
}

stays_guarded : (stage : Option Stage) (state : State) → AreGuarded state → AreGuarded (stays_in stage state)
stays_guarded (Some stage) state guarded = changed_guarded (staged stage) no_access state (λ item. refl) guarded
stays_guarded None state guarded = left_guarded state.items state refl guarded

conflicted_guarded : (items : List Item) (state : State) → AreGuarded state → AreGuarded (conflicted state items)
conflicted_guarded [] state guarded = guarded
conflicted_guarded (item ∷ items) state guarded = stays_guarded (stage_by item.option) state guarded

pub keeps_guarded : (state : State) (change : Change) → CanFollow state change → AreGuarded state → AreGuarded (after state change)
keeps_guarded state (Held tree) follows guarded = record { items = guarded.items; running = guarded.running }
keeps_guarded state (Begun number script option) follows guarded = record {
  items = guarded.items;
  running = run_push IsGuardedOwn state.running _ tt guarded.running;
}
keeps_guarded state (Fetched number tree) follows guarded = record {
  items = guarded.items;
  running = run_changed IsGuardedOwn number _ _ state.running (λ it here own. tt) follows.0 guarded.running;
}
keeps_guarded state (Acted number act) follows guarded = record {
  items = guarded.items;
  running = run_changed IsGuardedOwn number (CanAct act) (with_act act) state.running
      (λ it can own. guarded_more it.acts act own can.1) follows guarded.running;
}
keeps_guarded state (Ended number) follows guarded = record {
  items = each_guarded state.items (ended (numbered number state.running)) guarded.items
      (ended_guarded number state.running (numbered number state.running) refl guarded.running);
  running = run_others IsGuardedOwn number state.running guarded.running;
}
keeps_guarded state (Cut number acts) follows guarded = cut_guarded acts state.running state refl guarded
keeps_guarded state Left follows guarded = left_guarded state.items state refl guarded
keeps_guarded state Conflicted follows guarded = conflicted_guarded state.items state guarded
keeps_guarded state (Resolved done access) follows guarded = changed_guarded (staged (stages.Resolved done)) access state (λ item. refl) guarded
keeps_guarded state (Repaired script) follows guarded = changed_guarded (repaired script) no_access state (λ item. refl) guarded
keeps_guarded state (Again number) follows guarded = record {
  items = guarded.items;
  running = run_changed IsGuardedOwn number _ _ state.running (λ it here own. tt) follows guarded.running;
}

pub opening_guarded : AreGuarded opening
opening_guarded = record { items = tt; running = tt }
