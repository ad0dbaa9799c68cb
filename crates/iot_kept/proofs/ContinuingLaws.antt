-- Changes leave what waits as it is, and a transaction that is cut is its prefix.
use Rattle.std.proofs.Common.{◌≡◌, ◌≤◌, ℕ, List, [], ◌∷◌, ◌++◌, length, take, Option, Some, None, refl, sym, ap, subst, arith}
use Rattle.iot_tree.specs.Tree.{Nodes}
use Rattle.iot_tree.specs.declared.access.Access.{Access}
use Rattle.iot_access.specs.Access.{no_access}
use Rattle.iot_acts.specs.Traces.{ActsHold, after_acts}
use Rattle.iot_queue.specs.Queues.{with_head, staged}
use Rattle.iot_queue.specs.declared.items.Item.{Item}
use Rattle.iot_queue.specs.declared.items.Stage.{Stage}
use Rattle.iot_queue.specs.declared.items.Stage.TheVariants as stages
use Rattle.iot_changes.specs.declared.changes.Change.TheVariants.{Held, Begun, Fetched, Acted, Ended, Cut, Conflicted, Resolved}
use Rattle.iot_changes.specs.declared.changes.Change.TheVariants.{Repaired, Left, Again}
use Rattle.iot_kept.specs.States.{Transaction, State, EachHold, AllHold, numbered}
use Rattle.iot_kept.specs.Changes.{HeadIs, MayLeave, waiting, ended, cut, left, stage_by, stays_in, conflicted, repaired}
use Rattle.iot_kept.specs.Continuing.{WaitsOn, EachWaitsOn, LaterWaitOn, Continues, all_wait_on, first_leaves}
use Rattle.iot_kept.specs.Continuing.{PendingReadsStay, ACutIsItsPrefix}
use Rattle.iot_kept.proofs.StatesLaws.{changed, submitted_may_leave}

-- ---- one list after another

abbrev KeepsRun : (Item → Item) → Type 0
KeepsRun change =
    (item : Item) → ((change item).tid ≡ item.tid) × ((change item).script ≡ item.script) × ((change item).budget ≡ item.budget)
    × ((change item).acts ≡ item.acts)

same_waits : (t : Nodes) (item : Item) → ActsHold t item.acts → WaitsOn t t item item
same_waits t item hold = record { number = refl; script = refl; budget = refl; acts = refl; tree = refl; holds = hold }

-- the same transactions, and at most one more
more_wait : (items joined : List Item) (t : Nodes) → length joined ≤ 1 → EachHold t items → EachWaitsOn t t items (items ++ joined)
more_wait [] joined t one hold = one
more_wait (item ∷ items) joined t one hold = (same_waits t item hold.0, more_wait items joined (after_acts t item.acts) one hold.1)

same_wait : (items : List Item) (t : Nodes) → EachHold t items → EachWaitsOn t t items items
same_wait [] t hold = omega arith
same_wait (item ∷ items) t hold = (same_waits t item hold.0, same_wait items (after_acts t item.acts) hold.1)

head_waits : (change : Item → Item) (items : List Item) (t : Nodes) → KeepsRun change → EachHold t items
    → EachWaitsOn t t items (with_head change items)
head_waits change [] t keeps hold = omega arith
head_waits change (item ∷ items) t keeps hold =
    let same = keeps item in (
      record {
        number = same.0;
        script = same.1;
        budget = same.2;
        acts = same.3;
        tree = refl;
        holds = subst (ActsHold t) (sym same.3) hold.0;
      },
      subst (λ acts. EachWaitsOn (after_acts t item.acts) (after_acts t acts) items items) (sym same.3)
          (same_wait items (after_acts t item.acts) hold.1),
    )

-- ---- by the change

-- none waited, and none does
none_waits : (items : List Item) (old new : Nodes) → items ≡ [] → EachWaitsOn old new items items
none_waits items old new is = subst (λ (items : List Item). EachWaitsOn old new items items) (sym is) (omega arith)

ended_one : (found : Option Transaction) → length (ended found) ≤ 1
ended_one None = omega arith
ended_one (Some it) = omega arith

cut_continues : (acts : ℕ) (running : List Transaction) (state : State) → AllHold state → Continues state (cut acts running state)
cut_continues acts [] state hold = all_wait_on (same_wait state.items state.held hold.items)
cut_continues acts (it ∷ running) state hold =
    all_wait_on (more_wait state.items (waiting acts (take acts it.acts) it ∷ []) state.held (omega arith) hold.items)

changed_continues : (change : Item → Item) (access : Access) (state : State) → KeepsRun change → AllHold state
    → Continues state (changed change access state)
changed_continues change access state keeps hold = all_wait_on (head_waits change state.items state.held keeps hold.items)

left_later : (items : List Item) (state : State) → items ≡ state.items → HeadIs MayLeave items → AllHold state
    → LaterWaitOn state.held (left state items).held items (left state items).items
left_later [] state is some hold = some
left_later (item ∷ items) state is some hold =
    same_wait items (after_acts state.held item.acts) (subst (EachHold state.held) (sym is) hold.items).1

left_continues : (state : State) → HeadIs MayLeave state.items → AllHold state → Continues state (left state state.items)
left_continues state some hold = first_leaves (left_later state.items state refl some hold)

stays_continues : (stage : Option Stage) (state : State) → HeadIs MayLeave state.items → AllHold state
    → Continues state (stays_in stage state)
stays_continues (Some stage) state some hold = changed_continues (staged stage) no_access state (λ item. (refl, refl, refl, refl)) hold
stays_continues None state some hold = left_continues state some hold

conflicted_continues : (items : List Item) (state : State) → HeadIs MayLeave state.items → AllHold state
    → Continues state (conflicted state items)
conflicted_continues [] state some hold = all_wait_on (same_wait state.items state.held hold.items)
conflicted_continues (item ∷ items) state some hold = stays_continues (stage_by item.option) state some hold

-- no pending transaction's reads change while it waits
pub pending_reads_stay : PendingReadsStay
pending_reads_stay state (Held tree) follows hold = all_wait_on (none_waits state.items state.held tree follows)
pending_reads_stay state (Begun number script option) follows hold = all_wait_on (same_wait state.items state.held hold.items)
pending_reads_stay state (Fetched number tree) follows hold = all_wait_on (none_waits state.items state.held tree follows.1)
pending_reads_stay state (Acted number act) follows hold = all_wait_on (same_wait state.items state.held hold.items)
pending_reads_stay state (Ended number) follows hold =
    all_wait_on (more_wait state.items (ended (numbered number state.running)) state.held (ended_one (numbered number state.running))
    hold.items)
pending_reads_stay state (Cut number acts) follows hold = cut_continues acts state.running state hold
pending_reads_stay state (Again number) follows hold = all_wait_on (same_wait state.items state.held hold.items)
pending_reads_stay state Conflicted follows hold =
    conflicted_continues state.items state (submitted_may_leave state.items follows) hold
pending_reads_stay state (Resolved done access) follows hold =
    changed_continues (staged (stages.Resolved done)) access state (λ item. (refl, refl, refl, refl)) hold
pending_reads_stay state (Repaired script) follows hold =
    changed_continues (repaired script) no_access state (λ item. (refl, refl, refl, refl)) hold
pending_reads_stay state Left follows hold = left_continues state follows hold

-- ---- a cut

-- a transaction that was cut is its prefix
pub a_cut_is_its_prefix : ACutIsItsPrefix
a_cut_is_its_prefix state it running acts is = record {
  item = waiting acts (take acts it.acts) it;
  prefix = record { number = refl; script = refl; option = refl; acts = refl; budget = refl; stage = refl };
  items = ap (λ running. (cut acts running state).items) is;
  run = ap (λ running. (cut acts running state).running) is;
  held = ap (λ running. (cut acts running state).held) is;
  last = ap (λ running. (cut acts running state).last) is;
}
