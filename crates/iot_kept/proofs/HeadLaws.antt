-- Only the first transaction that waits may be in another stage than Waiting; changes keep that.
use Rattle.std.proofs.Common.{◌≡◌, ℕ, List, [], ◌∷◌, ◌++◌, Option, Some, None, take, refl, sym, subst}
use Rattle.iot_tree.specs.declared.access.Access.{Access}
use Rattle.iot_tree.specs.declared.labels.OnConflict.{OnConflict}
use Rattle.iot_tree.specs.declared.labels.OnConflict.TheVariants as options
use Rattle.iot_access.specs.Access.{no_access}
use Rattle.iot_views.specs.Rules.{IsAccess}
use Rattle.iot_queue.specs.Queues.{with_head, staged}
use Rattle.iot_queue.specs.declared.items.Item.{Item}
use Rattle.iot_queue.specs.declared.items.Resolution.{Resolution}
use Rattle.iot_queue.specs.declared.items.Stage.{Stage}
use Rattle.iot_queue.specs.declared.items.Stage.TheVariants as stages
use Rattle.iot_changes.specs.Rules.{IsChange, IsResolution}
use Rattle.iot_changes.specs.declared.changes.Change.{Change}
use Rattle.iot_changes.specs.declared.changes.Change.TheVariants.{Held, Begun, Fetched, Acted, Ended, Cut, Conflicted, Resolved}
use Rattle.iot_changes.specs.declared.changes.Change.TheVariants.{Repaired, Left, Again}
use Rattle.iot_bodies.specs.Rules.{IsStage}
use Rattle.iot_kept.specs.Bodies.{Allows, HeadStands}
use Rattle.iot_kept.specs.Changes.{CanFollow, HeadIs, IsInConflict, waiting, ended, cut, left, stage_by, stays_in, conflicted, repaired, after}
use Rattle.iot_kept.specs.Reading.{AllWait}
use Rattle.iot_kept.specs.States.{Transaction, State, numbered}

-- ---- one more

ended_waits : (found : Option Transaction) → AllWait (ended found)
ended_waits None = tt
ended_waits (Some it) = (refl, tt)

all_joined : (items joined : List Item) → AllWait items → AllWait joined → AllWait (items ++ joined)
all_joined [] joined all more = more
all_joined (item ∷ items) joined all more = (all.0, all_joined items joined all.1 more)

-- transactions that are Waiting
waits_stand : (items : List Item) (access : Access) → AllWait items → access ≡ no_access → HeadStands items access
waits_stand [] access all none = none
waits_stand (item ∷ items) access all none = (
  subst (λ (s : Stage). Allows item.option s) (sym all.0) tt,
  subst (λ (s : Stage). IsStage s access) (sym all.0) none,
  all.1,
)

joined_stand : (items joined : List Item) (access : Access) → HeadStands items access → AllWait joined → HeadStands (items ++ joined) access
joined_stand [] joined access head more = waits_stand joined access more head
joined_stand (item ∷ items) joined access head more = (head.0, head.1, all_joined items joined head.2 more)

cut_stands : (acts : ℕ) (running : List Transaction) (state : State) → HeadStands state.items state.access
    → HeadStands (cut acts running state).items (cut acts running state).access
cut_stands acts [] state head = head
cut_stands acts (it ∷ running) state head =
    joined_stand state.items (waiting acts (take acts it.acts) it ∷ []) state.access head (refl, tt)

-- ---- the head

left_stands : (items : List Item) (state : State) → items ≡ state.items → HeadStands state.items state.access
    → HeadStands (left state items).items (left state items).access
left_stands [] state is head = head
left_stands (item ∷ items) state is head =
    let whole : HeadStands (item ∷ items) state.access =
    subst (λ (queue : List Item). HeadStands queue state.access) (sym is) head in
    waits_stand items no_access whole.2 refl

-- a head that conflicts is in the stage that its option says
put_off : (stage : Stage) (items : List Item) (access : Access) → HeadIs (λ item. Allows item.option stage) items → IsStage stage no_access
    → HeadStands items access → HeadStands (with_head (staged stage) items) no_access
put_off stage [] access allowed is head = refl
put_off stage (item ∷ items) access allowed is head = (allowed, is, head.2)

-- by the option of the head
stays_stand : (option : OnConflict) (item : Item) (items : List Item) (state : State) → item.option ≡ option → state.items ≡ item ∷ items
    → HeadStands state.items state.access
    → HeadStands (stays_in (stage_by option) state).items (stays_in (stage_by option) state).access
stays_stand options.Reexec item items state is queue head =
    put_off stages.Conflict state.items state.access
    (subst (HeadIs (λ it. Allows it.option stages.Conflict)) (sym queue)
    (subst (λ (o : OnConflict). Allows o stages.Conflict) (sym is) refl))
    refl head
stays_stand (options.Resolver script) item items state is queue head =
    put_off stages.Conflict state.items state.access
    (subst (HeadIs (λ it. Allows it.option stages.Conflict)) (sym queue)
    (subst (λ (o : OnConflict). Allows o stages.Conflict) (sym is) refl))
    refl head
stays_stand options.Abort item items state is queue head = left_stands state.items state refl head
stays_stand options.Manual item items state is queue head =
    put_off stages.Manual state.items state.access
    (subst (HeadIs (λ it. Allows it.option stages.Manual)) (sym queue)
    (subst (λ (o : OnConflict). Allows o stages.Manual) (sym is) refl))
    refl head

conflicted_stands : (items : List Item) (state : State) → state.items ≡ items → HeadStands state.items state.access
    → HeadStands (conflicted state items).items (conflicted state items).access
conflicted_stands [] state is head = head
conflicted_stands (item ∷ items) state is head = stays_stand item.option item items state refl is head

resolved_stands : (done : Resolution) (access now : Access) (items : List Item) → HeadIs IsInConflict items → IsResolution done
    → IsAccess now → HeadStands items access → HeadStands (with_head (staged (stages.Resolved done)) items) now
resolved_stands done access now [] conflict is has head = absurd conflict
resolved_stands done access now (item ∷ items) conflict is has head =
    (subst (λ (s : Stage). Allows item.option s) conflict head.0, (is, has), head.2)

repaired_stands : (script : List ℕ) (access : Access) (items : List Item) → HeadStands items access
    → HeadStands (with_head (repaired script) items) no_access
repaired_stands script access [] head = refl
repaired_stands script access (item ∷ items) head = (refl, refl, head.2)

-- ---- every change

pub keeps_head : (state : State) (change : Change) → IsChange change → CanFollow state change → HeadStands state.items state.access
    → HeadStands (after state change).items (after state change).access
keeps_head state (Held tree) is follows head = head
keeps_head state (Begun number script option) is follows head = head
keeps_head state (Fetched number tree) is follows head = head
keeps_head state (Acted number act) is follows head = head
keeps_head state (Ended number) is follows head =
    joined_stand state.items (ended (numbered number state.running)) state.access head (ended_waits (numbered number state.running))
keeps_head state (Cut number acts) is follows head = cut_stands acts state.running state head
keeps_head state (Again number) is follows head = head
keeps_head state Conflicted is follows head = conflicted_stands state.items state refl head
keeps_head state (Resolved done access) is follows head = resolved_stands done state.access access state.items follows is.0 is.1 head
keeps_head state (Repaired script) is follows head = repaired_stands script state.access state.items head
keeps_head state Left is follows head = left_stands state.items state refl head
