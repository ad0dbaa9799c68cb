-- The changes of what is durable of a client: when each can follow, and the state after it.
use Rattle.std.specs.Prelude.{◌≡◌, ℕ, ◌+◌, ◌<◌, List, [], ◌∷◌, ◌++◌, length, take, Option, Some, None, if◌then◌else◌}
use Rattle.iot_tree.specs.Tree.{Nodes}
use Rattle.iot_tree.specs.declared.acts.Act.{Act}
use Rattle.iot_tree.specs.declared.limits.TheConstants.{ACT_LIMIT}
use Rattle.iot_tree.specs.declared.labels.OnConflict.{OnConflict}
use Rattle.iot_tree.specs.declared.labels.OnConflict.TheVariants as options
use Rattle.iot_acts.specs.Traces.{ReadsHold, FitsIfAny, ActsHold, after_acts}
use Rattle.iot_acts.specs.Guards.{IsGuarded}
use Rattle.iot_access.specs.Access.{no_access}
use Rattle.iot_bodies.specs.declared.running.TheConstants.{RUN_LIMIT}
use Rattle.iot_queue.specs.declared.items.Item.{Item}
use Rattle.iot_queue.specs.declared.items.Stage.{Stage}
use Rattle.iot_queue.specs.declared.items.Stage.TheVariants as stages
use Rattle.iot_queue.specs.Queues.{with_head, staged, optioned}
use Rattle.iot_changes.specs.declared.changes.Change.{Change}
use Rattle.iot_changes.specs.declared.changes.Change.TheVariants.{Held, Begun, Fetched, Acted, Ended, Cut, Conflicted, Resolved}
use Rattle.iot_changes.specs.declared.changes.Change.TheVariants.{Repaired, Left, Again}
use Rattle.iot_certify.specs.Verdicts.{IsLongest}
use Rattle.iot_kept.specs.States.{Transaction, State, after_each, view, own_view, has_number, numbered}

-- ---- the head

-- there is a first item that waits, the head, and this is so of it
abbrev pub HeadIs : (Item → Type 0) → List Item → Type 0
HeadIs Is [] = ⊥
HeadIs Is (item ∷ items) = Is item

-- Waiting or Resolved: it is submitted with the acts of a run
abbrev pub IsSubmittedIn : Stage → Type 0
IsSubmittedIn stages.Waiting = Unit {0}
IsSubmittedIn stages.Conflict = ⊥
IsSubmittedIn stages.Manual = ⊥
IsSubmittedIn (stages.Resolved done) = Unit {0}

abbrev pub IsSubmitted : Item → Type 0
IsSubmitted item = IsSubmittedIn item.stage

-- Conflict: it is to be resolved
abbrev pub IsInConflict : Item → Type 0
IsInConflict item = item.stage ≡ stages.Conflict

-- Manual: it is to be decided by hand
abbrev pub IsByHand : Item → Type 0
IsByHand item = item.stage ≡ stages.Manual

-- Waiting, Resolved or Manual: it may be settled or given up
abbrev pub MayLeaveIn : Stage → Type 0
MayLeaveIn stages.Waiting = Unit {0}
MayLeaveIn stages.Conflict = ⊥
MayLeaveIn stages.Manual = Unit {0}
MayLeaveIn (stages.Resolved done) = Unit {0}

abbrev pub MayLeave : Item → Type 0
MayLeave item = MayLeaveIn item.stage

-- ---- those that run

-- one with this number runs, and this is so of it
abbrev pub IsSomeOf : (Transaction → Type 0) → Option Transaction → Type 0
IsSomeOf Is None = ⊥
IsSomeOf Is (Some it) = Is it

abbrev pub RunIs : ℕ → (Transaction → Type 0) → List Transaction → Type 0
RunIs number Is running = IsSomeOf Is (numbered number running)

-- the first of them has this number, and this is so of it
abbrev pub FirstRunIs : ℕ → (Transaction → Type 0) → List Transaction → Type 0
FirstRunIs number Is [] = ⊥
FirstRunIs number Is (it ∷ running) = (it.number ≡ number) × Is it

-- it can do this act: it has fewer than the limit; the act is guarded, its update fits its own view, and each read is that view's answer
abbrev pub CanAct : Act → Transaction → Type 0
CanAct act it =
    (length it.acts < ACT_LIMIT) × IsGuarded act × FitsIfAny (own_view it) act.update × ReadsHold (own_view it) act.reads

-- ---- when a change can follow

abbrev pub CanFollow : State → Change → Type 0
-- the queue is empty
CanFollow state (Held tree) = state.items ≡ []
-- fewer run than may, and the number is the last plus 1
CanFollow state (Begun number script option) = (length state.running < RUN_LIMIT) × (number ≡ state.last + 1)
-- it runs, and the queue is empty
CanFollow state (Fetched number tree) = RunIs number (λ it. Unit {0}) state.running × (state.items ≡ [])
-- it runs, and can do the act
CanFollow state (Acted number act) = RunIs number (CanAct act) state.running
-- it runs, and its acts hold on the view
CanFollow state (Ended number) = RunIs number (λ it. ActsHold (view state) it.acts) state.running
-- it is the first that runs, and this many of its acts, and no more, hold on the view
CanFollow state (Cut number acts) = FirstRunIs number (λ it. IsLongest (view state) it.acts acts) state.running
-- the head is Waiting or Resolved
CanFollow state Conflicted = HeadIs IsSubmitted state.items
-- the head is Conflict
CanFollow state (Resolved done access) = HeadIs IsInConflict state.items
-- the head is Manual
CanFollow state (Repaired script) = HeadIs IsByHand state.items
-- the head is Waiting, Resolved or Manual
CanFollow state Left = HeadIs MayLeave state.items
-- it runs, and its acts do not hold on the view
CanFollow state (Again number) = RunIs number (λ it. ActsHold (view state) it.acts → ⊥) state.running

-- ---- the state after it

-- a change of the running transaction with this number
abbrev pub with_running : ℕ → (Transaction → Transaction) → List Transaction → List Transaction
with_running number change [] = []
with_running number change (it ∷ running) =
    if has_number number it then change it ∷ running else it ∷ with_running number change running

-- it starts again, on this tree
abbrev pub anew : Nodes → Transaction → Transaction
anew t it = record it { base = t; acts = [] }

-- it has done one act more
abbrev pub with_act : Act → Transaction → Transaction
with_act act it = record it { acts = it.acts ++ act ∷ [] }

-- those that run without it
abbrev pub others : ℕ → List Transaction → List Transaction
others number [] = []
others number (it ∷ running) = if has_number number it then running else it ∷ others number running

-- a transaction as a Waiting item with this budget and these acts
abbrev pub waiting : ℕ → List Act → Transaction → Item
waiting budget acts it =
    record {
      tid = it.number;
      script = it.script;
      budget = budget;
      acts = acts;
      option = it.option;
      stage = stages.Waiting;
    }

-- as a Waiting item, if it runs: one that ended has the limit as its budget, ..
abbrev pub ended : Option Transaction → List Item
ended None = []
ended (Some it) = waiting ACT_LIMIT it.acts it ∷ []

-- .. and one that was cut off the number of the acts that it keeps
abbrev pub cut : ℕ → List Transaction → State → State
cut acts [] state = state
cut acts (it ∷ running) state =
    record state { items = state.items ++ waiting acts (take acts it.acts) it ∷ []; running = running }

-- the head's updates are made on the held tree, and it is no item any more; so it has no access
abbrev pub left : State → List Item → State
left state [] = state
left state (item ∷ items) = record state { held = after_acts state.held item.acts; items = items; access = no_access }

-- the stage in which a head with this option stays if it conflicts: Manual or Conflict; with abort it stays in none, and leaves
abbrev pub stage_by : OnConflict → Option Stage
stage_by options.Reexec = Some stages.Conflict
stage_by (options.Resolver script) = Some stages.Conflict
stage_by options.Abort = None
stage_by options.Manual = Some stages.Manual

abbrev pub stays_in : Option Stage → State → State
stays_in (Some stage) state = record state { items = with_head (staged stage) state.items; access = no_access }
stays_in None state = left state state.items

abbrev pub conflicted : State → List Item → State
conflicted state [] = state
conflicted state (item ∷ items) = stays_in (stage_by item.option) state

-- an item that this script is to resolve
abbrev pub repaired : List ℕ → Item → Item
repaired script item = staged stages.Conflict (optioned (options.Resolver script) item)

abbrev pub after : State → Change → State
-- the tree is held
after state (Held tree) = record state { held = tree }
-- it runs with no acts on the view, and its number is the last one
after state (Begun number script option) =
    record state {
      running = state.running ++ record { number = number; script = script; option = option; base = view state; acts = [] } ∷ [];
      last = number;
    }
-- the tree is held, and it has no acts on the view
after state (Fetched number tree) =
    record state { held = tree; running = with_running number (anew (after_each tree state.items)) state.running }
-- the act is added
after state (Acted number act) = record state { running = with_running number (with_act act) state.running }
-- it becomes a Waiting item, whose budget is the limit
after state (Ended number) =
    record state { items = state.items ++ ended (numbered number state.running); running = others number state.running }
-- it becomes a Waiting item with its first acts, as many as hold on the view, and their number is its budget
after state (Cut number acts) = cut acts state.running state
-- the head becomes Manual, leaves, or becomes Conflict, by its option
after state Conflicted = conflicted state state.items
-- the head becomes Resolved with this run, which has this access
after state (Resolved done access) =
    record state { items = with_head (staged (stages.Resolved done)) state.items; access = access }
-- the head gets this script as its resolver, and becomes Conflict
after state (Repaired script) = record state { items = with_head (repaired script) state.items; access = no_access }
-- the head leaves, and its updates stay in the held tree
after state Left = left state state.items
-- it has no acts on the view
after state (Again number) = record state { running = with_running number (anew (view state)) state.running }
