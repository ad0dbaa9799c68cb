-- What a client that is alive does with the server keeps the two sound, and each node stops at most once.
use Rattle.std.proofs.Common.{◌≡◌, ℕ, ◌*◌, ◌<◌, not, nat_lt, length, Bool, true, false, List, [], ◌∷◌, Option, Some, None}
use Rattle.std.proofs.Common.{refl, sym, subst, codes, arith}
use Rattle.std.proofs.lemmas.Bool.Decides.{nat_tests}
use Rattle.iot_tree.specs.Tree.{Nodes, Path}
use Rattle.iot_tree.specs.Profiles.{Profile}
use Rattle.iot_tree.specs.declared.want.Want.TheVariants as wanted
use Rattle.iot_event.specs.declared.event.Task.{Task}
use Rattle.iot_event.specs.declared.event.Task.TheVariants as tasks
use Rattle.iot_queue.specs.declared.items.Item as queue
use Rattle.iot_machine.specs.Calls.{Try, Asks, Answers, Tells, either}
use Rattle.iot_machine.specs.Clients as stages
use Rattle.iot_machine.specs.Clients.{Declared, Stage, Item, Running, ClientState, Next, AtEnd, AtLimit, Acts, Fetches, Plan, resolution_of}
use Rattle.iot_machine.specs.Clients.{most_running, new_client, hold, begin, leave, resolved_by}
use Rattle.iot_machine.specs.Machine.{Commit, Pair, kept, script_at}
use Rattle.iot_machine.specs.Options as options
use Rattle.iot_machine.specs.Options.{OnConflict}
use Rattle.iot_machine.specs.Serving.{Verdict, Settled, Conflict}
use Rattle.iot_machine.specs.Serving as errands
use Rattle.iot_machine.specs.Serving.{Errand}
use Rattle.iot_machine.specs.Transactions as transactions
use Rattle.iot_machine.specs.Transactions.{Notes, Refuses, is_full, IfIdle, IfRoom, IfNonePends, if_runs, IfRuns, Holds, took, Takes}
use Rattle.iot_machine.specs.Transactions.{Starts, starts_if, Begins, step_by, step_of, Steps, yield_if, Yields}
use Rattle.iot_machine.specs.Transactions.{Synced, Moved, Stays, Unanswered, NotesAloud}
use Rattle.iot_machine.specs.Transactions.{conflicted, told, resolved_on, resolves, Resolves, sync_at, sync_head, Syncs, moves, sync_if}
use Rattle.iot_machine.specs.Transactions.{SyncsAll, is_manual, if_manual, IfManual, Ended, waits_unless, syncs_or_waits, joins}
use Rattle.iot_machine.specs.Transactions.{Compared, Same, Differs, Compares, same, parts, ends_by, certifies, end_by, Ends}
use Rattle.iot_machine.specs.Texts.{conflict_line}
use Rattle.iot_machine.specs.Events.{Hoards, Refreshes, Walks, BeginsAloud, StepsAloud, run_steps, runs_through, Runs, Drains, Repairs}
use Rattle.iot_machine.specs.Events.{Discards, says_reads, ReadsOf, chosen, task_part}
use Rattle.iot_machine.specs.Sound.{IsReady, CanResolve, IsPlanned}
use Rattle.iot_machine.proofs.KeepsLaws.{Keeps, keeps_gets, keeps_asks, keeps_does, keeps_tells, stays_says, keeps_from, keeps_then}
use Rattle.iot_machine.proofs.KeepsLaws.{stays_then, asks_then, keeps_either, keeps_goes, keeps_repeats, keeps_or_says}
use Rattle.iot_machine.proofs.FollowsLaws.{Follows, hold_follows, begin_follows, again_follows, fetch_follows, act_once_follows}
use Rattle.iot_machine.proofs.FollowsLaws.{end_follows, leave_follows}
use Rattle.iot_machine.proofs.PairLaws.{Core, core, IsUp, IsAwake, IsRoomy, IsOpen, HoldsIf, AwakeIf, HandsIn, IsJudged, up_of, stuck_free}
use Rattle.iot_machine.proofs.PairLaws.{exchange_keeps, lends_keeps, same_passes, judged_passes, judges_good, brings_keeps, notes_awake}
use Rattle.iot_machine.proofs.PairLaws.{notes_roomy, notes_first, notes_reach}

module _ (Others : Commit → Type 0) (b : Core) where
  -- a client that is awake is so afterwards, unless its event is over
  abbrev pub Wakes : {A : Type 0} → Try Pair A → Type 0
  Wakes call = Keeps (IsAwake Others b) call (λ a. AwakeIf Others b a)

  abbrev WakesFrom : {A : Type 0} → (Core → Type 0) → Try Pair A → Type 0
  WakesFrom P call = Keeps (λ pair. P (core pair)) call (λ a. AwakeIf Others b a)

  -- ---- texts, refusals and tests

  pub tells_wakes : {A : Type 0} {text : Pair → List ℕ} (a : A) → Wakes (Tells text (Some a))
  tells_wakes a = keeps_tells (λ m it. it)

  answers_wakes : {A : Type 0} (a : A) → Wakes (Answers (Some a))
  answers_wakes a = keeps_gets (λ m it. it)

  refuses_wakes : {A : Type 0} (word : List ℕ) → Wakes {A = A} (Refuses word)
  refuses_wakes word = keeps_tells (λ m it. it.good)

  if_idle_wakes : {A : Type 0} {call : Try Pair A} → Wakes call → Wakes (IfIdle call)
  if_idle_wakes call = asks_then (keeps_either (refuses_wakes (codes "busy")) call)

  -- one more may run in the call
  if_room_wakes : {A : Type 0} {call : Try Pair A} → WakesFrom (IsRoomy Others b) call → Wakes (IfRoom call)
  if_room_wakes {call = call} keeps =
      keeps_then {Q = λ full pair. IsAwake Others b pair × (full ≡ is_full pair)} (keeps_asks (λ m it. (it, refl))) by_full
    where
      room : (n most : ℕ) → false ≡ not (nat_lt n most) → n < most
      room n most = grind (arith, nat_tests)

      by_full : (full : Bool) → Keeps (λ pair. IsAwake Others b pair × (full ≡ is_full pair))
          (either (Refuses (codes "busy")) call full) (λ a. AwakeIf Others b a)
      by_full true = keeps_tells (λ m here. here.0.good)
      by_full false =
          keeps_from (λ m here. record { up = here.0; room = room (length (kept m).running) most_running here.1 }) keeps

  if_none_pends_wakes : {A : Type 0} {call : Try Pair A} → Wakes call → Wakes (IfNonePends call)
  if_none_pends_wakes call = asks_then (keeps_either (refuses_wakes (codes "pending")) call)

  if_runs_wakes : {A : Type 0} (which : Option ℕ) {call : Running → Try Pair A} → ((it : Running) → Wakes (call it))
      → Wakes (IfRuns which call)
  if_runs_wakes which {call = call} each = asks_then by_running
    where
      by_running : (running : Option Running) → Wakes (if_runs call running)
      by_running None = refuses_wakes (codes "idle")
      by_running (Some it) = each it

  notes_wakes : {change : ClientState → ClientState} → ((s : ClientState) → Follows s (change s)) → Wakes (Notes change)
  notes_wakes {change} follows = notes_awake Others b (IsUp Others b) change (λ p it. it) (λ p it. follows p.client.durable)

  -- ---- objects

  holds_keeps : (P : Core → Type 0) (change : Nodes → ClientState → ClientState)
      → ((t : Nodes) → Keeps (λ pair. P (core pair)) (Notes (change t)) (λ a. HoldsIf Others b P a)) → (errand : Errand)
      → Keeps (λ pair. P (core pair)) (Holds change errand) (λ a. HoldsIf Others b P a)
  holds_keeps P change notes errand = keeps_then (brings_keeps Others b P errand) by_answer
    where
      by_answer : (answer : Option Nodes)
          → Keeps (λ pair. P (core pair)) (transactions.holds change answer) (λ a. HoldsIf Others b P a)
      by_answer None = keeps_gets (λ m it. it)
      by_answer (Some t) = keeps_goes (notes t) (λ _. keeps_gets (λ m it. it))

  holds_wakes : {change : Nodes → ClientState → ClientState} → ((t : Nodes) (s : ClientState) → Follows s (change t s)) → (errand : Errand)
      → Wakes (Holds change errand)
  holds_wakes {change} follows errand = holds_keeps (IsUp Others b) change (λ t. notes_wakes (follows t)) errand

  takes_wakes : (errand : Errand) → Wakes (Takes errand)
  takes_wakes errand = if_idle_wakes (if_none_pends_wakes (keeps_goes (holds_wakes hold_follows errand) by_came))
    where
      by_came : (came : Bool) → Wakes (took came)
      by_came true = answers_wakes tt
      by_came false = refuses_wakes (codes "away")

  -- ---- begin

  begins_wakes : (script : Declared) (option : OnConflict Declared) → Wakes (Begins script option)
  begins_wakes script option = if_room_wakes (asks_then by_pending)
    where
      starts : (first : Bool) → WakesFrom (IsRoomy Others b) (Starts script option first)
      starts first = asks_then (λ number. keeps_goes
          (notes_awake Others b (IsRoomy Others b) (begin script option) (λ p it. it.up)
          (λ p it. begin_follows script option p.client.durable it.room))
          (λ _. keeps_gets (λ m it. it)))

      by_pending : (pends : Bool) → WakesFrom (IsRoomy Others b) (starts_if script option pends)
      by_pending true = starts false
      by_pending false = keeps_goes (holds_keeps (IsRoomy Others b) hold (notes_roomy Others b) (errands.Refresh wanted.Nothing)) starts

  -- ---- steps

  yields_stays : (number : ℕ) → Keeps (IsAwake Others b) (Yields number) (λ _. IsAwake Others b)
  yields_stays number = keeps_does (λ m it. by_pending (transactions.pends m) m it)
    where
      by_pending : (pends : Bool) (m : Pair) → IsAwake Others b m → IsAwake Others b (yield_if number pends m)
      by_pending true m it = it
      by_pending false m it = it

  steps_wakes : (number : ℕ) (loud : Bool) → Wakes (Steps number loud)
  steps_wakes number loud = stays_then (yields_stays number) (λ _. asks_then by_running)
    where
      by_next : (next : Next) → Wakes (step_by number loud next)
      by_next AtEnd = answers_wakes false
      by_next AtLimit = answers_wakes false
      by_next Acts = keeps_goes (notes_wakes (act_once_follows number)) (λ _. answers_wakes true)
      by_next (Fetches path) = keeps_goes (holds_wakes (fetch_follows number) (errands.Refresh (wanted.Path path)))
          (λ came. keeps_either (tells_wakes _) (answers_wakes _) loud)

      by_running : (running : Option Running) → Wakes (step_of number loud running)
      by_running None = answers_wakes false
      by_running (Some it) = asks_then by_next

  -- ---- syncs

  aloud_wakes : (P : Core → Type 0) (change : ClientState → ClientState) (text : List ℕ) (synced : Synced)
      → WakesFrom P (Notes change) → WakesFrom P (NotesAloud change text synced)
  aloud_wakes P change text synced notes = keeps_goes notes (λ _. tells_wakes synced)

  aloud_leave : (P : Core → Type 0) (text : List ℕ) → ((p : Core) → P p → IsUp Others b p) → WakesFrom P (NotesAloud leave text Moved)
  aloud_leave P text up = aloud_wakes P leave text Moved (notes_awake Others b P leave up (λ p it. leave_follows p.client.durable))

  conflicted_wakes : (item : Item) (name said : List ℕ) (option : OnConflict Declared) → item.option ≡ option
      → WakesFrom (IsOpen Others b item) (conflicted name said option)
  conflicted_wakes item name said options.Abort is = aloud_leave (IsOpen Others b item) _ (up_of Others b item)
  conflicted_wakes item name said options.Manual is = aloud_wakes (IsOpen Others b item) _ _ Stays
      (notes_reach Others b stages.Manual item (λ _. tt))
  conflicted_wakes item name said options.Reexec is =
      aloud_wakes (IsOpen Others b item) _ _ Moved (notes_reach Others b stages.Conflict item (λ _. subst CanResolve (sym is) tt))
  conflicted_wakes item name said (options.Resolver script) is =
      aloud_wakes (IsOpen Others b item) _ _ Moved (notes_reach Others b stages.Conflict item (λ _. subst CanResolve (sym is) tt))

  -- the first that waits, and those behind it
  record HasFirst (item : Item) (items : List Item) (p : Core) : Type 0 where
    up : IsUp Others b p
    first : p.client.durable.items ≡ item ∷ items

  submits_wakes : (item : Item) (items : List Item) → IsReady item.stage → WakesFrom (HasFirst item items) (transactions.Submits item)
  submits_wakes item items stage = keeps_then {Q = λ it pair. HandsIn Others b item it.commit (core pair)}
      (keeps_asks (λ m here. record {
        good = here.up.good;
        it = record {
          items = items;
          sound = here.up.good.sound;
          alive = here.up.alive;
          first = here.first;
          stage = stage;
          is = refl;
        };
      }))
      (λ it. keeps_then (exchange_keeps (judged_passes Others b item it.commit) (judges_good Others b item it)) (by_verdict it.name))
    where
      by_verdict : (name : List ℕ) (verdict : Option Verdict)
          → WakesFrom (IsJudged Others b item verdict) (told name item.option verdict)
      by_verdict name None = keeps_tells (λ m it. it.up)
      by_verdict name (Some (Settled number)) = aloud_leave (IsJudged Others b item (Some (Settled number))) _ (λ p it. it.up)
      by_verdict name (Some (Conflict read question)) = keeps_from (λ m it. it.apart tt)
          (conflicted_wakes item name (conflict_line name read question) item.option refl)

  resolves_wakes : (item : Item) → item.stage ≡ stages.Conflict → WakesFrom (IsOpen Others b item) (Resolves item)
  resolves_wakes item is = asks_then (λ name. asks_then (by_plan name))
    where
      by_answer : (name : List ℕ) (plan : Plan) (answer : Option Nodes)
          → WakesFrom (IsOpen Others b item) (resolved_on name plan answer)
      by_answer name plan None = keeps_tells (λ m it. up_of Others b item (core m) it)
      by_answer name plan (Some t) = aloud_wakes (IsOpen Others b item) _ _ Moved
          (notes_reach Others b (stages.Resolved (resolution_of plan t)) item (λ has. subst (IsPlanned item.option) is has))

      by_plan : (name : List ℕ) (plan : Option Plan) → WakesFrom (IsOpen Others b item) (resolves name plan)
      by_plan name None = keeps_gets (λ m it. up_of Others b item (core m) it)
      by_plan name (Some plan) = keeps_then
          (exchange_keeps (same_passes Others b (IsOpen Others b item))
          (lends_keeps (IsOpen Others b item) new_client.held (errands.Refresh (wanted.Below []))))
          (by_answer name plan)

  -- one that submits nothing is not in the list
  opens : (item : Item) (items : List Item) → (IsReady item.stage → ⊥) → (p : Core) → HasFirst item items p → IsOpen Others b item p
  opens item items stuck p here = record {
    items = items;
    good = here.up.good;
    alive = here.up.alive;
    first = here.first;
    free = stuck_free Others p item items stuck here.up.good.sound here.first;
  }

  -- the items as they are asked for
  record HasItems (items : List Item) (p : Core) : Type 0 where
    up : IsUp Others b p
    is : items ≡ p.client.durable.items

  has_first : (item : Item) (items : List Item) (p : Core) → HasItems (item ∷ items) p → HasFirst item items p
  has_first item items p it = record { up = it.up; first = sym it.is }

  asks_items : Keeps (IsAwake Others b) (Asks (λ pair. (kept pair).items)) (λ items pair. HasItems items (core pair))
  asks_items = keeps_asks (λ m it. record { up = it; is = refl })

  pub syncs_wakes : Wakes Syncs
  syncs_wakes = keeps_then asks_items by_items
    where
      by_stage : (item : Item) (items : List Item) (stage : Stage) → item.stage ≡ stage
          → WakesFrom (HasFirst item items) (sync_at item stage)
      by_stage item items stages.Waiting is = submits_wakes item items (subst IsReady (sym is) tt)
      by_stage item items (stages.Resolved it) is = submits_wakes item items (subst IsReady (sym is) tt)
      by_stage item items stages.Conflict is =
          keeps_from (λ m here. opens item items (λ it. subst IsReady is it) (core m) here) (resolves_wakes item is)
      by_stage item items stages.Manual is = keeps_tells (λ m here. here.up)

      by_items : (items : List Item) → WakesFrom (HasItems items) (sync_head items)
      by_items [] = keeps_tells (λ m here. here.up)
      by_items (item ∷ items) = keeps_from (λ m here. has_first item items (core m) here) (by_stage item items item.stage refl)

  syncs_all_wakes : Wakes SyncsAll
  syncs_all_wakes = asks_then (λ n. keeps_repeats (asks_then by_pending) (3 * n))
    where
      by_pending : (pends : Bool) → Wakes (sync_if pends)
      by_pending true = keeps_goes syncs_wakes (λ synced. answers_wakes (moves synced))
      by_pending false = answers_wakes false

  -- ---- end

  compares_stays : (it : Running) → Keeps (IsAwake Others b) (Compares it) (λ _. IsAwake Others b)
  compares_stays it = record { at = λ m n text found here step. by_step m n text found here step }
    where
      by_step : (m n : Pair) (text : List ℕ) (found : Compared) → IsAwake Others b m → Compares it m text found n → IsAwake Others b n
      by_step m n text found here (same is said answer stays) = subst (IsAwake Others b) (sym stays) here
      by_step m n text found here (parts read question differ said answer stays) = subst (IsAwake Others b) (sym stays) here

  pub ends_wakes : (which : Option ℕ) → Wakes (Ends which)
  ends_wakes which = if_runs_wakes which (λ it. asks_then (by_next it))
    where
      by_synced : (gone : Ended) (synced : Synced) → Wakes (waits_unless gone synced)
      by_synced gone Unanswered = tells_wakes tt
      by_synced gone Moved = answers_wakes tt
      by_synced gone Stays = answers_wakes tt

      by_class : (gone : Ended) (first : Bool) → Wakes (syncs_or_waits gone first)
      by_class gone true = keeps_goes syncs_wakes (by_synced gone)
      by_class gone false = tells_wakes tt

      joins_wakes : (gone : Ended) → Wakes (joins gone)
      joins_wakes gone =
          keeps_goes (notes_wakes (end_follows gone.number)) (λ _. stays_then stays_says (λ _. by_class gone gone.first))

      by_found : (gone : Ended) (found : Compared) → Wakes (ends_by gone found)
      by_found gone Same = joins_wakes gone
      by_found gone (Differs read question) = keeps_goes (notes_wakes (again_follows gone.number)) (λ _. tells_wakes tt)

      certifies_wakes : (it : Running) → Wakes (certifies it)
      certifies_wakes it =
          stays_then (yields_stays it.number) (λ _. asks_then (λ gone. stays_then (compares_stays it) (by_found gone)))

      by_next : (it : Running) (next : Next) → Wakes (end_by it next)
      by_next it AtEnd = certifies_wakes it
      by_next it AtLimit = certifies_wakes it
      by_next it Acts = refuses_wakes (codes "not at end")
      by_next it (Fetches path) = refuses_wakes (codes "not at end")

  -- ---- a client's events

  pub hoards_wakes : (path : Path) → Wakes (Hoards path)
  hoards_wakes path = keeps_goes (takes_wakes (errands.Refresh (wanted.Below path))) (λ _. tells_wakes tt)

  pub refreshes_wakes : Wakes Refreshes
  refreshes_wakes = keeps_goes (takes_wakes (errands.Refresh wanted.Nothing)) (λ _. tells_wakes tt)

  pub walks_wakes : (profile : Profile) (limit : ℕ) → Wakes (Walks profile limit)
  walks_wakes profile limit = keeps_goes (takes_wakes (errands.Walk profile limit)) (λ _. tells_wakes tt)

  pub begins_aloud_wakes : (script : Declared) (option : OnConflict Declared) → Wakes (BeginsAloud script option)
  begins_aloud_wakes script option = keeps_goes (begins_wakes script option) (λ _. tells_wakes tt)

  pub steps_aloud_wakes : (most : ℕ) (which : Option ℕ) → Wakes (StepsAloud most which)
  steps_aloud_wakes most which =
      if_runs_wakes which (λ it. keeps_goes (keeps_repeats (steps_wakes it.number true) most) (λ _. tells_wakes tt))

  pub runs_wakes : (script : Declared) (option : OnConflict Declared) → Wakes (Runs script option)
  runs_wakes script option = if_room_wakes (keeps_from (λ m here. here.up) (asks_then (λ up.
      keeps_goes (keeps_either syncs_all_wakes (answers_wakes tt) up) (λ _. keeps_goes (begins_wakes script option) through))))
    where
      through : (number : ℕ) → Wakes (runs_through number)
      through number = keeps_goes (keeps_repeats (steps_wakes number false) run_steps) (λ _. ends_wakes (Some number))

  pub drains_wakes : Wakes Drains
  drains_wakes = keeps_or_says
      (keeps_goes syncs_all_wakes (λ _. asks_then (keeps_either refreshes_wakes (answers_wakes tt))))

  -- ---- a decision by hand

  if_manual_wakes : {A : Type 0} {call : Item → Try Pair A} → ((item : Item) → WakesFrom (IsOpen Others b item) (call item))
      → Wakes (IfManual call)
  if_manual_wakes {call = call} each = keeps_then asks_items by_items
    where
      by_stage : (item : Item) (items : List Item) (stage : Stage) → item.stage ≡ stage
          → WakesFrom (HasFirst item items) (either (call item) (Refuses (codes "not manual")) (is_manual stage))
      by_stage item items stages.Waiting is = keeps_tells (λ m here. here.up.good)
      by_stage item items (stages.Resolved it) is = keeps_tells (λ m here. here.up.good)
      by_stage item items stages.Conflict is = keeps_tells (λ m here. here.up.good)
      by_stage item items stages.Manual is =
          keeps_from (λ m here. opens item items (λ it. subst IsReady is it) (core m) here) (each item)

      by_items : (items : List Item) → WakesFrom (HasItems items) (if_manual call items)
      by_items [] = keeps_tells (λ m here. here.up.good)
      by_items (item ∷ items) = keeps_from (λ m here. has_first item items (core m) here) (by_stage item items item.stage refl)

  pub repairs_wakes : (script : Declared) → Wakes (Repairs script)
  repairs_wakes script = if_manual_wakes (λ item.
      keeps_goes (notes_first Others b (resolved_by script) (λ item. refl) item (λ _. tt)) (λ _. tells_wakes tt))

  pub discards_wakes : Wakes Discards
  discards_wakes = if_manual_wakes (λ item. keeps_goes
      (notes_awake Others b (IsOpen Others b item) leave (up_of Others b item) (λ p it. leave_follows p.client.durable))
      (λ _. tells_wakes tt))

  -- ---- looking in

  pub reads_of_wakes : (place : ℕ) → Wakes (ReadsOf place)
  reads_of_wakes place = asks_then by_item
    where
      by_item : (item : Option queue.Item) → Wakes (says_reads item)
      by_item None = refuses_wakes (codes "nothing")
      by_item (Some item) = tells_wakes tt

  -- ---- the events

  pub task_wakes : (scripts : List Declared) (task : Task ℕ Profile) → Wakes (task_part scripts task)
  task_wakes scripts (tasks.Run script option) = runs_wakes (script_at scripts script) (chosen scripts option)
  task_wakes scripts (tasks.Hoard path) = hoards_wakes path
  task_wakes scripts tasks.Refresh = refreshes_wakes
  task_wakes scripts (tasks.Walk profile limit) = walks_wakes profile limit
  task_wakes scripts (tasks.Begin script option) = begins_aloud_wakes (script_at scripts script) (chosen scripts option)
  task_wakes scripts (tasks.Step count transaction) = steps_aloud_wakes count transaction
  task_wakes scripts (tasks.End transaction) = ends_wakes transaction
  task_wakes scripts tasks.Sync = keeps_goes syncs_wakes (λ _. answers_wakes tt)
  task_wakes scripts tasks.Drain = drains_wakes
  task_wakes scripts (tasks.Repair script) = repairs_wakes (script_at scripts script)
  task_wakes scripts tasks.Discard = discards_wakes
  task_wakes scripts tasks.Queue = tells_wakes tt
  task_wakes scripts (tasks.Reads item) = reads_of_wakes item
