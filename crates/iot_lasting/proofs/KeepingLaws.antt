-- The machine's calls keep what the server's list begins with.
use Rattle.std.proofs.Common.{ℕ, ◌*◌, Bool, true, false, List, [], ◌∷◌, Option, Some, None, codes, refl, sym, subst}
use Rattle.iot_disk.specs.declared.disk.Pick.{Pick}
use Rattle.iot_tree.specs.Tree.{Nodes, Path}
use Rattle.iot_tree.specs.Profiles.{Profile}
use Rattle.iot_tree.specs.declared.want.Want.TheVariants as wanted
use Rattle.iot_event.specs.declared.event.Task.{Task}
use Rattle.iot_event.specs.declared.event.Task.TheVariants as tasks
use Rattle.iot_queue.specs.declared.items.Item as queue
use Rattle.iot_machine.specs.Calls.{Call, Try, Answers, Tells, At}
use Rattle.iot_machine.specs.Clients as stages
use Rattle.iot_machine.specs.Clients.{Declared, Stage, Item, Running, ClientState, Next, AtEnd, AtLimit}
use Rattle.iot_machine.specs.Clients.{Acts, Fetches, Plan, new_client}
use Rattle.iot_machine.specs.Machine.{Machine, Commit, Client, Pair, its_server, server, client_at, pair_at, script_at}
use Rattle.iot_machine.specs.Machine.{give_up, arm_backup}
use Rattle.iot_machine.specs.Nodes.{Node, armed, arming_as}
use Rattle.iot_machine.specs.Options as options
use Rattle.iot_machine.specs.Options.{OnConflict}
use Rattle.iot_machine.specs.Serving.{Submission, Verdict, Settled, Conflict, Errand, Lends, Judges, server_name, kept_text}
use Rattle.iot_machine.specs.Serving as errands
use Rattle.iot_machine.specs.Transactions as transactions
use Rattle.iot_machine.specs.Transactions.{Notes, unless_stopped, Exchange, Refuses, IfIdle, IfRoom, IfNonePends, if_runs, IfRuns}
use Rattle.iot_machine.specs.Transactions.{Holds, took, Takes, Starts, starts_if, Begins, step_by, step_of, Steps, yield_if, Yields}
use Rattle.iot_machine.specs.Transactions.{Synced, Moved, Stays, Unanswered}
use Rattle.iot_machine.specs.Transactions.{NotesAloud, conflicted, told, resolved_on, resolves, Resolves, sync_at, sync_head, Syncs}
use Rattle.iot_machine.specs.Transactions.{moves, sync_if, SyncsAll, is_manual, if_manual, IfManual, Ended, waits_unless, syncs_or_waits}
use Rattle.iot_machine.specs.Transactions.{joins, Compared, Same, Differs, Compares, same, parts, ends_by, certifies, end_by, Ends}
use Rattle.iot_machine.specs.Events.{Walks, Declares, Hoards, Refreshes, BeginsAloud, StepsAloud, run_steps, runs_through, Runs, Drains, Repairs}
use Rattle.iot_machine.specs.Events.{Discards, chosen, task_part, says_reads, ReadsOf, IfUp, OfClient, counts_anew, RestartsServer}
use Rattle.iot_machine.specs.Events.{promotes_unless, Promotes, ArmsBackup}
use Rattle.iot_machine.specs.Texts.{promote_words}
use Rattle.iot_machine.proofs.KeepsLaws.{Keeps, Stays as KeepsOn, IfGoes, keeps_gets, keeps_does, keeps_tells, stays_says, keeps_then}
use Rattle.iot_machine.proofs.KeepsLaws.{stays_then, asks_then, keeps_either, stays_goes_on, keeps_goes, keeps_repeats, keeps_whole}
use Rattle.iot_machine.proofs.KeepsLaws.{keeps_or_says}
use Rattle.iot_machine.proofs.PairLaws.{Passes, Reached, exchange_keeps}
use Rattle.iot_lasting.specs.Lasting.{Lasts}
use Rattle.iot_lasting.proofs.FrontLaws.{LastsUp, lasts_same, judges_last, comes_last, restarts_last}

module _ (b : Node (List Commit)) where
  -- ---- a client with the server

  abbrev pub Kept : Pair → Type 0
  Kept pair = Lasts b pair.server

  -- what keeps the commits, whether or not the event is over then
  abbrev pub Keeping : {A : Type 0} → Try Pair A → Type 0
  Keeping call = Keeps Kept call (IfGoes Kept (λ _. Kept))

  pub tells : {A : Type 0} {text : Pair → List ℕ} {a : Option A} → Keeping (Tells text a)
  tells {a = None} = keeps_tells (λ m here. here)
  tells {a = Some it} = keeps_tells (λ m here. here)

  answers : {A : Type 0} (a : Option A) → Keeping (Answers a)
  answers None = keeps_gets (λ m here. here)
  answers (Some a) = keeps_gets (λ m here. here)

  refuses : {A : Type 0} (word : List ℕ) → Keeping {A = A} (Refuses word)
  refuses word = keeps_tells (λ m here. here)

  notes : (change : ClientState → ClientState) → Keeping (Notes change)
  notes change = keeps_then {Q = λ _. Kept} (record { at = λ m n text on here step. rw step.is here }) (λ on. answers (unless_stopped on))

  exchanges : {A : Type 0} {request : Call (Node (List Commit)) (Option A)} → Keeps (LastsUp b) request (λ _. Lasts b)
      → KeepsOn Kept (Exchange request)
  exchanges {A} {request} keeps = exchange_keeps {P = λ p. Lasts b p.server} {Q = λ _ p. Lasts b p.server} passes served
    where
      passes : Passes A (λ p. Lasts b p.server) (λ _ p. Lasts b p.server)
      passes = record { nothing = λ p here. here; lost = λ a p here. here }

      served : Keeps (Reached (λ p. Lasts b p.server)) (At its_server request) (λ _. Kept)
      served = record { at = λ m n text a here step. rw step.is (keeps.at m.server step.inner text a here step.step) }

  lends : (held : Nodes) (errand : Errand) → KeepsOn Kept (Exchange (Lends held errand))
  lends held errand = exchanges (keeps_gets (λ node here. here.0))

  pub judges : (it : Submission) → KeepsOn Kept (Exchange (Judges it))
  judges it = exchanges (judges_last b it)

  -- ---- tests

  if_idle : {A : Type 0} {call : Try Pair A} → Keeping call → Keeping (IfIdle call)
  if_idle call = asks_then (keeps_either (refuses (codes "busy")) call)

  if_room : {A : Type 0} {call : Try Pair A} → Keeping call → Keeping (IfRoom call)
  if_room call = asks_then (keeps_either (refuses (codes "busy")) call)

  if_none_pends : {A : Type 0} {call : Try Pair A} → Keeping call → Keeping (IfNonePends call)
  if_none_pends call = asks_then (keeps_either (refuses (codes "pending")) call)

  if_running : {A : Type 0} (which : Option ℕ) {call : Running → Try Pair A} → ((it : Running) → Keeping (call it))
      → Keeping (IfRuns which call)
  if_running which {call = call} each = asks_then by_running
    where
      by_running : (running : Option Running) → Keeping (if_runs call running)
      by_running None = refuses (codes "idle")
      by_running (Some it) = each it

  by_hand : {A : Type 0} {call : Item → Try Pair A} → ((item : Item) → Keeping (call item)) → Keeping (IfManual call)
  by_hand {call = call} each = asks_then by_items
    where
      by_items : (items : List Item) → Keeping (if_manual call items)
      by_items [] = refuses (codes "nothing")
      by_items (item ∷ items) = keeps_either (each item) (refuses (codes "not manual")) (is_manual item.stage)

  -- ---- objects

  brings_and_holds : (change : Nodes → ClientState → ClientState) (errand : Errand) → Keeping (Holds change errand)
  brings_and_holds change errand = stays_then (asks_then (λ held. lends held errand)) by_answer
    where
      by_answer : (answer : Option Nodes) → Keeping (transactions.holds change answer)
      by_answer None = answers (Some false)
      by_answer (Some t) = keeps_goes (notes _) (λ _. answers (Some true))

  takes : (errand : Errand) → Keeping (Takes errand)
  takes errand = if_idle (if_none_pends (keeps_goes (brings_and_holds _ errand) by_came))
    where
      by_came : (came : Bool) → Keeping (took came)
      by_came true = answers (Some tt)
      by_came false = refuses (codes "away")

  -- ---- begin and steps

  begins : (script : Declared) (option : OnConflict Declared) → Keeping (Begins script option)
  begins script option = if_room (asks_then by_pending)
    where
      starts : (first : Bool) → Keeping (Starts script option first)
      starts first = asks_then (λ number. keeps_goes (notes _) (λ _. keeps_gets (λ m here. here)))

      by_pending : (pends : Bool) → Keeping (starts_if script option pends)
      by_pending true = starts false
      by_pending false = keeps_goes (brings_and_holds _ (errands.Refresh wanted.Nothing)) starts

  yields : (number : ℕ) → KeepsOn Kept (Yields number)
  yields number = keeps_does (λ m here. by_pending (transactions.pends m) m here)
    where
      by_pending : (pends : Bool) (m : Pair) → Kept m → Kept (yield_if number pends m)
      by_pending true m here = here
      by_pending false m here = here

  steps : (number : ℕ) (loud : Bool) → Keeping (Steps number loud)
  steps number loud = stays_then (yields number) (λ _. asks_then by_running)
    where
      by_next : (next : Next) → Keeping (step_by number loud next)
      by_next AtEnd = answers (Some false)
      by_next AtLimit = answers (Some false)
      by_next Acts = keeps_goes (notes _) (λ _. answers (Some true))
      by_next (Fetches path) = keeps_goes (brings_and_holds _ (errands.Refresh (wanted.Path path))) (λ came. keeps_either tells (answers (Some _)) loud)

      by_running : (running : Option Running) → Keeping (step_of number loud running)
      by_running None = answers (Some false)
      by_running (Some it) = asks_then by_next

  -- ---- syncs

  aloud : (change : ClientState → ClientState) (text : List ℕ) (synced : Synced) → Keeping (NotesAloud change text synced)
  aloud change text synced = keeps_goes (notes _) (λ _. tells)

  pub by_verdict : (name : List ℕ) (option : OnConflict Declared) (verdict : Option Verdict) → Keeping (told name option verdict)
  by_verdict name option None = tells
  by_verdict name option (Some (Settled number)) = aloud _ _ _
  by_verdict name option (Some (Conflict read question)) = by_option name _ option
    where
      by_option : (name said : List ℕ) (option : OnConflict Declared) → Keeping (conflicted name said option)
      by_option name said options.Abort = aloud _ _ _
      by_option name said options.Manual = aloud _ _ _
      by_option name said options.Reexec = aloud _ _ _
      by_option name said (options.Resolver script) = aloud _ _ _

  submits : (item : Item) → Keeping (transactions.Submits item)
  submits item = asks_then (λ it. stays_then (judges it) (by_verdict it.name item.option))

  is_resolved : (item : Item) → Keeping (Resolves item)
  is_resolved item = asks_then (λ name. asks_then (by_plan name))
    where
      by_answer : (name : List ℕ) (plan : Plan) (answer : Option Nodes) → Keeping (resolved_on name plan answer)
      by_answer name plan None = tells
      by_answer name plan (Some t) = aloud _ _ _

      by_plan : (name : List ℕ) (plan : Option Plan) → Keeping (resolves name plan)
      by_plan name None = answers (Some Unanswered)
      by_plan name (Some plan) = stays_then (lends new_client.held (errands.Refresh (wanted.Below []))) (by_answer name plan)

  pub syncs : Keeping Syncs
  syncs = asks_then by_items
    where
      by_stage : (item : Item) (stage : Stage) → Keeping (sync_at item stage)
      by_stage item stages.Waiting = submits item
      by_stage item (stages.Resolved it) = submits item
      by_stage item stages.Conflict = is_resolved item
      by_stage item stages.Manual = tells

      by_items : (items : List Item) → Keeping (sync_head items)
      by_items [] = tells
      by_items (item ∷ items) = by_stage item item.stage

  syncs_all : Keeping SyncsAll
  syncs_all = asks_then (λ n. keeps_repeats (asks_then by_pending) (3 * n))
    where
      by_pending : (pends : Bool) → Keeping (sync_if pends)
      by_pending true = keeps_goes syncs (λ synced. answers (Some (moves synced)))
      by_pending false = answers (Some false)

  -- ---- a client's events

  compares : (it : Running) → KeepsOn Kept (Compares it)
  compares it = record { at = λ m n text found here step. by_step m n text found here step }
    where
      by_step : (m n : Pair) (text : List ℕ) (found : Compared) → Kept m → Compares it m text found n → Kept n
      by_step m n text found here (same is said answer stays) = subst Kept (sym stays) here
      by_step m n text found here (parts read question differ said answer stays) = subst Kept (sym stays) here

  pub ends : (which : Option ℕ) → Keeping (Ends which)
  ends which = if_running which (λ it. asks_then (by_next it))
    where
      by_synced : (gone : Ended) (synced : Synced) → Keeping (waits_unless gone synced)
      by_synced gone Unanswered = tells
      by_synced gone Moved = answers (Some tt)
      by_synced gone Stays = answers (Some tt)

      by_class : (gone : Ended) (first : Bool) → Keeping (syncs_or_waits gone first)
      by_class gone true = keeps_goes syncs (by_synced gone)
      by_class gone false = tells

      queues : (gone : Ended) → Keeping (joins gone)
      queues gone = keeps_goes (notes _) (λ _. stays_then stays_says (λ _. by_class gone gone.first))

      by_found : (gone : Ended) (found : Compared) → Keeping (ends_by gone found)
      by_found gone Same = queues gone
      by_found gone (Differs read question) = keeps_goes (notes _) (λ _. tells)

      is_certified : (it : Running) → Keeping (certifies it)
      is_certified it = stays_then (yields it.number) (λ _. asks_then (λ gone. stays_then (compares it) (by_found gone)))

      by_next : (it : Running) (next : Next) → Keeping (end_by it next)
      by_next it AtEnd = is_certified it
      by_next it AtLimit = is_certified it
      by_next it Acts = refuses (codes "not at end")
      by_next it (Fetches path) = refuses (codes "not at end")

  pub hoards : (path : Path) → Keeping (Hoards path)
  hoards path = keeps_goes (takes (errands.Refresh (wanted.Below path))) (λ _. tells)

  pub refreshes : Keeping Refreshes
  refreshes = keeps_goes (takes (errands.Refresh wanted.Nothing)) (λ _. tells)

  pub walks : (profile : Profile) (limit : ℕ) → Keeping (Walks profile limit)
  walks profile limit = keeps_goes (takes (errands.Walk profile limit)) (λ _. tells)

  pub begins_aloud : (script : Declared) (option : OnConflict Declared) → Keeping (BeginsAloud script option)
  begins_aloud script option = keeps_goes (begins script option) (λ _. tells)

  pub steps_aloud : (most : ℕ) (which : Option ℕ) → Keeping (StepsAloud most which)
  steps_aloud most which = if_running which (λ it. keeps_goes (keeps_repeats (steps it.number true) most) (λ _. tells))

  pub runs_it : (script : Declared) (option : OnConflict Declared) → Keeping (Runs script option)
  runs_it script option = if_room (asks_then (λ up. keeps_goes (keeps_either syncs_all (answers (Some tt)) up) (λ _.
      keeps_goes (begins script option) through)))
    where
      through : (number : ℕ) → Keeping (runs_through number)
      through number = keeps_goes (keeps_repeats (steps number false) run_steps) (λ _. ends (Some number))

  pub drains : Keeping Drains
  drains = keeps_or_says (keeps_goes syncs_all (λ _. asks_then (keeps_either refreshes (answers (Some tt)))))

  pub repairs : (script : Declared) → Keeping (Repairs script)
  repairs script = by_hand (λ item. keeps_goes (notes _) (λ _. tells))

  pub discards : Keeping Discards
  discards = by_hand (λ item. keeps_goes (notes _) (λ _. tells))

  pub reads_of : (place : ℕ) → Keeping (ReadsOf place)
  reads_of place = asks_then by_item
    where
      by_item : (item : Option queue.Item) → Keeping (says_reads item)
      by_item None = refuses (codes "nothing")
      by_item (Some item) = tells

  pub does_task : (scripts : List Declared) (task : Task ℕ Profile) → Keeping (task_part scripts task)
  does_task scripts (tasks.Run script option) = runs_it (script_at scripts script) (chosen scripts option)
  does_task scripts (tasks.Hoard path) = hoards path
  does_task scripts tasks.Refresh = refreshes
  does_task scripts (tasks.Walk profile limit) = walks profile limit
  does_task scripts (tasks.Begin script option) = begins_aloud (script_at scripts script) (chosen scripts option)
  does_task scripts (tasks.Step count transaction) = steps_aloud count transaction
  does_task scripts (tasks.End transaction) = ends transaction
  does_task scripts tasks.Sync = keeps_goes syncs (λ _. answers (Some tt))
  does_task scripts tasks.Drain = drains
  does_task scripts (tasks.Repair script) = repairs (script_at scripts script)
  does_task scripts tasks.Discard = discards
  does_task scripts tasks.Queue = tells
  does_task scripts (tasks.Reads item) = reads_of item

  -- ---- a machine

  abbrev pub KeptIn : Machine → Type 0
  KeptIn m = Lasts b m.server

  abbrev pub KeepingIn : {A : Type 0} → Call Machine A → Type 0
  KeepingIn call = KeepsOn KeptIn call

  pub of_client : {A : Type 0} {call : Try Pair A} {c : ℕ} → Keeping call → KeepingIn (OfClient c call)
  of_client {call = call} {c = c} keeps = record {
    at = λ m n text a here step. rw step.is (if_up.at ((pair_at c).get m) step.inner text a here step.step);
  }
    where
      if_up : KeepsOn Kept (IfUp call)
      if_up = asks_then (keeps_either (keeps_whole (λ a pair here. here) keeps) stays_says)

  -- what a client does alone leaves the server as it is
  pub alone : {A : Type 0} {call : Call Client A} {c : ℕ} → KeepingIn (At (client_at c) call)
  alone = record { at = λ m n text a here step. rw step.is here }

  pub at_server : {A : Type 0} {P : Node (List Commit) → Type 0} {call : Call (Node (List Commit)) A}
      → Keeps P call (λ _. Lasts b) → Keeps (λ m. P m.server) (At server call) (λ _. KeptIn)
  at_server keeps = record { at = λ m n text a here step. rw step.is (keeps.at m.server step.inner text a here step.step) }

  pub restarts_server : KeepingIn RestartsServer
  restarts_server = asks_then (λ alive. asks_then (λ names.
      stays_then (at_server (restarts_last b server_name (kept_text names))) (λ _. keeps_does (counts alive))))
    where
      counts : (alive : Bool) (m : Machine) → KeptIn m → KeptIn (counts_anew alive m)
      counts true m here = here
      counts false m here = here

  -- a promotion of its backup, whether it goes well or stops
  pub promotes : KeepingIn Promotes
  promotes = asks_then (keeps_either stays_says (asks_then unless))
    where
      gives_up : (m : Machine) → KeptIn m → KeptIn (give_up m)
      gives_up m here = lasts_same b m.server (arming_as m.beside m.server) refl refl (λ up. up) here

      unless : (promoted : Bool) → KeepingIn (promotes_unless promoted)
      unless true = stays_says
      unless false = stays_then (keeps_does gives_up) (λ _. asks_then (λ names.
          stays_then (at_server (comes_last b promote_words server_name (kept_text names))) (λ _. keeps_does (λ m here. here))))

  pub arms_backup : (calls : ℕ) (pick : Pick) → KeepingIn (ArmsBackup calls pick)
  arms_backup calls pick = keeps_does (λ m here. arms m.promoted m here)
    where
      arms : (promoted : Bool) (m : Machine) → KeptIn m → KeptIn (arm_backup calls pick promoted m)
      arms true m here = lasts_same b m.server (armed calls pick m.server) refl refl (λ up. up) here
      arms false m here = here

  pub declares : (name : List ℕ) → KeepingIn (Declares name)
  declares name = keeps_then {Q = λ _. KeptIn} (keeps_gets (λ m here. here)) (λ c. stays_then alone (stays_goes_on stays_says))
