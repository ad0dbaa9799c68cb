-- What a client does with the server: it brings objects, and begins, steps and ends transactions. A call that answers nothing has ended
-- its event: the client has stopped, or it has refused.
use Rattle.std.specs.Prelude.{◌≡◌, ℕ, ◌+◌, ◌*◌, not, nat_lt, length, Bool, true, false, List, [], ◌∷◌, ◌++◌, Option, None, Some, codes}
use Rattle.iot_tree.specs.Tree.{Nodes, Path}
use Rattle.iot_tree.specs.declared.want.Want.TheVariants as wanted
use Rattle.iot_tree.specs.declared.questions.Question.{Question}
use Rattle.iot_acts.specs.Turns.{reads_of}
use Rattle.iot_machine.specs.Calls.{Call, Part, Try, Gets, Asks, Answers, Does, Says, Tells, Then, Goes, At, either, Repeats}
use Rattle.iot_machine.specs.Clients as stages
use Rattle.iot_machine.specs.Clients.{Declared, Stage, Item, Running, ClientState, most_running, new_client, view, so_far, numbered, meant}
use Rattle.iot_machine.specs.Clients.{next_step, Next, AtEnd, AtLimit, Acts, Fetches, reads_here, reads_on, ReadsSame}
use Rattle.iot_machine.specs.Clients.{attempt_of, attempted, Plan, plan_of, resolution_of}
use Rattle.iot_machine.specs.Clients.{hold, begin, again, fetch, act_once, end, leave, reach}
use Rattle.iot_link.specs.Links.{passage}
use Rattle.iot_link.specs.declared.passages.Passage.{Passage}
use Rattle.iot_link.specs.declared.passages.Passage.TheVariants as passages
use Rattle.iot_machine.specs.Machine.{Client, Commit, node, is_first, Pair, its_client, its_server, kept, set_class, all_second}
use Rattle.iot_machine.specs.Machine.{break_link, count_request}
use Rattle.iot_machine.specs.Nodes.{Node}
use Rattle.iot_machine.specs.Options as options
use Rattle.iot_machine.specs.Options.{OnConflict}
use Rattle.iot_machine.specs.Serving.{Errand, Lends, Judges, Submission, Verdict, Settled, Conflict, Parts}
use Rattle.iot_machine.specs.Serving as errands
use Rattle.iot_machine.specs.Stops.{Appends}
use Rattle.iot_machine.specs.Texts.{line, transaction_name, acts_output, fetch_line, end_line, again_line}
use Rattle.iot_machine.specs.Texts.{settled_line, conflict_line, abort_line, manual_line, resolve_line, pending_line}

-- ---- its record, and an exchange with the server

-- a change of what it keeps, and whether it goes on
abbrev pub Writes : (ClientState → ClientState) → Call Client Bool
Writes change client text on n = At node (Appends client.name change) client text on n

abbrev pub unless_stopped : Bool → Option (Unit {0})
unless_stopped true = Some tt
unless_stopped false = None

-- the same; if it stops in that, its event is over
abbrev pub Notes : (ClientState → ClientState) → Try Pair (Unit {0})
Notes change = Then (At its_client (Writes change)) (λ on. Answers (unless_stopped on))

-- a live server answers a request, and counts it; one that stops gives no reply, and counts none
abbrev pub counted : {A : Type 0} → Option A → Call Pair (Option A)
counted None = Answers None
counted (Some a) = Gets (λ _. Some a) count_request

abbrev pub Handles : {A : Type 0} → Call (Node (List Commit)) (Option A) → Call Pair (Option A)
Handles request = Then (At its_server request) counted

-- a reply that came, or none: then the link is broken
abbrev pub received : {A : Type 0} → Option A → Call Pair (Option A)
received None = Gets (λ _. None) break_link
received (Some a) = Answers (Some a)

-- a request to the server, and what it answers, by how far the two get over the link
abbrev pub exchange_by : {A : Type 0} → Call (Node (List Commit)) (Option A) → Passage → Call Pair (Option A)
exchange_by request passages.Away = Gets (λ _. None) all_second
exchange_by request passages.RequestLost = Gets (λ _. None) break_link
exchange_by request passages.ReplyLost = Then (Handles request) (λ _. Gets (λ _. None) break_link)
exchange_by request passages.Both = Then (Handles request) received

abbrev pub Exchange : {A : Type 0} → Call (Node (List Commit)) (Option A) → Call Pair (Option A)
Exchange request = Then (Asks (λ pair. passage pair.client.link pair.server.alive)) (exchange_by request)

-- it asks for objects
abbrev pub Brings : Errand → Call Pair (Option Nodes)
Brings errand = Then (Asks (λ pair. (kept pair).held)) (λ held. Exchange (Lends held errand))

-- ---- refusals

-- a word is said, and nothing is done
abbrev pub Refuses : {A : Type 0} → List ℕ → Try Pair A
Refuses word = Tells (λ _. line word) None

abbrev pub has_any : {A : Type 0} → List A → Bool
has_any [] = false
has_any (one ∷ more) = true

-- whether a transaction runs
abbrev pub runs : Pair → Bool
runs pair = has_any (kept pair).running

-- whether as many run as may
abbrev pub is_full : Pair → Bool
is_full pair = not (nat_lt (length (kept pair).running) most_running)

-- whether transactions wait
abbrev pub pends : Pair → Bool
pends pair = has_any (kept pair).items

-- unless a transaction runs
abbrev pub IfIdle : {A : Type 0} → Try Pair A → Try Pair A
IfIdle call = Then (Asks runs) (either (Refuses (codes "busy")) call)

-- unless as many run as may
abbrev pub IfRoom : {A : Type 0} → Try Pair A → Try Pair A
IfRoom call = Then (Asks is_full) (either (Refuses (codes "busy")) call)

-- unless transactions wait
abbrev pub IfNonePends : {A : Type 0} → Try Pair A → Try Pair A
IfNonePends call = Then (Asks pends) (either (Refuses (codes "pending")) call)

abbrev pub if_runs : {A : Type 0} → (Running → Try Pair A) → Option Running → Try Pair A
if_runs call None = Refuses (codes "idle")
if_runs call (Some it) = call it

-- for the running transaction that is meant
abbrev pub IfRuns : {A : Type 0} → Option ℕ → (Running → Try Pair A) → Try Pair A
IfRuns which call = Then (Asks (λ pair. meant which (kept pair))) (if_runs call)

-- ---- objects

-- what came is held, by this change; and whether something came
abbrev pub holds : (Nodes → ClientState → ClientState) → Option Nodes → Try Pair Bool
holds change None = Answers (Some false)
holds change (Some t) = Goes (Notes (change t)) (λ _. Answers (Some true))

-- what it asks for is brought and held, by this change; and whether it came
abbrev pub Holds : (Nodes → ClientState → ClientState) → Errand → Try Pair Bool
Holds change errand = Then (Brings errand) (holds change)

abbrev pub took : Bool → Try Pair (Unit {0})
took true = Answers (Some tt)
took false = Refuses (codes "away")

-- if nothing runs or waits, what it asks for is brought and held
abbrev pub Takes : Errand → Try Pair (Unit {0})
Takes errand = IfIdle (IfNonePends (Goes (Holds hold errand) took))

-- ---- begin

-- its next transaction begins, first class or not, and has this number
abbrev pub Starts : Declared → OnConflict Declared → (first : Bool) → Try Pair ℕ
Starts script option first =
    Then (Asks (λ pair. (kept pair).last + 1)) (λ number.
    Goes (Notes (begin script option)) (λ _. Gets (λ _. Some number) (set_class number first)))

-- it is first class if a refresh came; as long as transactions wait, nothing is asked
abbrev pub starts_if : Declared → OnConflict Declared → (pends : Bool) → Try Pair ℕ
starts_if script option true = Starts script option false
starts_if script option false = Goes (Holds hold (errands.Refresh wanted.Nothing)) (Starts script option)

-- unless as many run as may, a transaction of this script begins, and has this number
abbrev pub Begins : Declared → OnConflict Declared → Try Pair ℕ
Begins script option = IfRoom (Then (Asks pends) (starts_if script option))

-- ---- steps

-- a line, unless nothing is to be said, and this answer
abbrev pub tells_if : (loud : Bool) → List ℕ → Bool → Try Pair Bool
tells_if loud text more = either (Tells (λ _. text) (Some more)) (Answers (Some more)) loud

-- if nothing came it does no act: steps that are asked for end there, and a run goes on, second class
abbrev pub more_after : (loud came : Bool) → Bool
more_after loud true = true
more_after loud false = not loud

-- it begins anew, on what was brought
abbrev pub fetched : (loud : Bool) → Path → (came : Bool) → Try Pair Bool
fetched loud path came = tells_if loud (fetch_line path (not came)) (more_after loud came)

abbrev pub step_by : (number : ℕ) → (loud : Bool) → Next → Try Pair Bool
step_by number loud AtEnd = Answers (Some false)
step_by number loud AtLimit = Answers (Some false)
step_by number loud Acts = Goes (Notes (act_once number)) (λ _. Answers (Some true))
step_by number loud (Fetches path) = Goes (Holds (fetch number) (errands.Refresh (wanted.Path path))) (fetched loud path)

-- the next step of a running transaction
abbrev pub next_of : Running → Pair → Next
next_of it pair = next_step (is_first it.number pair.client) it

abbrev pub step_of : (number : ℕ) → (loud : Bool) → Option Running → Try Pair Bool
step_of number loud None = Answers (Some false)
step_of number loud (Some it) = Then (Asks (next_of it)) (step_by number loud)

-- if transactions wait, it is second class from now on
abbrev pub yield_if : (number : ℕ) → (pends : Bool) → Pair → Pair
yield_if number true pair = set_class number false pair
yield_if number false pair = pair

abbrev pub Yields : (number : ℕ) → Part Pair
Yields number = Does (λ _. []) (λ pair. yield_if number (pends pair) pair)

-- one step, and whether more may follow
abbrev pub Steps : (number : ℕ) → (loud : Bool) → Try Pair Bool
Steps number loud = Then (Yields number) (λ _. Then (Asks (λ pair. numbered number (kept pair))) (step_of number loud))

-- ---- the first transaction that waits

abbrev pub item_name : Item → Pair → List ℕ
item_name item pair = transaction_name pair.client.name item.number

-- the commit that it would be, of the client at this place
abbrev pub commit_of : (place : ℕ) → Item → Commit
commit_of place item = record {
  script = (attempt_of item).script.name;
  entry = record {
    client = place;
    number = item.number;
    script = (attempt_of item).script.code;
    budget = (attempt_of item).budget;
    way = (attempt_of item).way;
    kept = (attempt_of item).kept;
  };
}

-- the transaction as it is submitted
abbrev pub submission_of : Item → Pair → Submission
submission_of item pair = record {
  name = item_name item pair;
  commit = commit_of pair.place item;
  reads = reads_of (attempted (kept pair).held item).acts;
}

-- how a sync went: the first left or is further, and the next may follow; none waits, or it waits for a decision by hand; or nothing came
-- from the server
pub data Synced : Type 0 where
  Moved : Synced
  Stays : Synced
  Unanswered : Synced

-- what the client keeps changes, and then that is told
abbrev pub NotesAloud : (ClientState → ClientState) → List ℕ → Synced → Try Pair Synced
NotesAloud change text synced = Goes (Notes change) (λ _. Tells (λ _. text) (Some synced))

-- nothing came from the server
abbrev pub Misses : Try Pair Synced
Misses = Tells (λ _. line (codes "away")) (Some Unanswered)

-- one that conflicts is given up, or waits for a decision by hand, or is to be resolved
abbrev pub conflicted : List ℕ → (said : List ℕ) → OnConflict Declared → Try Pair Synced
conflicted name said options.Abort = NotesAloud leave (said ++ abort_line name) Moved
conflicted name said options.Manual = NotesAloud (reach stages.Manual) (said ++ manual_line name) Stays
conflicted name said options.Reexec = NotesAloud (reach stages.Conflict) said Moved
conflicted name said (options.Resolver script) = NotesAloud (reach stages.Conflict) said Moved

-- one that is in the list leaves
abbrev pub told : List ℕ → OnConflict Declared → Option Verdict → Try Pair Synced
told name option None = Misses
told name option (Some (Settled number)) = NotesAloud leave (settled_line name number) Moved
told name option (Some (Conflict read question)) = conflicted name (conflict_line name read question) option

abbrev pub submits : OnConflict Declared → Submission → Try Pair Synced
submits option it = Then (Exchange (Judges it)) (told it.name option)

abbrev pub Submits : Item → Try Pair Synced
Submits item = Then (Asks (submission_of item)) (submits item.option)

-- the plan is carried out on the tree that came
abbrev pub resolved_on : List ℕ → Plan → Option Nodes → Try Pair Synced
resolved_on name plan None = Misses
resolved_on name plan (Some t) = NotesAloud (reach (stages.Resolved (resolution_of plan t))) (resolve_line name plan.said) Moved

-- nothing is known and all is wanted, so the server's whole tree comes; no other than one that is to be resolved comes here
abbrev pub resolves : List ℕ → Option Plan → Try Pair Synced
resolves name None = Answers (Some Unanswered)
resolves name (Some plan) = Then (Exchange (Lends new_client.held (errands.Refresh (wanted.Below [])))) (resolved_on name plan)

abbrev pub Resolves : Item → Try Pair Synced
Resolves item = Then (Asks (item_name item)) (λ name. Then (Asks (λ pair. plan_of (kept pair).held item)) (resolves name))

abbrev pub sync_at : Item → Stage → Try Pair Synced
sync_at item stages.Waiting = Submits item
sync_at item (stages.Resolved it) = Submits item
sync_at item stages.Conflict = Resolves item
sync_at item stages.Manual = Tells (λ pair. manual_line (item_name item pair)) (Some Stays)

abbrev pub sync_head : List Item → Try Pair Synced
sync_head [] = Tells (λ _. line (codes "nothing")) (Some Stays)
sync_head (item ∷ items) = sync_at item item.stage

-- the first transaction that waits is submitted or resolved, by its stage
abbrev pub Syncs : Try Pair Synced
Syncs = Then (Asks (λ pair. (kept pair).items)) sync_head

-- again and again, as long as one waits and it goes on, and at most three times for each that waits at first
abbrev pub moves : Synced → Bool
moves Moved = true
moves Stays = false
moves Unanswered = false

abbrev pub sync_if : (pends : Bool) → Try Pair Bool
sync_if true = Goes Syncs (λ synced. Answers (Some (moves synced)))
sync_if false = Answers (Some false)

abbrev pub SyncsAll : Try Pair (Unit {0})
SyncsAll = Then (Asks (λ pair. length (kept pair).items)) (λ n. Repeats (3 * n) (Then (Asks pends) sync_if))

-- ---- a decision by hand

abbrev pub is_manual : Stage → Bool
is_manual stages.Waiting = false
is_manual stages.Conflict = false
is_manual stages.Manual = true
is_manual (stages.Resolved it) = false

abbrev pub if_manual : {A : Type 0} → (Item → Try Pair A) → List Item → Try Pair A
if_manual call [] = Refuses (codes "nothing")
if_manual call (item ∷ items) = either (call item) (Refuses (codes "not manual")) (is_manual item.stage)

-- for the first transaction, if it waits for a decision by hand
abbrev pub IfManual : {A : Type 0} → (Item → Try Pair A) → Try Pair A
IfManual call = Then (Asks (λ pair. (kept pair).items)) (if_manual call)

-- ---- end

-- what is known of a transaction that ends: its number, its name, what it printed, and whether it is first class
pub record Ended : Type 0 where
  pub number : ℕ
  pub name : List ℕ
  pub printed : List ℕ
  pub first : Bool

abbrev pub ended_of : Running → Pair → Ended
ended_of it pair = record {
  number = it.number;
  name = transaction_name pair.client.name it.number;
  printed = acts_output (so_far it).acts;
  first = is_first it.number pair.client;
}

-- that it waits, and what it printed
abbrev pub waits : Ended → Try Pair (Unit {0})
waits gone = Tells (λ _. pending_line gone.name ++ gone.printed) (Some tt)

abbrev pub waits_unless : Ended → Synced → Try Pair (Unit {0})
waits_unless gone Unanswered = waits gone
waits_unless gone Moved = Answers (Some tt)
waits_unless gone Stays = Answers (Some tt)

-- a first-class transaction is synced at once, and waits if no verdict comes; another waits
abbrev pub syncs_or_waits : Ended → (first : Bool) → Try Pair (Unit {0})
syncs_or_waits gone true = Goes Syncs (waits_unless gone)
syncs_or_waits gone false = waits gone

-- it waits from now on
abbrev pub joins : Ended → Try Pair (Unit {0})
joins gone = Goes (Notes (end gone.number)) (λ _. Then (Says (λ _. end_line gone.name)) (λ _. syncs_or_waits gone gone.first))

-- what it has read is what it would read on the view, or this is its first read with another answer there, and the question of that
pub data Compared : Type 0 where
  Same : Compared
  Differs : (read : ℕ) → (question : Question) → Compared

-- it is certified here
pub data Compares (it : Running) (pair : Pair) (text : List ℕ) (found : Compared) (n : Pair) : Type 0 where
  same : ReadsSame (view (kept pair)) it → text ≡ [] → found ≡ Same → n ≡ pair → Compares it pair text found n
  parts : (read : ℕ) (question : Question) → Parts (reads_here it) (reads_on (view (kept pair)) it) (Some (Conflict read question))
      → text ≡ [] → found ≡ Differs read question → n ≡ pair → Compares it pair text found n

-- it ends, or begins anew on the view, of the class that it has
abbrev pub ends_by : Ended → Compared → Try Pair (Unit {0})
ends_by gone Same = joins gone
ends_by gone (Differs read question) =
    Goes (Notes (again gone.number)) (λ _. Tells (λ _. again_line gone.name read question) (Some tt))

abbrev pub certifies : Running → Try Pair (Unit {0})
certifies it =
    Then (Yields it.number) (λ _. Then (Asks (ended_of it)) (λ gone. Then (Compares it) (ends_by gone)))

abbrev pub end_by : Running → Next → Try Pair (Unit {0})
end_by it AtEnd = certifies it
end_by it AtLimit = certifies it
end_by it Acts = Refuses (codes "not at end")
end_by it (Fetches path) = Refuses (codes "not at end")

abbrev pub Ends : Option ℕ → Try Pair (Unit {0})
Ends which = IfRuns which (λ it. Then (Asks (next_of it)) (end_by it))
