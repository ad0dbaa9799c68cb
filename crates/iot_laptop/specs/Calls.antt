-- What the calls of a laptop answer, and what they make of the client of the machine.
use Rattle.std.specs.Prelude.{Err, Ok, Result, codes, slice_get, ◌++◌, ◌<◌, ◌∷◌, ◌≡◌}
use Rattle.iot_access.specs.Access.{access_of, lines_of}
use Rattle.iot_client.specs.Messages.{IsWholeRequest, label_of, resolved_label}
use Rattle.iot_client.specs.declared.{ended.Ended.Ended, fault.ClientFault.ClientFault, steps.Step.Step}
use Rattle.{iot_disk.specs.declared.faults.JournalFault.JournalFault, iot_kept.specs.States.Transaction, iot_lang.specs.Code.Code}
use Rattle.iot_laptop.specs.Alone.{NotesAlone, StartsAlone, YieldsAndNotes, yielding}
use Rattle.iot_laptop.specs.Below.{AreNamed, Bool, Call, ClientState, Compared, Declared, Differs}
use Rattle.iot_laptop.specs.Below.{IfOk, IsErrOf, IsSubmitted, KeepsDisk, Laptop, List, Medium, Nodes, None, OnOk, Option, Plan, PostStands}
use Rattle.iot_laptop.specs.Below.{Read, Same, Seated, Some, Spells, SpellsVerdict, Stamps, State, Try, Up, acts_output, brought, cut_line}
use Rattle.iot_laptop.specs.Below.{false, length, name_of, no_text, nothing_held, numbered, option_map, reads_of, records_of, true, ℕ, []}
use Rattle.iot_laptop.specs.Laptops.{ClientStands, IsFirst, KeepsTrails, LaptopStands, NodeStands, Reclassed, SamePlace, disk_in, is_alive}
use Rattle.iot_laptop.specs.{Laptops.stamps_in, Laptops.state_in, Messages.SpellsTree, Messages.verdict_of, Seats.seating}
use Rattle.iot_laptop.specs.declared.needs.Certified.{Certified, TheVariants.Again, TheVariants.Joined}
use Rattle.iot_laptop.specs.declared.needs.{Gone.Gone, Need.Need, Submitted.Submitted, Undecided.Undecided, Undecided.TheVariants.NotManual}
use Rattle.iot_laptop.specs.declared.{needs.Undecided.TheVariants.Nothing, verdict.Told.Told}
use Rattle.iot_machine.specs.Clients.{Acts, Next, act_once, next_step, reach, repair, resolution_of, so_far}
use Rattle.iot_machine.specs.{Events.cuts_off, Nodes.Node, Refining.Refines, Refining.StepsTo, Stops.Appends}
use Rattle.iot_machine.specs.Texts.{stopped_line, transaction_name}
use Rattle.iot_node.specs.{Keeping.Appended, Posts.Answered, Posts.CameIf, Posts.StepsFrom, Posts.UpStands, Steps.Ends}
use Rattle.iot_node.specs.declared.{comeback.Comeback.TheVariants.Restart, halt.Halt.Halt, halt.Halt.TheVariants.NoMemory}
use Rattle.{iot_node.specs.declared.halt.Halt.TheVariants.Over, iot_queue.specs.declared.items.Item.Item}
use Rattle.{iot_queue.specs.declared.items.Stage.Stage, iot_standing.specs.Scripts.HasNamed, iot_standing.specs.Scripts.IsNamed}
use Rattle.iot_standing.specs.{Scripts.option_named, States.head_option, States.head_plan, States.next_as, States.told_change}
use Rattle.iot_tree.specs.{Profiles.IsProfile, Profiles.IsWalkLimit, declared.access.Access.Access}
use Rattle.iot_tree.specs.declared.{acts.Act.Act, changes.Changes.Changes as RowChanges, labels.Label.Label, labels.OnConflict.OnConflict}
use Rattle.iot_wire.specs.Meanings.{IsRefresh}
use Rattle.iot_wire.specs.{Messages.IsMessage, Rules.IsRequest, Spelling.request_spelling, declared.requests.Request.TheVariants.Commit}
use Rattle.iot_wire.specs.declared.replies.Reply.TheVariants as replies
use Rattle.iot_tree.specs.declared.want.Want.TheVariants as wanted
use Rattle.iot_queue.specs.declared.items.Stage.TheVariants as stages
use Rattle.iot_resolve.specs.Plans as resolves
use Rattle.iot_resolve.specs.declared.plan.Plan as plans
use Rattle.iot_client.specs.declared.fault.ClientFault.TheVariants as faults
use Rattle.iot_client.specs.declared.steps.Step.TheVariants as steps
use Rattle.iot_client.specs.declared.ended.Ended.TheVariants as ends
use Rattle.iot_disk.specs.declared.faults.JournalFault.TheVariants as append
use Rattle.iot_machine.specs.Clients as clients
use Rattle.iot_machine.specs.Machine as machine
use Rattle.iot_machine.specs.Options as options
use Rattle.iot_machine.specs.Serving as serving
use Rattle.iot_node.specs.declared.lines.Transaction as names
use Rattle.iot_laptop.specs.declared.needs.Need.TheVariants as needs
use Rattle.iot_laptop.specs.declared.errand.Errand as code
use Rattle.iot_laptop.specs.declared.errand.Errand.TheVariants as errands

-- ---- a record

-- the answer of a call that was not refused, as one of an append
abbrev pub appended : {T : Type 0} → Result T ClientFault → Result T JournalFault
appended (Ok t) = Ok t
appended (Err faults.Stopped) = Err append.Stopped
appended (Err other) = Err append.NoMemory

-- What became of a laptop after a call of its client that was to append a record behind so many others. It goes on as that call left it;
-- or its disk failed in the call, and it has stopped.
pub record GoesOn {D T : Type 0} (medium : Medium D) (old new : Laptop D) (count : ℕ) (answer : Result T ClientFault) (x y : List ℕ)
    (result : Result T Halt) : Type 0 where
  pub step : (was now : Seated D) (change : ClientState → ClientState) (node : Node ClientState) → old.post ≡ Up now
      → UpStands (seating medium old.place) medium no_text was node
      → Appended (seating medium old.place) medium change node.durable was now (appended answer) → count ≡ records_of was.client
      → Answered (StepsFrom (PostStands (seating medium old.place) medium no_text) (Appends old.name change) node new.post x y)
      (appended answer) result
  pub answers : IfOk result (λ t. answer ≡ Ok t)
  pub same : OnOk result (new ≡ old)
  pub silent : OnOk result (y ≡ x)
  pub stopped : IsErrOf result Over → IsErrOf answer faults.Stopped
  pub down : IsErrOf result Over → is_alive new ≡ false
  pub rest : new ≡ record old { post = new.post }

-- what is so unless memory ran out
abbrev pub UnlessNoMemory : {A : Type 0} → Result A Halt → Type 0 → Type 0
UnlessNoMemory (Err NoMemory) P = Unit {0}
UnlessNoMemory other P = P

-- it is where it was, over its disk; and unless memory ran out it has what it had of a server's stamps
pub record Keeps {D A : Type 0} (medium : Medium D) (old new : Laptop D) (result : Result A Halt) : Type 0 where
  pub place : SamePlace old new
  pub disk : KeepsDisk medium (disk_in old) (disk_in new)
  pub trails : UnlessNoMemory result (KeepsTrails old new)

-- it holds what the changes of the reply make of this tree; or it is down
abbrev pub TakesStamps : {D T : Type 0} → (base : Stamps) → (reply : List ℕ) → (old new : Laptop D) → Result T Halt → Type 0
TakesStamps base reply old new (Ok t) =
    (changes : RowChanges) → Spells reply (replies.Objects changes) → stamps_in new ≡ brought base changes
TakesStamps base reply old new (Err NoMemory) = Unit {0}
TakesStamps base reply old new (Err Over) = stamps_in new ≡ nothing_held

-- that it was done, or why not
abbrev pub done : {T : Type 0} → Result T Halt → Result (Unit {0}) Halt
done (Ok t) = Ok tt
done (Err halt) = Err halt

-- what is so of a call, by the laptop before and after it, by the text before and after it, and by its answer
abbrev pub Outcome : (D A : Type 0) → Type 1
Outcome D A = (old new : Laptop D) → (x y : List ℕ) → Result A Halt → Type 0

-- among any scripts it stands for a client by this call: it is alive after that, or the event is over, and it may be down
abbrev pub EndsAlone : {D A : Type 0} → Medium D → List Declared → Try machine.Client A → Outcome D A
EndsAlone medium scripts call old new x y result = Ends (LaptopStands medium scripts) (ClientStands medium scripts) call old new x y result

-- among any scripts it stands for a client, alive or down, before and after this call
abbrev pub Befalls : {D A : Type 0} → Medium D → Call machine.Client A → (old new : Laptop D) → (x y : List ℕ) → A → Type 0
Befalls medium call old new x y a = (scripts : List Declared) → Refines (ClientStands medium scripts) call old new x y a

-- it notes this change, or stops in that
abbrev pub Changes : {D : Type 0} → Medium D → (ClientState → ClientState) → Outcome D (Unit {0})
Changes medium change old new x y result = (scripts : List Declared) → EndsAlone medium scripts (NotesAlone change) old new x y result

-- its next transaction begins, with each option that this one may mean, and has this number
abbrev pub Begins : {D : Type 0} → Medium D → Declared → OnConflict → (first : Bool) → Outcome D ℕ
Begins medium script option first old new x y result =
    (scripts : List Declared) (on_conflict : options.OnConflict Declared) → IsNamed scripts script → HasNamed scripts on_conflict
    → option ≡ option_named on_conflict → EndsAlone medium scripts (StartsAlone script on_conflict first) old new x y result

-- the first that waits is to be resolved by the script of this name
abbrev pub Repairs : {D : Type 0} → Medium D → (name : List ℕ) → Outcome D (Unit {0})
Repairs medium name old new x y result = (scripts : List Declared) (script : Declared) → IsNamed scripts script → script.name ≡ name
    → EndsAlone medium scripts (NotesAlone (repair script)) old new x y result

-- each client for which it stands plans this for its first that waits
abbrev pub Plans : {D : Type 0} → Medium D → List Declared → Laptop D → Plan → Type 0
Plans medium scripts laptop plan =
    (m : machine.Client) → LaptopStands medium scripts laptop m → head_plan m.node.durable.held m.node.durable.items ≡ Some plan

-- on the tree that the reply brings the first that waits is resolved as it is planned, if it is planned by this script
abbrev pub Resolves : {D : Type 0} → Medium D → (reply : List ℕ) → Code → Outcome D (Unit {0})
Resolves medium reply code old new x y result =
    (t : Nodes) → SpellsTree nothing_held reply t → (scripts : List Declared) (plan : Plan) → Plans medium scripts old plan
    → plan.script.code ≡ code → EndsAlone medium scripts (NotesAlone (reach (clients.Resolved (resolution_of plan t)))) old new x y result

-- ---- what it asks for

-- for what it asks, as the machine says it
abbrev pub errand_of : code.Errand → serving.Errand
errand_of (errands.Refresh want) = serving.Refresh want.now
errand_of (errands.Fetch number path) = serving.Refresh (wanted.Path path.now)
errand_of (errands.Walk profile limit) = serving.Walk profile.now limit

-- it has a spelling
abbrev pub MayAsk : code.Errand → Type 0
MayAsk (errands.Walk profile limit) = IsProfile profile.now × IsWalkLimit limit
MayAsk errand = Unit {0}

-- no transaction begins anew for it
abbrev pub IsNoFetch : code.Errand → Type 0
IsNoFetch (errands.Fetch number path) = ⊥
IsNoFetch errand = Unit {0}

-- what is fetched is for one of first class
abbrev pub MayTake : {D : Type 0} → code.Errand → Laptop D → Type 0
MayTake (errands.Fetch number path) laptop = IsFirst number laptop
MayTake errand laptop = Unit {0}

-- how the tree that was brought for it is held
abbrev pub held_for : code.Errand → Nodes → ClientState → ClientState
held_for (errands.Fetch number path) t = clients.fetch number t
held_for errand t = clients.hold t

-- what the reply brings, merged into this tree, is held so, or it has stopped in that
pub record TakesReply {D : Type 0} (medium : Medium D) (held : Nodes → ClientState → ClientState) (base : Stamps) (reply : List ℕ)
    (old new : Laptop D) (x y : List ℕ) (result : Result (Unit {0}) Halt) : Type 0 where
  pub does : (t : Nodes) → SpellsTree base reply t → Changes medium (held t) old new x y result
  pub stamps : TakesStamps base reply old new result
  pub place : SamePlace old new
  pub disk : KeepsDisk medium (disk_in old) (disk_in new)

-- ---- the first that waits

-- its name
abbrev pub head_name : {D : Type 0} → Laptop D → List Item → Option names.Transaction
head_name laptop [] = None
head_name laptop (item ∷ items) = Some (record { client = laptop.name; number = item.tid })

-- the first that waits, if it is to be decided by hand
abbrev pub decision_on : {D : Type 0} → Laptop D → Item → Stage → Result names.Transaction Undecided
decision_on laptop item stages.Manual = Ok (record { client = laptop.name; number = item.tid })
decision_on laptop item other = Err NotManual

abbrev pub decision : {D : Type 0} → Laptop D → List Item → Result names.Transaction Undecided
decision laptop [] = Err Nothing
decision laptop (item ∷ items) = decision_on laptop item item.stage

-- why nothing is decided of the first that waits
abbrev pub undecided_word : Undecided → List ℕ
undecided_word Nothing = codes "nothing"
undecided_word NotManual = codes "not manual"

-- the plan is the one for the first that waits
abbrev pub IsHeadPlan : List Item → plans.Plan → Type 0
IsHeadPlan [] plan = ⊥
IsHeadPlan (item ∷ items) plan = (item.stage ≡ stages.Conflict) × (resolves.plan_of item ≡ Some plan)

-- one that was resolved submits the acts of its resolution, and another one those of its own run
abbrev pub acts_in : Item → Stage → List Act
acts_in item (stages.Resolved done) = done.acts
acts_in item other = item.acts

abbrev pub label_in : ℕ → Item → Stage → Label
label_in place item (stages.Resolved done) = resolved_label place item.tid item.option done
label_in place item other = label_of place item

-- what these asked of the tree before them: it is kept beside a resolution, and another one ran on the held tree
abbrev pub access_in : State → Item → Stage → Access
access_in state item (stages.Resolved done) = state.access
access_in state item other = access_of item.acts state.held

-- what it submits has read
abbrev pub head_reads : List Item → List Read
head_reads [] = []
head_reads (item ∷ items) = reads_of (acts_in item item.stage)

-- the transaction is submitted by what its acts asked of the tree before them, with its way and with what it printed
pub record HandsIn {D : Type 0} (laptop : Laptop D) (item : Item) (it : Submitted) : Type 0 where
  pub submitted : IsSubmitted item
  pub asked : IsMessage IsRequest request_spelling it.request.items
      (Commit (label_in (laptop.place) item item.stage) (access_in (state_in laptop) item item.stage) (lines_of (acts_in item item.stage)))
  pub transaction : it.printed.transaction ≡ record { client = laptop.name; number = item.tid }
  pub output : it.printed.output ≡ acts_output (acts_in item item.stage)
  pub way : it.way ≡ (label_in (laptop.place) item item.stage).way

-- the request asks for the server's whole tree
pub record AsksAll {D : Type 0} (laptop : Laptop D) (item : Item) (request : List ℕ) : Type 0 where
  pub conflict : item.stage ≡ stages.Conflict
  pub asked : IsWholeRequest (laptop.place) request

-- what a transaction that waits needs of the server
abbrev pub IsNeed : {D : Type 0} → Laptop D → Item → Need → Type 0
IsNeed laptop item (needs.Verdict it) = HandsIn laptop item it
IsNeed laptop item (needs.Tree request) = AsksAll laptop item request.items
IsNeed laptop item needs.Decision = item.stage ≡ stages.Manual

-- ---- the transactions that run

-- the number of the one that is meant: of the one with this number, or without a number of the first one
abbrev pub meant_in : Option ℕ → List Transaction → Option ℕ
meant_in (Some number) running = option_map (λ it. it.number) (numbered number running)
meant_in None running = option_map (λ it. it.number) (slice_get running 0)

-- the next step of the running transaction with this number is this one, in each client for which the laptop stands, if it yields
abbrev pub IsNext : {D : Type 0} → Medium D → (number : ℕ) → Laptop D → Next → Type 0
IsNext medium number laptop next =
    (scripts : List Declared) (m : machine.Client) (it : clients.Running) → LaptopStands medium scripts laptop m
    → clients.numbered number m.node.durable ≡ Some it → next_step (machine.is_first it.number (yielding number m)) it ≡ next

-- if it stops in a step, that was an act
abbrev pub NextIs : {D : Type 0} → Medium D → (number : ℕ) → Laptop D → Result Step Halt → Type 0
NextIs medium number laptop (Ok step) = IsNext medium number laptop (next_as step)
NextIs medium number laptop (Err NoMemory) = Unit {0}
NextIs medium number laptop (Err Over) = IsNext medium number laptop Acts

-- the client has yielded and done an act, or stopped in that, or has only yielded; what is fetched is for one of first class, while none
-- waits
abbrev pub TakesStep : {D : Type 0} → Medium D → (number : ℕ) → Outcome D Step
TakesStep medium number old new x y (Ok (steps.Acted acts ended)) =
    (scripts : List Declared) → EndsAlone medium scripts (YieldsAndNotes number (act_once number)) old new x y (Ok tt)
TakesStep medium number old new x y (Ok (steps.Fetch request path)) =
    Reclassed medium (yielding number) old new × (y ≡ x) × IsRefresh (new.place) (stamps_in new) (wanted.Path path) request
    × IsFirst number new × ((state_in new).items ≡ [])
TakesStep medium number old new x y (Ok over) = Reclassed medium (yielding number) old new × (y ≡ x)
TakesStep medium number old new x y (Err halt) =
    (scripts : List Declared) → EndsAlone medium scripts (YieldsAndNotes number (act_once number)) old new x y (Err halt)

-- ---- the end

-- the acts of one that runs, if it does
abbrev pub acts_by : Option Transaction → List Act
acts_by None = []
acts_by (Some it) = it.acts

-- what became of a transaction of the client of this name, which has printed this
abbrev pub certified_if : (name output : List ℕ) → Result Ended Halt → Result Certified Halt
certified_if name output (Ok (ends.Joined tid class)) =
    Ok (Joined (record { printed = record { transaction = record { client = name; number = tid }; output = output }; first = class }))
certified_if name output (Ok (ends.Again read question)) = Ok (Again read question)
certified_if name output (Err halt) = Err halt

-- what was found, as the machine says it
abbrev pub compared : Certified → Compared
compared (Joined gone) = Same
compared (Again read question) = Differs read question

abbrev pub compared_if : Result Certified Halt → Result Compared Halt
compared_if (Ok it) = Ok (compared it)
compared_if (Err halt) = Err halt

-- what is told of the transaction that ends is what it is in each client for which the laptop stands, if it yields
pub record IsEndOf (number : ℕ) (gone : Gone) (m : machine.Client) (it : clients.Running) : Type 0 where
  pub name : name_of gone.printed.transaction ≡ transaction_name m.name it.number
  pub class : gone.first ≡ machine.is_first it.number (yielding number m)
  pub did : gone.printed.output ≡ acts_output (so_far it).acts

abbrev pub IsGoneIfAny : {D : Type 0} → Medium D → (number : ℕ) → Laptop D → Certified → Type 0
IsGoneIfAny medium number laptop (Joined gone) =
    (scripts : List Declared) (m : machine.Client) (it : clients.Running) → LaptopStands medium scripts laptop m
    → clients.numbered number m.node.durable ≡ Some it → IsEndOf number gone m it
IsGoneIfAny medium number laptop (Again read question) = Unit {0}

-- ---- verdicts

-- it was told this of the first that waits, which the reply says
pub record IsTold {D : Type 0} (reply : List ℕ) (laptop : Laptop D) (said : Told) : Type 0 where
  pub verdict : (told : serving.Verdict) → SpellsVerdict (head_reads (state_in laptop).items) reply told → verdict_of said.verdict ≡ told
  pub option : head_option (state_in laptop).items ≡ Some said.option

-- what the reply says of it was noted, by its option
abbrev pub TakesVerdict : {D : Type 0} → Medium D → (reply : List ℕ) → Outcome D (Unit {0})
TakesVerdict medium reply old new x y result =
    (told : serving.Verdict) (option : OnConflict) → SpellsVerdict (head_reads (state_in old).items) reply told
    → head_option (state_in old).items ≡ Some option → Changes medium (told_change told option) old new x y result

-- ---- a restart

-- what is known of one that is alive, and of a client of the machine, whatever runs
pub record Before {D : Type 0} (medium : Medium D) (laptop : Laptop D) (scripts : List Declared) (m : machine.Client) : Type 0 where
  pub name : laptop.name ≡ m.name
  pub link : laptop.link ≡ m.link
  pub alive : m.node.alive ≡ true
  pub node : NodeStands medium laptop m
  pub named : AreNamed scripts m.node.durable

-- one that has just come back: what it found running is only to be cut off
pub record Returned {D : Type 0} (medium : Medium D) (laptop : Laptop D) : Type 0 where
  pub scripts : List Declared
  pub machine : machine.Client
  pub stands : Before medium laptop scripts machine

-- The image that it came back from decides whether the record in doubt was kept, which is said, before anything is said of what ran; or
-- it has stopped again, which is all that is said.
pub record Came {D : Type 0} (medium : Medium D) (old : Laptop D) (x y : List ℕ) (m : machine.Client) : Type 0 where
  pub on : Bool
  pub mid : List ℕ
  pub rest : List ℕ
  pub came : CameIf (seating medium old.place) medium on old.post Restart old.name x mid m.node.durable m.node.doubt
  pub whole : y ≡ mid ++ rest
  pub stopped : on ≡ false → y ≡ x ++ stopped_line old.name

-- these run in the client of the machine
pub record Back {D : Type 0} (medium : Medium D) (scripts : List Declared) (running : List clients.Running) (laptop : Laptop D)
    (m : machine.Client) : Type 0 where
  pub here : Before medium laptop scripts m
  pub runs : m.node.durable.running ≡ running

-- all that ran is cut off, one after the other, or it stops in that
abbrev pub CutsAll : {D : Type 0} → Medium D → (old new : Laptop D) → (x y : List ℕ) → Type 0
CutsAll medium old new x y =
    (scripts : List Declared) (running : List clients.Running)
    → StepsTo (Back medium scripts running) (ClientStands medium scripts) (cuts_off running) old new x y tt

-- the first of those that ran is cut off, and what is said of that and then cuts off the others makes the whole; or none ran, or it has
-- stopped in that
abbrev pub CutsFirst : {D : Type 0} → Medium D → Outcome D (Option (ℕ × ℕ))
CutsFirst {D = D} medium old new x y (Ok (Some told)) =
    (last : Laptop D) (z : List ℕ) → CutsAll medium new last (y ++ cut_line (transaction_name new.name told.0) told.1) z
    → CutsAll medium old last x z
CutsFirst medium old new x y (Err NoMemory) = Unit {0}
CutsFirst medium old new x y other = CutsAll medium old new x y

-- if one was cut off, one less runs
abbrev pub RunFewer : Option (ℕ × ℕ) → (old new : List Transaction) → Type 0
RunFewer None old new = Unit {0}
RunFewer (Some told) old new = length new < length old
