-- What the calls of a client refuse, change and answer.
use Rattle.std.specs.Prelude.{◌≡◌, ℕ, ◌+◌, ◌-◌, ◌<◌, ◌||◌, Bool, true, false, List, [], ◌∷◌, drop, leb, nat_lt, length, slice_get}
use Rattle.std.specs.Prelude.{⊤, IsSome, IsSomeAnd, Option, Some, None, Result, Ok, Err, option_map, unwrap_or, if◌then◌else◌}
use Rattle.iot_access.specs.Access.{access_of}
use Rattle.iot_acts.specs.Traces.{after_acts}
use Rattle.iot_acts.specs.Turns.{reads_of, turns, DiffersAt}
use Rattle.iot_certify.specs.Verdicts.{IsLongest}
use Rattle.iot_disk.specs.Disk.{Medium}
use Rattle.iot_slots.specs.Cells.{next}
use Rattle.iot_tree.specs.Tree.{Path, Nodes, IsTree, IsWhole}
use Rattle.iot_tree.specs.declared.changes.Changes.{Changes}
use Rattle.iot_stamp.specs.Stamps.{Stamps, nodes_of, nothing_held}
use Rattle.iot_tree.specs.declared.acts.Act.{Act}
use Rattle.iot_tree.specs.declared.limits.TheConstants.{ACT_LIMIT}
use Rattle.iot_tree.specs.declared.want.Want.TheVariants as wants
use Rattle.iot_lang.specs.Code.{Code}
use Rattle.iot_exec.specs.Misses.{first_away}
use Rattle.iot_wire.specs.Messages.{IsMessage}
use Rattle.iot_wire.specs.Rules.{IsReply}
use Rattle.iot_wire.specs.Spelling.{reply_spelling}
use Rattle.iot_wire.specs.declared.replies.Reply.TheVariants.{Objects}
use Rattle.iot_queue.specs.declared.items.Item.{Item}
use Rattle.iot_queue.specs.declared.items.Resolution.{Resolution}
use Rattle.iot_queue.specs.declared.items.Stage.{Stage}
use Rattle.iot_queue.specs.declared.items.Stage.TheVariants as stages
use Rattle.iot_resolve.specs.Plans.{plan_of}
use Rattle.iot_resolve.specs.Resolved.{resolved}
use Rattle.iot_resolve.specs.declared.plan.Plan.{Plan}
use Rattle.iot_kept.specs.States.{Transaction, State, view, own_view, has_number, numbered}
use Rattle.iot_bodies.specs.declared.running.TheConstants.{RUN_LIMIT}
use Rattle.iot_kept.specs.Changes.{IsInConflict, CanFollow, with_act, after}
use Rattle.iot_kept.specs.Bringing.{base_for, brought, bringing}
use Rattle.iot_kept.specs.Stamps.{StampsBy}
use Rattle.iot_kept.specs.declared.bringing.Purpose.{Purpose}
use Rattle.iot_kept.specs.Standing.{EachStands, EachStandsEither}
use Rattle.iot_changes.specs.Rules.{IsChange}
use Rattle.iot_changes.specs.declared.changes.Change.{Change}
use Rattle.iot_changes.specs.declared.changes.Change.TheVariants as changes
use Rattle.iot_client.specs.Faults.{MayFail}
use Rattle.iot_wire.specs.Meanings.{IsRefresh}
use Rattle.iot_client.specs.Messages.{IsToldBy, objects_in, noted_in}
use Rattle.iot_client.specs.Ties.{state_of, stamps_of, place_of, disk_of, records_of, Live, run_of}
use Rattle.iot_client.specs.declared.client.Client.{Client}
use Rattle.iot_client.specs.declared.fault.ClientFault.{ClientFault}
use Rattle.iot_client.specs.declared.fault.ClientFault.TheVariants.{NoMemory, Stopped, Busy, Pending, Idle, NotAtEnd, Nothing}
use Rattle.iot_client.specs.declared.fault.ClientFault.TheVariants.{NotManual, BadReply}
use Rattle.iot_client.specs.declared.noted.Noted.{Noted}
use Rattle.iot_client.specs.declared.noted.Noted.TheVariants as notes
use Rattle.iot_client.specs.declared.ended.Ended.{Ended}
use Rattle.iot_client.specs.declared.ended.Ended.TheVariants.{Joined, Again}
use Rattle.iot_tree.specs.declared.acts.Read.{Read}
use Rattle.iot_tree.specs.declared.questions.Answer.{Answer}
use Rattle.iot_tree.specs.declared.questions.Question.{Question}
use Rattle.iot_client.specs.declared.steps.Step.{Step}
use Rattle.iot_client.specs.declared.steps.Step.TheVariants.{Acted, Fetch, AtEnd, AtLimit}

-- ---- refusals, by the state alone

-- a call that wants that fewer run than may
abbrev pub busy : List Transaction → Option ClientFault
busy running = if nat_lt (length running) RUN_LIMIT then None else Some Busy

-- a call that wants that nothing waits
abbrev pub pending : List Item → Option ClientFault
pending [] = None
pending (item ∷ items) = Some Pending

-- a call that wants that this transaction runs
abbrev pub idle : Option Transaction → Option ClientFault
idle None = Some Idle
idle (Some it) = None

-- a call that wants that a transaction waits
abbrev pub empty_queue : List Item → Option ClientFault
empty_queue [] = Some Nothing
empty_queue (item ∷ items) = None

-- a call that wants that the first that waits is to be decided by hand
abbrev pub not_manual_in : Stage → Option ClientFault
not_manual_in stages.Waiting = Some NotManual
not_manual_in stages.Conflict = Some NotManual
not_manual_in stages.Manual = None
not_manual_in (stages.Resolved done) = Some NotManual

abbrev pub not_manual : List Item → Option ClientFault
not_manual [] = Some Nothing
not_manual (item ∷ items) = not_manual_in item.stage

-- what is known of the running transaction with this number, if it runs
abbrev pub live_numbered : ℕ → List Transaction → List Live → Option Live
live_numbered number (it ∷ running) (live ∷ lives) =
    if has_number number it then Some live else live_numbered number running lives
live_numbered number _ _ = None

-- whether its script has ended
abbrev pub has_ended : Transaction → Code → Bool
has_ended it code = (run_of it code (length it.acts)).ended

-- whether it may be ended: its script has ended, or it may do no more acts
abbrev pub may_end : Transaction → Code → Bool
may_end it code = has_ended it code || leb ACT_LIMIT (length it.acts)

-- so it is of one that runs, if its script is known
abbrev pub by_code : (Transaction → Code → Bool) → Option Transaction → Option Live → Bool
by_code by (Some it) (Some live) = unwrap_or (option_map (by it) live.code) false
by_code by _ _ = false

abbrev pub is_over_if_any : Option Transaction → Option Live → Bool
is_over_if_any it live = by_code has_ended it live

abbrev pub may_end_if_any : Option Transaction → Option Live → Bool
may_end_if_any it live = by_code may_end it live

-- a call that wants that this transaction runs, and that it may be ended
abbrev pub unended : Option Transaction → Bool → Option ClientFault
unended None over = Some Idle
unended (Some it) over = if over then None else Some NotAtEnd

-- a call that writes nothing is refused for this cause, exactly if there is one; else it is done, or memory ran out
abbrev pub RefusesFor : {T : Type 0} → Option ClientFault → Result T ClientFault → Type 0
RefusesFor (Some fault) result = result ≡ Err fault
RefusesFor None (Ok value) = Unit {0}
RefusesFor None (Err fault) = fault ≡ NoMemory

-- a call that appends a record is refused for this cause, exactly if there is one, and that changes nothing; else it is done, or memory
-- ran out, or the disk failed
abbrev pub Refuses : {D T : Type 0} → Option ClientFault → Client D → Client D → Result T ClientFault → Type 0
Refuses None old new (Ok value) = Unit {0}
Refuses None old new (Err fault) = MayFail fault
Refuses (Some fault) old new result = (result ≡ Err fault) × (new ≡ old)

-- how a call ends that reads a reply, by what this can be read as: it is done if that is one that it takes, and refused at the place where
-- it is bad, which changes nothing; or memory ran out, or the disk failed
abbrev pub EndsBy : {D X T : Type 0} → (Result X ℕ → Type 0) → Client D → Client D → Result T ClientFault → Type 0
EndsBy {X = X} Reads old new (Ok value) = (x : X) × Reads (Ok x)
EndsBy Reads old new (Err NoMemory) = ⊤
EndsBy {X = X} Reads old new (Err Stopped) = (x : X) × Reads (Ok x)
EndsBy Reads old new (Err Busy) = ⊥
EndsBy Reads old new (Err Pending) = ⊥
EndsBy Reads old new (Err Idle) = ⊥
EndsBy Reads old new (Err NotAtEnd) = ⊥
EndsBy Reads old new (Err Nothing) = ⊥
EndsBy Reads old new (Err NotManual) = ⊥
EndsBy Reads old new (Err (BadReply at)) = Reads (Err at) × (new ≡ old)

-- before that, the state may refuse the call
abbrev pub RefusesReply : {D X T : Type 0} → Option ClientFault → (Result X ℕ → Type 0) → Client D → Client D → Result T ClientFault
    → Type 0
RefusesReply None Reads old new result = EndsBy Reads old new result
RefusesReply (Some fault) Reads old new result = (result ≡ Err fault) × (new ≡ old)

-- why an interpreter's transaction may not be ended
abbrev pub not_at_end : Bool → ℕ → Option ClientFault
not_at_end over acts = if over || leb ACT_LIMIT acts then None else Some NotAtEnd

-- ---- changes

-- the durable state changes by this change, which could follow, and there is one record more
pub record Notes {D : Type 0} (change : Change) (old new : Client D) : Type 0 where
  pub follows : CanFollow (state_of old) change
  pub state : state_of new ≡ after (state_of old) change
  pub stamps : StampsBy change (state_of old).items (stamps_of old) (stamps_of new)
  pub place : place_of new ≡ place_of old
  pub records : records_of new ≡ next (records_of old)

-- each image of the disk stands for the state before, with as many records
abbrev pub Stays : {D : Type 0} → Medium D → (old new : Client D) → Type 0
Stays medium old new = EachStands (medium.may_leave (disk_of new)) (records_of old) (state_of old)

-- a call was stopped while it appended the record of this change, or made a checkpoint before it; the change has a spelling and could
-- follow. Each image stands for the state before, with so many records, or for the one after it, with one more.
pub record CutsOff (change : Change) (state : State) (records : ℕ) (images : List ℕ → Type 0) : Type 0 where
  pub spelled : IsChange change
  pub follows : CanFollow state change
  pub either : EachStandsEither images records state (after state change)

-- the changes that the reply brings were merged into the held tree, or for a walk into nothing; the outcome is a tree, and the change of
-- what is durable is the one that brings it
pub record Brings {D : Type 0} (purpose : Purpose) (reply : List ℕ) (old new : Client D) : Type 0 where
  pub changes : Changes
  pub read : objects_in reply ≡ Ok changes
  pub spelled : IsMessage IsReply reply_spelling reply (Objects changes)
  pub stamps : stamps_of new ≡ brought (base_for purpose (stamps_of old)) changes
  pub tree : IsTree (nodes_of (brought (base_for purpose (stamps_of old)) changes))
  pub notes : Notes (bringing purpose (stamps_of old) changes) old new

-- it was stopped while it appended that change
pub record CutsOffByTree (purpose : Purpose) (reply : List ℕ) (held : Stamps) (state : State) (records : ℕ)
    (images : List ℕ → Type 0) : Type 0 where
  pub changes : Changes
  pub read : objects_in reply ≡ Ok changes
  pub spelled : IsMessage IsReply reply_spelling reply (Objects changes)
  pub tree : IsTree (nodes_of (brought (base_for purpose held) changes))
  pub cuts_off : CutsOff (bringing purpose held changes) state records images

-- what is so of the first that waits, if there is one
abbrev pub HeadIsIfAny : (Item → Type 0) → List Item → Type 0
HeadIsIfAny Is [] = Unit {0}
HeadIsIfAny Is (item ∷ items) = Is item

-- changes of nothing but the first that waits
abbrev pub ChangesHead : Change → Type 0
ChangesHead (changes.Held tree) = ⊥
ChangesHead (changes.Begun number script option) = ⊥
ChangesHead (changes.Fetched number tree) = ⊥
ChangesHead (changes.Acted number act) = ⊥
ChangesHead (changes.Ended number) = ⊥
ChangesHead (changes.Cut number acts) = ⊥
ChangesHead (changes.Again number) = ⊥
ChangesHead changes.Conflicted = Unit {0}
ChangesHead (changes.Resolved done access) = Unit {0}
ChangesHead (changes.Repaired script) = Unit {0}
ChangesHead changes.Left = Unit {0}

-- the change by what is said of the first that waits: it is settled, or in conflict
abbrev pub verdict_change : Noted → Change
verdict_change (notes.Settled number) = changes.Left
verdict_change (notes.Conflict read) = changes.Conflicted

-- a call was stopped while it appended the change by what the reply says
pub record CutsOffByVerdict (reply : List ℕ) (state : State) (records : ℕ) (images : List ℕ → Type 0) : Type 0 where
  pub said : Noted
  pub noted : noted_in reply ≡ Ok said
  pub told : IsToldBy reply said
  pub cuts_off : CutsOff (verdict_change said) state records images

-- what `resolve` needs of the first that waits: it is in conflict, and its option plans a run
pub record IsPlanned (item : Item) : Type 0 where
  pub stage : IsInConflict item
  pub plan : IsSome (plan_of item)

-- the resolution is the planned run on the server's tree, for the local tree
abbrev pub IsPlannedRun : Option Plan → Code → Nodes → Nodes → Resolution → Type 0
IsPlannedRun None code local server done = ⊥
IsPlannedRun (Some plan) code local server done = done ≡ resolved plan code local server

-- for the first that waits, where the local tree is the held one after the updates of its first run
abbrev pub IsHeadsRun : Nodes → List Item → Code → Nodes → Resolution → Type 0
IsHeadsRun held [] code server done = ⊥
IsHeadsRun held (item ∷ items) code server done = IsPlannedRun (plan_of item) code (after_acts held item.acts) server done

-- the durable state changes by the run for the first that waits, on this whole tree, and by what that run asked of it
pub record Reruns {D : Type 0} (code : Code) (server : Nodes) (old new : Client D) : Type 0 where
  pub done : Resolution
  pub run : IsHeadsRun (state_of old).held (state_of old).items code server done
  pub notes : Notes (changes.Resolved done (access_of done.acts server)) old new

-- it was stopped while it appended that change
pub record CutsOffRerun (code : Code) (server : Nodes) (state : State) (records : ℕ) (images : List ℕ → Type 0) : Type 0 where
  pub done : Resolution
  pub run : IsHeadsRun state.held state.items code server done
  pub cuts_off : CutsOff (changes.Resolved done (access_of done.acts server)) state records images

-- and the tree is the one that the reply makes of nothing
pub record Resolves {D : Type 0} (reply : List ℕ) (code : Code) (old new : Client D) : Type 0 where
  pub changes : Changes
  pub read : objects_in reply ≡ Ok changes
  pub spelled : IsMessage IsReply reply_spelling reply (Objects changes)
  pub tree : IsTree (nodes_of (brought nothing_held changes))
  pub whole : IsWhole (nodes_of (brought nothing_held changes))
  pub reruns : Reruns code (nodes_of (brought nothing_held changes)) old new

-- so it was if it was stopped while it appended the change
pub record CutsOffByRun (reply : List ℕ) (code : Code) (state : State) (records : ℕ) (images : List ℕ → Type 0) : Type 0 where
  pub changes : Changes
  pub read : objects_in reply ≡ Ok changes
  pub spelled : IsMessage IsReply reply_spelling reply (Objects changes)
  pub tree : IsTree (nodes_of (brought nothing_held changes))
  pub whole : IsWhole (nodes_of (brought nothing_held changes))
  pub reruns : CutsOffRerun code (nodes_of (brought nothing_held changes)) state records images

-- if this one runs, it is first class
abbrev pub IsFirstIfAny : Option Live → Type 0
IsFirstIfAny None = Unit {0}
IsFirstIfAny (Some live) = live.first ≡ true

-- ---- classes

abbrev pub second_class : Live → Live
second_class live = record live { first = false }

-- what is known of those that run, if the one with this number is another now
abbrev pub with_live : ℕ → (Live → Live) → List Transaction → List Live → List Live
with_live number change (it ∷ running) (live ∷ lives) =
    if has_number number it then change live ∷ lives else live ∷ with_live number change running lives
with_live number change _ lives = lives

-- without that one
abbrev pub other_lives : ℕ → List Transaction → List Live → List Live
other_lives number (it ∷ running) (live ∷ lives) =
    if has_number number it then lives else live ∷ other_lives number running lives
other_lives number _ lives = lives

-- if transactions wait, this one is second class
abbrev pub yielded_to : List Item → (number : ℕ) → List Transaction → List Live → List Live
yielded_to [] number running lives = lives
yielded_to (item ∷ items) number running lives = with_live number second_class running lives

abbrev pub yielded : (number : ℕ) → State → List Live → List Live
yielded number state lives = yielded_to state.items number state.running lives

-- nothing but classes is another
pub record ChangesClasses {D : Type 0} (old new : Client D) : Type 0 where
  pub state : state_of new ≡ state_of old
  pub stamps : stamps_of new ≡ stamps_of old
  pub place : place_of new ≡ place_of old
  pub disk : disk_of new ≡ disk_of old
  pub records : records_of new ≡ records_of old

-- ---- single steps

-- the act that the script does next, if it does one more
abbrev pub next_acts : Transaction → Code → List Act
next_acts it code = drop (length it.acts) (run_of it code (length it.acts + 1)).acts

-- a first-class transaction misses this path, if any
abbrev pub missed_by : Bool → Option Path → Option Path
missed_by true path = path
missed_by false path = None

-- the path of the first question of an act that is answered `Away`
abbrev pub missed : List Act → Option Path
missed [] = None
missed (act ∷ acts) = first_away act.reads

-- the script has not ended and may do one more act; if it is first class, that act asks nothing that is away
pub record CanAct (it : Transaction) (first : Bool) (code : Code) : Type 0 where
  pub goes_on : has_ended it code ≡ false
  pub within : length it.acts < ACT_LIMIT
  pub known : first ≡ true → missed (next_acts it code) ≡ None

-- the next act was done
pub record DoesNext {D : Type 0} (old : Client D) (it : Transaction) (first : Bool) (code : Code) (acts : ℕ) (ended : Bool)
    (new : Client D) : Type 0 where
  pub can : CanAct it first code
  pub act : Act
  pub next : next_acts it code ≡ act ∷ []
  pub notes : Notes (changes.Acted it.number act) old new
  pub counted : acts ≡ length it.acts + 1
  pub ends : ended ≡ has_ended (with_act act it) code

-- it was stopped while it appended the record of that act
pub record CutsOffNext (it : Transaction) (first : Bool) (code : Code) (state : State) (records : ℕ) (images : List ℕ → Type 0) : Type
    0 where
  pub can : CanAct it first code
  pub act : Act
  pub next : next_acts it code ≡ act ∷ []
  pub cuts_off : CutsOff (changes.Acted it.number act) state records images

-- the next act of a first-class transaction asks first about this path of those that are away
pub record Misses {D : Type 0} (old : Client D) (it : Transaction) (first : Bool) (code : Code) (path : Path) (new : Client D) : Type
    0 where
  pub goes_on : has_ended it code ≡ false
  pub within : length it.acts < ACT_LIMIT
  pub first_class : first ≡ true
  pub miss : missed (next_acts it code) ≡ Some path
  pub stays : ChangesClasses old new

-- what a single step of this transaction answers
abbrev pub StepIs : {D : Type 0} → Client D → Transaction → (first : Bool) → Code → Step → Client D → Type 0
StepIs old it first code (Acted acts ended) new = DoesNext old it first code acts ended new
StepIs old it first code (Fetch request path) new =
    IsRefresh (place_of old) (stamps_of old) (wants.Path path) request × Misses old it first code path new
StepIs old it first code (AtEnd acts) new = (has_ended it code ≡ true) × (acts ≡ length it.acts) × ChangesClasses old new
StepIs old it first code (AtLimit acts) new =
    (has_ended it code ≡ false) × (acts ≡ ACT_LIMIT) × (length it.acts ≡ ACT_LIMIT) × ChangesClasses old new

-- one runs, its script is known, and this is so of both and of its class
abbrev pub IsSoOf : (Transaction → (first : Bool) → Code → Type 0) → Option Transaction → Option Live → Type 0
IsSoOf Is (Some it) (Some live) = IsSomeAnd live.code (Is it live.first)
IsSoOf Is _ _ = ⊥

-- so of the running transaction with this number, once it is second class if transactions wait
abbrev pub IsSoOfRun : (Transaction → (first : Bool) → Code → Type 0) → (number : ℕ) → State → List Live → Type 0
IsSoOfRun Is number state lives =
    IsSoOf Is (numbered number state.running) (live_numbered number state.running (yielded number state lives))

-- ---- the end

-- the transaction ended, and waits: the acts of its script's run with the whole budget are what it did, and they hold on the view
pub record Joins {D : Type 0} (old : Client D) (it : Transaction) (first : Bool) (code : Code) (new : Client D) : Type 0 where
  pub notes : Notes (changes.Ended it.number) old new
  pub whole_acts : (run_of it code ACT_LIMIT).acts ≡ it.acts
  pub whole_tree : (run_of it code ACT_LIMIT).tree ≡ own_view it
  pub may : may_end it code ≡ true

-- the first read of it that has another answer on this tree has this place, counted from 1, and asks this
pub record Differs (t : Nodes) (it : Transaction) (read : ℕ) (question : Question) : Type 0 where
  pub asked : Read
  pub answer : Answer
  pub at : slice_get (reads_of it.acts) (read - 1) ≡ Some asked
  pub is : question ≡ asked.question
  pub differs : DiffersAt (turns t it.acts) 1 read answer

-- so it is on the view, and the transaction starts again there
pub record StartsAgain {D : Type 0} (old : Client D) (it : Transaction) (code : Code) (read : ℕ) (question : Question) (new : Client D)
    : Type 0 where
  pub notes : Notes (changes.Again it.number) old new
  pub differs : Differs (view (state_of old)) it read question
  pub may : may_end it code ≡ true

-- it was stopped while it appended the record of one or the other
pub data CutsOffEnd (it : Transaction) (code : Code) (state : State) (records : ℕ) (images : List ℕ → Type 0) : Type 0 where
  joining : may_end it code ≡ true → CutsOff (changes.Ended it.number) state records images → CutsOffEnd it code state records images
  starting : (read : ℕ) (question : Question) → may_end it code ≡ true → Differs (view state) it read question
      → CutsOff (changes.Again it.number) state records images → CutsOffEnd it code state records images

-- what is told of a transaction that was to end
abbrev pub EndIs : {D : Type 0} → Client D → Transaction → (first : Bool) → Code → Ended → Client D → Type 0
EndIs old it first code (Joined tid class) new = (tid ≡ it.number) × (class ≡ first) × Joins old it first code new
EndIs old it first code (Again read question) new = StartsAgain old it code read question new

-- what is known of those that run after that
abbrev pub lives_after : Ended → (number : ℕ) → List Transaction → List Live → List Live
lives_after (Joined tid class) number running lives = other_lives number running lives
lives_after (Again read question) number running lives = lives

-- ---- a cut

-- the first of those that ran, by its number, waits from then on with as many of its first acts as hold on the view; if none ran, nothing
-- changes
pub record Cuts {D : Type 0} (it : Transaction) (told : Option (ℕ × ℕ)) (old new : Client D) : Type 0 where
  pub acts : ℕ
  pub is : told ≡ Some (it.number, acts)
  pub longest : IsLongest (view (state_of old)) it.acts acts
  pub notes : Notes (changes.Cut it.number acts) old new

abbrev pub CutsIfAny : {D : Type 0} → List Transaction → Option (ℕ × ℕ) → Client D → Client D → Type 0
CutsIfAny [] told old new = (told ≡ None) × (new ≡ old)
CutsIfAny (it ∷ running) told old new = Cuts it told old new

-- it was stopped while it appended the record of that
pub record CutsOffFirst (it : Transaction) (state : State) (records : ℕ) (images : List ℕ → Type 0) : Type 0 where
  pub acts : ℕ
  pub longest : IsLongest (view state) it.acts acts
  pub cuts_off : CutsOff (changes.Cut it.number acts) state records images

abbrev pub CutsOffCut : List Transaction → State → ℕ → (List ℕ → Type 0) → Type 0
CutsOffCut [] state records images = ⊥
CutsOffCut (it ∷ running) state records images = CutsOffFirst it state records images
