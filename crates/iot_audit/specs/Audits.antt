-- When an image of a server's disk is audited, and why it is refused.
use Rattle.std.specs.Prelude.{◌≡◌, ◌⊎◌, ◌+◌, ℕ, Bool, true, false, List, [], ◌∷◌, ◌++◌, length, map, bytes_eq}
use Rattle.std.specs.Prelude.{Option, Some, None, Result, Ok, Err, drop, nat_le, slice_get, if◌then◌else◌}
use Rattle.std.specs.Cmp.Lexicographic.{pointwise}
use Rattle.iot_access.specs.Access.{lines_of}
use Rattle.iot_durable.specs.Damage.{IsDamagedAt}
use Rattle.iot_event.specs.declared.event.Event.{Event}
use Rattle.iot_exec.specs.Commands.{kept_files}
use Rattle.iot_exec.specs.Serial.{Entry, run_entry, serial, serial_tree}
use Rattle.iot_exec.specs.declared.ran.Ran.{Ran}
use Rattle.iot_lang.specs.Code.{Code}
use Rattle.iot_machine.specs.Machine.{Commit}
use Rattle.iot_judging.specs.Lists.{state_of}
use Rattle.iot_judging.specs.Records.{HasList}
use Rattle.iot_slots.specs.Decoding.{Foreign, decoded}
use Rattle.iot_store.specs.Images.{HasRecorded}
use Rattle.iot_store.specs.Rules.{header, rules}
use Rattle.iot_store.specs.Standing.{StandFor}
use Rattle.iot_store.specs.States.{State}
use Rattle.iot_store.specs.declared.image.Image.{Image}
use Rattle.iot_store.specs.declared.image.ImageFault.{ImageFault}
use Rattle.iot_store.specs.declared.image.ImageFault.TheVariants as image
use Rattle.iot_tree.specs.Tree.{Nodes, root_alone}
use Rattle.iot_tree.specs.declared.labels.Label.{Label}
use Rattle.iot_tree.specs.declared.labels.Way.{Way}
use Rattle.iot_tree.specs.declared.nodes.Node.TheVariants.{Dir}
use Rattle.iot_audit.specs.Differences.{DifferFirst}
use Rattle.iot_audit.specs.Scripts.{code_named}
use Rattle.iot_audit.specs.declared.fault.AuditFault.{AuditFault}
use Rattle.iot_audit.specs.declared.fault.AuditFault.TheVariants as audit

-- ---- when an image is audited

-- the entry that a label makes with this script
abbrev pub entry_of : Code → Label → Entry Way
entry_of code label = record {
  client = label.client;
  number = label.tid;
  script = code;
  budget = label.budget;
  way = label.way;
  kept = kept_files label.kept;
}

-- the entries that labels make with the scripts that these events declare under their names
abbrev pub AreEntriesOf : List Event → List Label → List (Entry Way) → Type 0
AreEntriesOf events [] [] = Unit {0}
AreEntriesOf events (label ∷ labels) (entry ∷ entries) =
    ((code : Code) × (code_named label.script events ≡ Some code) × (entry ≡ entry_of code label)) × AreEntriesOf events labels entries
AreEntriesOf events labels entries = ⊥

-- what a run prints
abbrev pub said : Ran → List (List ℕ)
said ran = lines_of ran.acts

-- The bytes stand for a tree and labels, and each label's script is declared. The entries that these make give that tree when they are
-- run alone in their order, and the last of them print what the records say that are behind the checkpoint in force.
pub record IsAudited (events : List Event) (bytes : List ℕ) : Type 0 where
  pub state : State
  pub stands : StandFor bytes state
  pub recorded : List (List (List ℕ))
  pub records : HasRecorded (decoded header bytes) recorded
  pub entries : List (Entry Way)
  pub made : AreEntriesOf events state.labels entries
  pub tree : serial_tree entries ≡ state.tree
  pub early : List (List (List ℕ))
  pub lines : map said (serial entries) ≡ early ++ recorded

-- and there are so many labels
pub record IsAuditedOf (events : List Event) (bytes : List ℕ) (number : ℕ) : Type 0 where
  pub is : IsAudited events bytes
  pub counted : number ≡ length is.state.labels

-- ---- label by label

-- how far the labels' scripts are run: a tree is reached; or the script of the label with this number is not declared; or its record says
-- that other lines were printed
pub data Walked : Type 0 where
  Reached : (tree : Nodes) → Walked
  Lacks : (number : ℕ) → Walked
  Differs : (number : ℕ) → Walked

-- whether both are the same lines
abbrev pub are_same : List (List ℕ) → List (List ℕ) → Bool
are_same lines others = pointwise bytes_eq lines others

-- whether a record, if there is one, says that these lines were printed
abbrev pub agrees : (recorded : Option (List (List ℕ))) → List (List ℕ) → Bool
agrees None lines = true
agrees (Some recorded) lines = are_same recorded lines

-- what the record of a label says after which there are so many others, if it has one, and the records of these
abbrev pub record_with : (recorded : List (List (List ℕ))) → (later : ℕ) → Option (List (List ℕ))
record_with recorded later = if nat_le (length recorded) later then None else slice_get recorded 0

abbrev pub records_after : (recorded : List (List (List ℕ))) → (later : ℕ) → List (List (List ℕ))
records_after recorded later = if nat_le (length recorded) later then recorded else drop 1 recorded

-- The labels, each with what its record says, if it has one: the records are those of the last labels
abbrev pub told : List Label → (recorded : List (List (List ℕ))) → List (Label × Option (List (List ℕ)))
told [] recorded = []
told (label ∷ labels) recorded =
    (label, record_with recorded (length labels)) ∷ told labels (records_after recorded (length labels))

-- if the script is declared, it goes on with it
abbrev pub with_script : Option Code → (number : ℕ) → (Code → Walked) → Walked
with_script None number next = Lacks number
with_script (Some code) number next = next code

-- if the record agrees, it goes on
abbrev pub if_agrees : Bool → (number : ℕ) → Walked → Walked
if_agrees true number next = next
if_agrees false number next = Differs number

-- such labels run in turn from this tree on, the first of which has this number
abbrev pub walked : List Event → List (Label × Option (List (List ℕ))) → (number : ℕ) → Nodes → Walked
walked events [] number t = Reached t
walked events (row ∷ rows) number t =
    with_script (code_named row.0.script events) number
    (λ code. if_agrees (agrees row.1 (said (run_entry (entry_of code row.0) t))) number
    (walked events rows (number + 1) (run_entry (entry_of code row.0) t).tree))

-- all labels, from the tree that has only a root
abbrev pub walked_all : List Event → List Label → (recorded : List (List (List ℕ))) → Walked
walked_all events labels recorded = walked events (told labels recorded) 1 (root_alone Dir)

abbrev pub walked_in : List Event → Image → Walked
walked_in events image = walked_all events image.labels image.recorded

-- what came of running them
abbrev pub IsServed : Result Nodes AuditFault → Walked → Type 0
IsServed (Ok tree) walked = walked ≡ Reached tree
IsServed (Err audit.NoMemory) walked = Unit {0}
IsServed (Err audit.Foreign) walked = ⊥
IsServed (Err (audit.Damaged at)) walked = ⊥
IsServed (Err (audit.NoScript number)) walked = walked ≡ Lacks number
IsServed (Err (audit.Lines number)) walked = walked ≡ Differs number
IsServed (Err (audit.Tree path)) walked = ⊥

-- and of a comparison of the last tree with the image's
abbrev pub IsCompared : Image → Result ℕ AuditFault → Walked → Type 0
IsCompared image (Ok number) walked = (walked ≡ Reached image.tree) × (number ≡ length image.labels)
IsCompared image (Err audit.NoMemory) walked = Unit {0}
IsCompared image (Err audit.Foreign) walked = ⊥
IsCompared image (Err (audit.Damaged at)) walked = ⊥
IsCompared image (Err (audit.NoScript number)) walked = walked ≡ Lacks number
IsCompared image (Err (audit.Lines number)) walked = walked ≡ Differs number
IsCompared image (Err (audit.Tree path)) walked = (tree : Nodes) × (walked ≡ Reached tree) × DifferFirst tree image.tree path

-- ---- why it is refused

-- the bytes stand for labels, with these records, which are run so far
pub record Walks (events : List Event) (bytes : List ℕ) (outcome : Walked) : Type 0 where
  pub state : State
  pub stands : StandFor bytes state
  pub recorded : List (List (List ℕ))
  pub records : HasRecorded (decoded header bytes) recorded
  pub is : walked_all events state.labels recorded ≡ outcome

-- they are run to the end, and the tree that they make differs from that of the bytes first at this path
pub record EndsApart (events : List Event) (bytes : List ℕ) (path : List (List ℕ)) : Type 0 where
  pub tree : Nodes
  pub walks : Walks events bytes (Reached tree)
  pub differ : DifferFirst tree walks.state.tree path

-- what is so if the image is refused for this
abbrev pub IsReason : List Event → (bytes : List ℕ) → AuditFault → Type 0
IsReason events bytes audit.NoMemory = ⊥
IsReason events bytes audit.Foreign = decoded header bytes ≡ Foreign
IsReason events bytes (audit.Damaged at) = IsDamagedAt rules bytes at
IsReason events bytes (audit.NoScript number) = Walks events bytes (Lacks number)
IsReason events bytes (audit.Lines number) = Walks events bytes (Differs number)
IsReason events bytes (audit.Tree path) = EndsApart events bytes path

-- there is a reason, or memory ran out
abbrev pub IsRefused : List Event → (bytes : List ℕ) → AuditFault → Type 0
IsRefused events bytes fault = (fault ≡ audit.NoMemory) ⊎ IsReason events bytes fault

-- why an image is refused that is none
abbrev pub fault_of : ImageFault → AuditFault
fault_of image.NoMemory = audit.NoMemory
fault_of image.Foreign = audit.Foreign
fault_of (image.Damaged at) = audit.Damaged at

-- ---- lists of commits

-- The bytes stand for what this list makes: they have a checkpoint of its first commits, and the records of the others, as their scripts
-- run alone.
pub record StandsForList (bytes : List ℕ) (commits : List Commit) : Type 0 where
  pub stands : StandFor bytes (state_of commits)
  pub list : HasList (decoded header bytes) commits

-- the events declare the script of each of these commits under its name
abbrev pub DeclareAll : List Event → List Commit → Type 0
DeclareAll events [] = Unit {0}
DeclareAll events (commit ∷ commits) = (code_named commit.script events ≡ Some commit.entry.script) × DeclareAll events commits
