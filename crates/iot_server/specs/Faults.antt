-- Why a request has no reply.
use Rattle.std.specs.Prelude.{◌≡◌, ◌⊎◌, ℕ, List, Result, Ok, Err, IsErrOf}
use Rattle.iot_backup.specs.Parts.{Changes, CountsBoth, If, NoneRose, OneRose}
use Rattle.iot_codec.specs.declared.faults.CodecFault.{CodecFault}
use Rattle.iot_codec.specs.declared.faults.CodecFault.TheVariants as codec
use Rattle.iot_count.specs.Counts.{Rose, Stayed}
use Rattle.iot_disk.specs.Disk.{Medium}
use Rattle.iot_disk.specs.declared.faults.JournalFault.{JournalFault}
use Rattle.iot_disk.specs.declared.faults.JournalFault.TheVariants as journal
use Rattle.iot_durable.specs.Durable.{images_of}
use Rattle.iot_durable.specs.Standing.{EachGoes}
use Rattle.iot_slots.specs.Slots.{disk_of as disk_on, state_on}
use Rattle.iot_store.specs.Rules.{rules}
use Rattle.iot_store.specs.Standing.{EachStands, EachStandsEither, EachStarts, EachStays}
use Rattle.iot_store.specs.States.{CanFollow, after_commit}
use Rattle.iot_store.specs.Store.{IsAlone, count_of, disk_of, encoded_on, first_of, second_of, state_of}
use Rattle.iot_store.specs.declared.store.Store.{Store}
use Rattle.iot_tree.specs.declared.access.Access.{Access}
use Rattle.iot_tree.specs.declared.labels.Label.{Label}
use Rattle.iot_wire.specs.declared.requests.Request.{Request}
use Rattle.iot_wire.specs.declared.requests.Request.TheVariants.{Commit}
use Rattle.iot_server.specs.declared.fault.ServerFault.{ServerFault}
use Rattle.iot_server.specs.declared.fault.ServerFault.TheVariants.{NoMemory, Malformed, Stopped}

abbrev pub of_codec : CodecFault → ServerFault
of_codec codec.NoMemory = NoMemory
of_codec (codec.Malformed at) = Malformed at

abbrev pub of_journal : JournalFault → ServerFault
of_journal journal.NoMemory = NoMemory
of_journal journal.Stopped = Stopped

-- what bytes decode to as a request, by how the call ends: a request, or the fault that it names
abbrev pub EndsBy : {T : Type 0} → Result T ServerFault → Result Request ℕ → Type 0
EndsBy (Ok _) decoded = (request : Request) × (decoded ≡ Ok request)
EndsBy (Err NoMemory) decoded = Unit {0}
EndsBy (Err Stopped) decoded = (request : Request) × (decoded ≡ Ok request)
EndsBy (Err (Malformed at)) decoded = decoded ≡ Err at

-- the bytes were not refused
abbrev pub IsNotMalformed : ServerFault → Type 0
IsNotMalformed NoMemory = Unit {0}
IsNotMalformed Stopped = Unit {0}
IsNotMalformed (Malformed at) = ⊥

-- a disk's count of faults, before and after a call with this answer, if there is no other: it rises if the call was stopped, and only then
abbrev pub CountsServerFault : {T : Type 0} → Result T ServerFault → ℕ → ℕ → Type 0
CountsServerFault (Ok _) before now = Stayed before now
CountsServerFault (Err NoMemory) before now = Stayed before now
CountsServerFault (Err (Malformed at)) before now = Stayed before now
CountsServerFault (Err Stopped) before now = Rose before now

-- the counts of all disks: exactly one rises if the call was stopped, and only then
abbrev pub CountsServerFaults : {D T : Type 0} → Medium D → Result T ServerFault → (old new : Store D) → Type 0
CountsServerFaults medium (Ok _) old new = NoneRose medium (first_of old) (first_of new) (second_of old) (second_of new)
CountsServerFaults medium (Err NoMemory) old new = NoneRose medium (first_of old) (first_of new) (second_of old) (second_of new)
CountsServerFaults medium (Err (Malformed at)) old new = NoneRose medium (first_of old) (first_of new) (second_of old) (second_of new)
CountsServerFaults medium (Err Stopped) old new = OneRose medium (first_of old) (first_of new) (second_of old) (second_of new)

-- A commit was asked for that can follow, and was cut off: each image of each disk stands for the state before or for the state with it.
-- Each encodes what was there, or a checkpoint of the state before alone; or such with the record of the commit.
pub record CutsOff {D : Type 0} (medium : Medium D) (Asks : Request → Type 0) (old new : Store D) : Type 0 where
  pub label : Label
  pub access : Access
  pub lines : List (List ℕ)
  pub asked : Asks (Commit label access lines)
  pub follows : CanFollow (state_of old) label access
  pub either : EachStandsEither (medium.may_leave (disk_of new)) (count_of old) (state_of old) (after_commit (state_of old) label access)
  pub encodes : EachGoes rules (medium.may_leave (disk_of new)) (encoded_on medium old) (state_of old)
      (record { label = label; access = access; lines = lines })
  pub second_either : Changes (λ was now. EachStandsEither (images_of medium now) (count_of old) (state_of old)
      (after_commit (state_of old) label access)) (second_of old) (second_of new)
  pub second_encodes : Changes (λ was now. EachGoes rules (images_of medium now) (state_on medium was) (state_of old)
      (record { label = label; access = access; lines = lines })) (second_of old) (second_of new)

-- Each image of each disk stands for the state before, and encodes what was there, or a checkpoint of that state alone.
pub record Stays {D : Type 0} (medium : Medium D) (old new : Store D) : Type 0 where
  pub first : EachStays (medium.may_leave (disk_of new)) (count_of old) (encoded_on medium old) (state_of old)
  pub second : Changes (λ was now. EachStays (images_of medium now) (count_of old) (state_on medium was) (state_of old))
      (second_of old) (second_of new)

-- Memory ran out: all stays, or a commit was cut off, whose record may be on the first disk of two. Each image of the second disk, and each
-- of one that is alone, stands for the state before.
pub record LacksMemory {D : Type 0} (medium : Medium D) (Asks : Request → Type 0) (old new : Store D) : Type 0 where
  pub alone : IsAlone old → EachStays (medium.may_leave (disk_of new)) (count_of old) (encoded_on medium old) (state_of old)
  pub either : Stays medium old new ⊎ CutsOff medium Asks old new
  pub second : If (λ s. EachStands (images_of medium s) (count_of old) (state_of old)) (second_of new)

-- What the answer to a request leaves of a store's disks, by how it ends: if a disk failed a commit was cut off. However it ends, a start
-- from any two images of both has what it needs.
pub record Leaves {D T : Type 0} (medium : Medium D) (Asks : Request → Type 0) (result : Result T JournalFault) (old new : Store D)
    : Type 0 where
  pub stopped : IsErrOf result journal.Stopped → CutsOff medium Asks old new
  pub no_memory : IsErrOf result journal.NoMemory → LacksMemory medium Asks old new
  pub restarts : If (λ s. EachStarts (medium.may_leave (disk_of new)) (images_of medium s)) (second_of new)
  pub faults : CountsBoth medium result (first_of old) (first_of new) (second_of old) (second_of new)
  pub arms : medium.arms (disk_of new) ≡ medium.arms (disk_of old)
  pub second_arms : Changes (λ was now. medium.arms (disk_on now) ≡ medium.arms (disk_on was)) (second_of old) (second_of new)
