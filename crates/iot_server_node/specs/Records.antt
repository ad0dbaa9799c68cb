-- What the server's disks keep of the machine's list: a checkpoint of its first commits, and a record for each of the others.
use Rattle.std.specs.Prelude.{◌⊎◌}
use Rattle.iot_server_node.specs.Disks.{Image}
use Rattle.iot_server_node.specs.Prelude.{Commit, If, Leads, List, None, Option, Some, State, Storing, Two, rules, ℕ}
use Rattle.{iot_slots.specs.Cells.next, iot_store.specs.Standing.StandFor}
pub use Rattle.iot_judging.specs.{Lists.stamps_from, Lists.state_of, Records.EncodesList, Records.HasList, Records.IsImage}
pub use Rattle.{iot_judging.specs.Records.LacksCommit, iot_judging.specs.Records.records_from, iot_machine.specs.Recorded.label_of}

-- ---- of both disks

-- that of the first is so, and that of the second, if there is one, is so beside it
pub record AreSo (P : List ℕ → Type 0) (Q : (one other : List ℕ) → Type 0) (image : Image) : Type 0 where
  pub disk : P image.disk
  pub backup : If (Q image.disk) image.backup

-- an image of each stands for the list
abbrev pub AreImages : Image → (count : ℕ) → (commits : List Commit) → Type 0
AreImages image count commits = AreSo (λ bytes. IsImage bytes count commits) (λ one bytes. IsImage bytes count commits) image

-- in the midst of a commit the first one has it, and the second has it or lacks it
abbrev pub AreTurning : Image → (count : ℕ) → (commits longer : List Commit) → Type 0
AreTurning image count commits longer =
    AreSo (λ bytes. IsImage bytes (next count) longer)
    (λ one bytes. LacksCommit one bytes count commits longer ⊎ IsImage bytes (next count) longer) image

-- ---- from which states they go on, whatever became of a call

-- the bytes stand for a state to which commits lead from this one, each of which can follow the ones before it
pub record GoesOnFrom (from : State) (bytes : List ℕ) : Type 0 where
  pub state : State
  pub stands : StandFor bytes state
  pub records : List (List ℕ)
  pub leads : Leads (rules Two) records from state

-- those of both are so in each image of the disks
pub record EachGoesOn {P : Type 0} (medium : Storing P Image) (from : State) (disks : P) : Type 0 where
  pub each : (image : Image) → medium.may_leave disks image → AreSo (GoesOnFrom from) (λ one. GoesOnFrom from) image

-- there are disks, and they are so
abbrev pub DiskGoesOn : {P : Type 0} → Storing P Image → State → Option P → Type 0
DiskGoesOn medium from None = ⊥
DiskGoesOn medium from (Some disks) = EachGoesOn medium from disks

-- from whatever state each image of the old disks goes on, each image of the new ones goes on from that, too
pub record KeepsRecords {P : Type 0} (medium : Storing P Image) (old new : Option P) : Type 0 where
  pub keeps : (from : State) → DiskGoesOn medium from old → DiskGoesOn medium from new
