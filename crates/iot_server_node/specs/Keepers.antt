-- For which list of commits a server stands, and how it handles a request.
use Rattle.std.specs.Prelude.{◌%◌, ◌+◌, ◌^◌, ◌≡◌}
use Rattle.iot_backup.specs.Parts.{Changes, NoneRose, OneRose}
use Rattle.{iot_disk.specs.declared.faults.JournalFault.JournalFault, iot_durable.specs.Durable.images_of}
use Rattle.{iot_judging.specs.Records.EncodesList, iot_node.specs.Keeping.Keeping, iot_server.specs.Faults.CutsOff}
use Rattle.{iot_server.specs.Faults.LacksMemory, iot_server.specs.Replies.IsHandled, iot_server_node.specs.Disks.Image}
use Rattle.iot_server_node.specs.Prelude.{Commit, Disks, If, IsMessage, IsRequest, List, Medium, ServerKeeper, Traffic, length, option_map}
use Rattle.iot_server_node.specs.{Prelude.request_spelling, Prelude.state_of, Prelude.ℕ, Records.AreImages, Records.AreTurning}
use Rattle.iot_slots.specs.{Decoding.State as Encoded, Slots.disk_of as disk_on, Slots.state_on}
use Rattle.iot_store.specs.Standing.{EachStarts}
use Rattle.iot_disk.specs.declared.faults.JournalFault.TheVariants as append
use Rattle.iot_server.specs.Servers as servers

-- what was received and sent since the start
abbrev pub traffic_in : {D : Type 0} → ServerKeeper D → Traffic
traffic_in keeper = servers.traffic_of keeper.server

-- its disks: those of the server, and the one that was given up
abbrev pub disks_in : {D : Type 0} → ServerKeeper D → Disks D
disks_in keeper = record {
  disk = servers.disk_of keeper.server;
  backup = option_map disk_on (servers.second_of keeper.server);
  given_up = keeper.given_up;
}

-- of what each disk of its server encodes
pub record Each {D : Type 0} (medium : Medium D) (P : Encoded → Type 0) (it : ServerKeeper D) : Type 0 where
  pub first : P (servers.encoded_on medium it.server)
  pub second : If (λ s. P (state_on medium s)) (servers.second_of it.server)

-- of what each encoded before, and what it encodes now
pub record Both {D : Type 0} (medium : Medium D) (R : (was now : Encoded) → Type 0) (old new : ServerKeeper D) : Type 0 where
  pub first : R (servers.encoded_on medium old.server) (servers.encoded_on medium new.server)
  pub second : Changes (λ was now. R (state_on medium was) (state_on medium now)) (servers.second_of old.server)
      (servers.second_of new.server)

-- a keeper's store has the state of this list, which has so many commits, its disks encode the list, and nothing is under way
pub record KeepsList {D : Type 0} (medium : Medium D) (keeper : ServerKeeper D) (count : ℕ) (commits : List Commit) : Type 0 where
  pub synced : servers.IsSynced medium keeper.server
  pub lists : Each medium (λ encoded. EncodesList encoded commits) keeper
  pub many : servers.count_of keeper.server ≡ count
  pub has_state : servers.state_of keeper.server ≡ state_of commits
  pub counted : count ≡ length commits

-- For which list of commits a keeper stands, and an image of its disks; and which images are in the midst of one commit more.
abbrev pub lists : {D : Type 0} → Medium D → Keeping (ServerKeeper D) (List Commit) (Disks D) Image disks_in
lists medium = record { stands = KeepsList medium; image = AreImages; turning = AreTurning }

-- ---- requests

-- neither disk of its server was armed, and the one that was given up stays so
pub record KeepsArms {D : Type 0} (medium : Medium D) (was now : ServerKeeper D) : Type 0 where
  pub first : medium.arms (servers.disk_of now.server) ≡ medium.arms (servers.disk_of was.server)
  pub second : Changes (λ old new. medium.arms (disk_on new) ≡ medium.arms (disk_on old)) (servers.second_of was.server)
      (servers.second_of now.server)
  pub given_up : now.given_up ≡ was.given_up

-- its server has handled a request, and replied; each disk has what that makes of it
pub record Handles {D : Type 0} (medium : Medium D) (asked reply : List ℕ) (was now : ServerKeeper D) : Type 0 where
  pub handled : Both medium (λ old new. IsHandled (servers.state_of was.server) old asked reply (servers.state_of now.server) new) was now
  pub synced : servers.IsSynced medium now.server
  pub arms : KeepsArms medium was now
  pub faults : NoneRose medium (servers.first_of was.server) (servers.first_of now.server) (servers.second_of was.server)
      (servers.second_of now.server)
  pub requests : (traffic_in now).requests ≡ ((traffic_in was).requests + 1) % 2 ^ 64

-- a commit was asked for, and was cut off
abbrev pub Cuts : {D : Type 0} → Medium D → (asked : List ℕ) → (was now : ServerKeeper D) → Type 0
Cuts medium asked was now =
    CutsOff medium (IsMessage IsRequest request_spelling asked) (servers.store_of was.server) (servers.store_of now.server)

-- It gave no reply. If there was no memory, each image still has its list, or a commit was cut off. If it stopped, a commit was cut off,
-- and one disk's count of faults rose.
abbrev pub RefusesFor : {D : Type 0} → Medium D → (asked : List ℕ) → JournalFault → (was now : ServerKeeper D) → Type 0
RefusesFor medium asked append.NoMemory was now =
    LacksMemory medium (IsMessage IsRequest request_spelling asked) (servers.store_of was.server) (servers.store_of now.server)
RefusesFor medium asked append.Stopped was now =
    Cuts medium asked was now × OneRose medium (servers.first_of was.server) (servers.first_of now.server) (servers.second_of was.server)
    (servers.second_of now.server)

-- however it is, a start from any two images has what it needs
pub record Refuses {D : Type 0} (medium : Medium D) (asked : List ℕ) (fault : JournalFault) (was now : ServerKeeper D) : Type 0 where
  pub why : RefusesFor medium asked fault was now
  pub arms : KeepsArms medium was now
  pub restarts : If (λ s. EachStarts (medium.may_leave (servers.disk_of now.server)) (images_of medium s)) (servers.second_of now.server)
