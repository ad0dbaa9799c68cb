-- For which state of the machine a client stands as the keeper of a node, and the bytes of a disk.
use Rattle.std.specs.{List.list_all, Prelude.if◌then◌else◌, Prelude.is_some, Prelude.◌≡◌}
use Rattle.iot_client.specs.Ties.{IsTied, disk_of, live_of, place_of, stamps_of, state_of}
use Rattle.iot_kept.specs.Standing.{StandWith}
use Rattle.iot_laptop.specs.Below.{ClientState, List, Live, Medium, None, Option, Seated, Stamps, State, records_of, ℕ, []}
use Rattle.iot_node.specs.Keeping.{Keeping}
use Rattle.{iot_slots.specs.Cells.next, iot_stamp.specs.Trails.lent_stamps, iot_standing.specs.Kept.StateKept}

-- it knows its place, its state is tied to its disk, which has so many records, and that is what a client of the machine keeps
pub record IsSeated {D : Type 0} (medium : Medium D) (place : ℕ) (seated : Seated D) (count : ℕ) (m : ClientState) : Type 0 where
  pub place_is : place_of seated.client ≡ place
  pub tied : IsTied medium seated.client
  pub counted : records_of seated.client ≡ count
  pub kept : StateKept (state_of seated.client) m

-- an image, to which so many records were ever appended, modulo 2 ^ 64, is what the client keeps
pub record IsClientImage (image : List ℕ) (count : ℕ) (m : ClientState) : Type 0 where
  pub state : State
  pub stands : StandWith image count state
  pub kept : StateKept state m

abbrev pub seat_disk : {D : Type 0} → Seated D → D
seat_disk seated = disk_of seated.client

-- In the midst of a record its one disk has the record already.
abbrev pub seating : {D : Type 0} → Medium D → (place : ℕ) → Keeping (Seated D) ClientState D (List ℕ) seat_disk
seating medium place = record {
  stands = IsSeated medium place;
  image = IsClientImage;
  turning = λ image count before after. IsClientImage image (next count) after;
}

-- what no disk keeps: of those that run and were begun since the start, the script and the class; and the stamps that a server gave
pub record Besides : Type 0 where
  pub begun : List Live
  pub lent : Option Stamps

-- the script of each is known, or of none
abbrev pub begun_of : List Live → List Live
begun_of lives = if list_all (λ live. is_some live.code) lives then lives else []

abbrev pub besides : {D : Type 0} → Seated D → Besides
besides seated = record { begun = begun_of (live_of seated.client); lent = lent_stamps (stamps_of seated.client) }

-- what a client has of that after a start
abbrev pub none_besides : Besides
none_besides = record { begun = []; lent = None }
