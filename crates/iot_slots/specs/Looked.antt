-- A disk that was read, before anything is started on it.
use Rattle.std.specs.Prelude.{ℕ, List, [], Option, Some, None}
use Rattle.iot_disk.specs.Disk.{Medium, Only}
use Rattle.iot_slots.specs.Decoding.{State, state_in}
use Rattle.iot_slots.specs.Start.{IsSeen}
use Rattle.iot_slots.specs.declared.copying.Opened.{Opened}
use Rattle.iot_slots.specs.declared.looked.Looked.{Looked}
use Rattle.iot_slots.specs.declared.version.Version.TheVariants.{Two}

abbrev pub disk_of : {D : Type 0} → Looked D → D
disk_of looked = looked.disk

abbrev pub header_of : {D : Type 0} → Looked D → List ℕ
header_of looked = looked.header

-- the state that was found, or this body with no records
abbrev pub found_state : (body : List ℕ) → Option Opened → State
found_state body None = state_in Two body [] 0
found_state body (Some found) = state_in found.layout.version found.body.items found.bodies found.layout.count

abbrev pub state_with : {D : Type 0} → (body : List ℕ) → Looked D → State
state_with body looked = found_state body looked.seen.found

-- the number of records ever appended, modulo 2 ^ 64
abbrev pub count_of : {D : Type 0} → Looked D → ℕ
count_of looked = (state_with [] looked).count

-- the disk has one image, and this was found in it
pub record IsLooked {D : Type 0} (medium : Medium D) (looked : Looked D) : Type 0 where
  pub only : Only (medium.reads looked.disk) (medium.may_leave looked.disk)
  pub seen : IsSeen looked.header (medium.reads looked.disk) looked.seen
