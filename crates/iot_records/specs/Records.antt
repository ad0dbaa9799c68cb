-- Records one after another: how they are spelled, and how bytes are decoded as such.
use Rattle.std.specs.Prelude.{◌≡◌, ◌≢◌, ℕ, suc, zero, ◌+◌, ◌==◌, Bool, nat_lt, ◌&&◌, if◌then◌else◌, List, [], ◌∷◌, ◌++◌, length, take, drop}
use Rattle.iot_disk.specs.declared.faults.StartFault.{StartFault}
use Rattle.iot_disk.specs.declared.faults.StartFault.TheVariants as fault
use Rattle.iot_records.specs.Bytes.{number, number_in}

-- what stands after the gate of a record: the number of bytes of its body, and the body
abbrev pub spelled : List ℕ → List ℕ
spelled body = number (length body) ++ body

-- records with open gates
abbrev pub records : List (List ℕ) → List ℕ
records [] = []
records (body ∷ bodies) = 165 ∷ (spelled body ++ records bodies)

-- the bodies of records up to a closed gate, or the offset of the open gate after which no whole record stands
pub data Series : Type 0 where
  Whole : List (List ℕ) → Series
  Cut : (at : ℕ) → Series

-- one more body before the others
abbrev pub prepended : List ℕ → Series → Series
prepended body (Whole bodies) = Whole (body ∷ bodies)
prepended body (Cut at) = Cut at

-- after an open gate stand a number, as many bytes of a body, and the next gate
abbrev pub is_whole : List ℕ → Bool
is_whole bytes = nat_lt (8 + number_in bytes) (length bytes)

-- the records from the gate at this offset on; each takes nine bytes or more, so as many steps as there are bytes are enough
abbrev pub series_from : (steps at : ℕ) → List ℕ → Series
series_from zero at bytes = Cut at
series_from (suc steps) at [] = Cut at
series_from (suc steps) at (gate ∷ bytes) =
    if gate == 165
    then
    (if is_whole bytes
    then prepended (take (number_in bytes) (drop 8 bytes)) (series_from steps (at + 9 + number_in bytes) (drop (8 + number_in bytes) bytes))
    else Cut at)
    else Whole []

-- the records of which these bytes, which stand at this offset, begin with the first gate
abbrev pub series_in : (at : ℕ) → List ℕ → Series
series_in at bytes = series_from (length bytes) at bytes

-- the bodies of whole records with open gates, up to where none stands; as many steps as there are bytes are enough
abbrev pub front_from : (steps : ℕ) → List ℕ → List (List ℕ)
front_from zero bytes = []
front_from (suc steps) [] = []
front_from (suc steps) (gate ∷ bytes) =
    if gate == 165 && is_whole bytes
    then take (number_in bytes) (drop 8 bytes) ∷ front_from steps (drop (8 + number_in bytes) bytes)
    else []

-- the bodies of the records with which these bytes begin
abbrev pub front_bodies : List ℕ → List (List ℕ)
front_bodies bytes = front_from (length bytes) bytes

-- The bytes are these records, a closed gate, and anything after it. They stand at `at`, and that gate at `gate`.
pub record IsSeries (bytes : List ℕ) (at : ℕ) (bodies : List (List ℕ)) (gate : ℕ) : Type 0 where
  pub byte : ℕ
  pub rest : List ℕ
  pub is : bytes ≡ records bodies ++ byte ∷ rest
  pub shut : byte ≢ 165
  pub place : gate ≡ at + length (records bodies)

-- why records were not read: memory ran out, or one is cut short
abbrev pub IsCutReason : StartFault → Series → Type 0
IsCutReason fault.NoMemory series = Unit {0}
IsCutReason fault.Stopped series = ⊥
IsCutReason fault.Foreign series = ⊥
IsCutReason (fault.Damaged at) series = series ≡ Cut at

-- a start that refuses the bytes of a disk changes nothing
abbrev pub ChangesNothing : StartFault → Type 0 → Type 0
ChangesNothing fault.NoMemory same = Unit {0}
ChangesNothing fault.Stopped same = Unit {0}
ChangesNothing fault.Foreign same = same
ChangesNothing (fault.Damaged at) same = same
