-- What the bytes of a disk encode as a journal.
use Rattle.std.specs.Prelude.{ℕ, ◌==◌, Bool, nat_eq, nat_le, ◌&&◌, if◌then◌else◌, List, [], ◌∷◌, ◌++◌, length, drop, slice_index, codes}
use Rattle.std.specs.List.{starts_with}
use Rattle.iot_records.specs.Records.{Series, Whole, Cut, series_in}
pub use Rattle.iot_records.specs.Bytes.{is_closed}
pub use Rattle.iot_records.specs.Records.{records, spelled}

-- the bytes encode the bodies of records, or something else wrote them, or they are damaged at a gate
pub data Decoded : Type 0 where
  Encodes : List (List ℕ) → Decoded
  Foreign : Decoded
  Damaged : (at : ℕ) → Decoded

-- the text after the first gate
abbrev pub header : List ℕ
header = codes "IOTJRNL1"

-- a disk on which a journal was started, with these bytes from the first record's gate on
abbrev pub started : List ℕ → List ℕ
started rest = 165 ∷ (header ++ rest)

-- a journal was started there: there is a first record's gate, and the gate before the header is open
abbrev pub is_started : List ℕ → Bool
is_started bytes = nat_le 10 (length bytes) && (slice_index bytes 0 == 165)

-- records up to a closed gate, or one that is cut short
abbrev pub with_records : Series → Decoded
with_records (Whole bodies) = Encodes bodies
with_records (Cut at) = Damaged at

-- the whole
unfoldable pub decoded : List ℕ → Decoded
decoded bytes =
    if is_started bytes
    then (if starts_with nat_eq (drop 1 bytes) header then with_records (series_in 9 (drop 9 bytes)) else Foreign)
    else Encodes []

-- the bodies that bytes encode
abbrev pub bodies_decoded : Decoded → List (List ℕ)
bodies_decoded (Encodes bodies) = bodies
bodies_decoded Foreign = []
bodies_decoded (Damaged at) = []

abbrev pub bodies_in : List ℕ → List (List ℕ)
bodies_in bytes = bodies_decoded (decoded bytes)
