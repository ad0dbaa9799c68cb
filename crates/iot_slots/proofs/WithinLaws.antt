-- What bytes encode is no longer than they are.
use Rattle.std.proofs.Common.{◌≤◌, ◌+◌, ◌==◌, ℕ, suc, zero, Bool, true, false, cond, List, [], ◌∷◌, length, take, drop}
use Rattle.std.proofs.Common.{arith, length-drop}
use Rattle.std.proofs.lemmas.List.{length-take}
use Rattle.std.specs.List.{AllByRecursion}
use Rattle.iot_records.specs.Bytes.{number_at, number_in}
use Rattle.iot_records.specs.Records.{Series, Whole, Cut, is_whole, prepended, series_from, series_in}
use Rattle.iot_slots.specs.Cells.{cell_at, place_named, version_named, in_force}
use Rattle.iot_slots.specs.Decoding.{Decoded, Encodes, NotStarted, Foreign, Damaged, decoded, decoded_by, is_checkpoint, is_foreign}
use Rattle.iot_slots.specs.Decoding.{checkpoint_at, with_records}
use Rattle.iot_slots.specs.declared.cell.Force.{Force}
use Rattle.iot_slots.specs.declared.cell.Force.TheVariants.{NoCell, Clash, Is}
use Rattle.iot_slots.specs.declared.version.Version.{Version}

part_within : (skipped size : ℕ) (bytes : List ℕ) → length (take size (drop skipped bytes)) ≤ length bytes
part_within skipped size bytes = omega (arith, length-take size (drop skipped bytes), length-drop skipped bytes)

-- ---- records

-- each has at most so many bytes
abbrev pub AreWithin : ℕ → List (List ℕ) → Type 0
AreWithin n bodies = AllByRecursion (λ (body : List ℕ). length body ≤ n) bodies

within_more : (m n : ℕ) (bodies : List (List ℕ)) → m ≤ n → AreWithin m bodies → AreWithin n bodies
within_more m n [] more are = tt
within_more m n (body ∷ bodies) more are = (omega (arith, more, are.0), within_more m n bodies more are.1)

abbrev SeriesWithin : ℕ → Series → Type 0
SeriesWithin n (Whole bodies) = AreWithin n bodies
SeriesWithin n (Cut at) = Unit {0}

series_more : (m n : ℕ) (series : Series) → m ≤ n → SeriesWithin m series → SeriesWithin n series
series_more m n (Whole bodies) more are = within_more m n bodies more are
series_more m n (Cut at) more are = tt

-- one before the others
prepended_within : (n : ℕ) (body : List ℕ) (series : Series) → length body ≤ n → SeriesWithin n series
    → SeriesWithin n (prepended body series)
prepended_within n body (Whole bodies) one others = (one, others)
prepended_within n body (Cut at) one others = tt

-- at a gate
gate_within : (n at : ℕ) (test whole : Bool) (body : List ℕ) (later : Series) → length body ≤ n → SeriesWithin n later
    → SeriesWithin n (cond test (cond whole (prepended body later) (Cut at)) (Whole []))
gate_within n at true true body later one others = prepended_within n body later one others
gate_within n at true false body later one others = tt
gate_within n at false whole body later one others = tt

series_within : (steps at : ℕ) (bytes : List ℕ) → SeriesWithin (length bytes) (series_from steps at bytes)
series_within zero at bytes = tt
series_within (suc steps) at [] = tt
series_within (suc steps) at (gate ∷ bytes) =
    let size : ℕ = number_in bytes in
    let rest : List ℕ = drop (8 + size) bytes in
    gate_within (suc (length bytes)) at (gate == 165) (is_whole bytes) (take size (drop 8 bytes))
    (series_from steps (at + 9 + size) rest) (omega (arith, part_within 8 size bytes))
    (series_more (length rest) (suc (length bytes)) (series_from steps (at + 9 + size) rest)
    (omega (arith, length-drop (8 + size) bytes)) (series_within steps (at + 9 + size) rest))

-- ---- the whole

abbrev pub IsWithin : ℕ → Decoded → Type 0
IsWithin n (Encodes encoded) = (length encoded.body ≤ n) × AreWithin n encoded.bodies
IsWithin n NotStarted = Unit {0}
IsWithin n Foreign = Unit {0}
IsWithin n (Damaged at) = Unit {0}

with_within : (n : ℕ) (version : Version) (body : List ℕ) (before : ℕ) (series : Series) → length body ≤ n → SeriesWithin n series
    → IsWithin n (with_records version body before series)
with_within n version body before (Whole bodies) one others = (one, others)
with_within n version body before (Cut at) one others = tt

checkpoint_within : (version : Version) (place size : ℕ) (bytes : List ℕ) → IsWithin (length bytes) (checkpoint_at version place size bytes)
checkpoint_within version place size bytes =
    let first : ℕ = place + 16 + size in
    with_within (length bytes) version (take size (drop (place + 8) bytes)) (number_at bytes (place + 8 + size))
    (series_in first (drop first bytes)) (part_within (place + 8) size bytes)
    (series_more (length (drop first bytes)) (length bytes) (series_in first (drop first bytes))
    (omega (arith, length-drop first bytes)) (series_within (length (drop first bytes)) first (drop first bytes)))

-- if it is there
test_within : (n : ℕ) (test : Bool) (one other : Decoded) → IsWithin n one → IsWithin n other → IsWithin n (cond test one other)
test_within n true one other first second = first
test_within n false one other first second = second

force_within : (force : Force) (bytes : List ℕ) → IsWithin (length bytes) (decoded_by force bytes)
force_within NoCell bytes = tt
force_within Clash bytes = tt
force_within (Is cell) bytes =
    let number : ℕ = number_at bytes (cell_at cell + 9) in
    let place : ℕ = place_named number in
    let version : Version = version_named number in
    test_within (length bytes) (is_checkpoint place bytes) (checkpoint_at version place (number_at bytes place) bytes)
    (Damaged (cell_at cell)) (checkpoint_within version place (number_at bytes place) bytes) tt

pub decoded_within : (header bytes : List ℕ) → IsWithin (length bytes) (decoded header bytes)
unfolding decoded
decoded_within header bytes =
    test_within (length bytes) (is_foreign header bytes) Foreign (decoded_by (in_force bytes) bytes) tt
    (force_within (in_force bytes) bytes)
