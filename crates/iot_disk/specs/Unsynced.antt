-- Which bytes of a disk in memory a write since the last sync covered.
use Rattle.std.specs.Prelude.{◌≡◌, ◌≤◌, ◌<◌, ◌⊎◌, ℕ, ◌-◌, Bool, true, false, List, [], ◌∷◌, ◌++◌, length, replicate}
use Rattle.std.specs.Prelude.{slice_index, slice_index_or}
use Rattle.iot_disk.specs.declared.unsynced.Span.{Span}

-- a mark for each byte that was there at the last sync, and how many marks there is room for
pub record Marks : Type 0 where
  pub known : List Bool
  pub room : ℕ

-- the marks of all bytes of a disk, as many as `count`: a byte that was not there at the last sync is marked
abbrev pub all_marks : List Bool → ℕ → List Bool
all_marks known count = known ++ replicate (count - length known) true

-- the byte at place k is marked
abbrev pub is_marked : List Bool → ℕ → Bool
is_marked marks k = slice_index_or marks k false

-- place k lies in the span
pub record IsIn (span : Span) (k : ℕ) : Type 0 where
  pub from : span.start ≤ k
  pub to : k < span.end

-- place k lies in one of the spans, or in the rest
abbrev pub IsInOneOf : List Span → Span → ℕ → Type 0
IsInOneOf [] rest k = IsIn rest k
IsInOneOf (span ∷ spans) rest k = IsIn span k ⊎ IsInOneOf spans rest k

-- each mark lies in one of the spans
pub record Hold (spans : List Span) (rest : Span) (marks : List Bool) : Type 0 where
  pub each : (k : ℕ) → is_marked marks k ≡ true → IsInOneOf spans rest k

-- each place of the span, and each that lay in one of the spans, lies in one of the new spans
pub record TakeIn (span : Span) (spans : List Span) (rest : Span) (new_spans : List Span) (new_rest : Span) : Type 0 where
  pub new : (k : ℕ) → IsIn span k → IsInOneOf new_spans new_rest k
  pub old : (k : ℕ) → IsInOneOf spans rest k → IsInOneOf new_spans new_rest k

-- two lists of bytes are alike at each place that is not marked
pub record AreAlike (marks : List Bool) (xs ys : List ℕ) : Type 0 where
  pub each : (k : ℕ) → k < length marks → is_marked marks k ≡ false → slice_index xs k ≡ slice_index ys k

-- the marks in the span are gone, and no other came
pub record Clears (span : Span) (old new : List Bool) : Type 0 where
  pub length : length new ≡ length old
  pub other : (k : ℕ) → is_marked new k ≡ true → is_marked old k ≡ true
  pub gone : (k : ℕ) → is_marked new k ≡ true → IsIn span k → ⊥

-- the bytes in the span are marked, as far as there are marks, and the other marks are as they were
pub record Covers (span : Span) (old new : List Bool) : Type 0 where
  pub size : length new ≡ length old
  pub inside : (k : ℕ) → k < length old → IsIn span k → is_marked new k ≡ true
  pub outside : (k : ℕ) → (k < span.start) ⊎ (span.end ≤ k) → is_marked new k ≡ is_marked old k
