-- What is said of pairs of images, the first of which one disk may leave, and the other the other disk.
use Rattle.std.specs.Prelude.{◌≡◌, ◌⊎◌, ℕ, ◌==◌, ◌||◌, Bool, true, false, List, length, Option, Some, None}
use Rattle.iot_slots.specs.Cells.{next}
use Rattle.iot_slots.specs.Decoding.{Decoded, State, Encodes, NotStarted, Foreign, Damaged, decoded}
use Rattle.iot_slots.specs.Due.{due_on}
use Rattle.iot_slots.specs.Slots.{appended}

-- each pair of images is as the test says
pub record EachPair (P : (one other : List ℕ) → Type 0) (ones others : List ℕ → Type 0) : Type 0 where
  pub each : (one other : List ℕ) → ones one → others other → P one other

-- how many records were ever appended, modulo 2 ^ 64: 0 if nothing was started, and nothing of bytes that are refused
abbrev pub counted : Decoded → Option ℕ
counted (Encodes state) = Some state.count
counted NotStarted = Some 0
counted Foreign = None
counted (Damaged at) = None

-- the first count is the second one or one more
abbrev pub follows : (one other : ℕ) → Bool
follows one other = one == other || one == next other

-- neither is refused, and the first one's count is the second one's or one more
pub record AreInStep (one other : Decoded) : Type 0 where
  pub first : ℕ
  pub second : ℕ
  pub first_is : counted one ≡ Some first
  pub second_is : counted other ≡ Some second
  pub step : follows first second ≡ true

-- in each pair of images the first one's count is the second one's or one more
abbrev pub EachInStep : (header : List ℕ) (ones others : List ℕ → Type 0) → Type 0
EachInStep header = EachPair (λ one other. AreInStep (decoded header one) (decoded header other))

-- Both encode the state before; or the first encodes the one with the new record, and the other either. If the other lacks the record, no
-- checkpoint is due on it before the record.
abbrev pub AppendsInTurn : (header : List ℕ) (first second : State) (body : List ℕ) → (one other : List ℕ) → Type 0
AppendsInTurn header first second body one other =
    ((decoded header one ≡ Encodes first) × (decoded header other ≡ Encodes second))
    ⊎ (
    (decoded header one ≡ Encodes (appended first body))
    × (((decoded header other ≡ Encodes second) × (due_on header other (length body) ≡ false))
    ⊎ (decoded header other ≡ Encodes (appended second body)))
    )
