-- Where the cells stand, how they name a place, and which of them is in force.
use Rattle.std.proofs.Common.{◌≡◌, ◌≢◌, ◌≤◌, ◌<◌, ◌⊎◌, inl, inr, ℕ, ◌+◌, ◌^◌, Bool, true, false, cond, List, get_or}
use Rattle.std.proofs.Common.{refl, sym, ap, subst, arith}
use Rattle.std.specs.Prelude.{nat_le}
use Rattle.std.proofs.lemmas.Bool.{cases_eq}
use Rattle.std.proofs.lemmas.Bool.Decides.{nat_tests}
use Rattle.iot_records.specs.Bytes.{number_at, is_open}
use Rattle.iot_slots.specs.Cells.{cell_at, version_mark, naming, place_named, version_by, version_named, other_of, next, chosen, counting}
use Rattle.iot_slots.specs.Parts.{Outranks}
use Rattle.iot_slots.specs.declared.cell.Cell.{Cell}
use Rattle.iot_slots.specs.declared.cell.Cell.TheVariants.{First, Second}
use Rattle.iot_slots.specs.declared.cell.Force.{Force}
use Rattle.iot_slots.specs.declared.cell.Force.TheVariants.{NoCell, Is}
use Rattle.iot_slots.specs.declared.version.Version.{Version}
use Rattle.iot_slots.specs.declared.version.Version.TheVariants.{One, Two}

-- ---- where they stand

pub cell_range : (cell : Cell) → (9 ≤ cell_at cell) × (cell_at cell + 17 ≤ 43)
cell_range First = (omega arith, omega arith)
cell_range Second = (omega arith, omega arith)

pub cells_apart : (cell : Cell) → (cell_at (other_of cell) + 17 ≤ cell_at cell) ⊎ (cell_at cell + 17 ≤ cell_at (other_of cell))
cells_apart First = inr (omega arith)
cells_apart Second = inl (omega arith)

pub other_other : (cell : Cell) → other_of (other_of cell) ≡ cell
other_other First = refl
other_other Second = refl

-- ---- how they name a place

pub version_back : (version : Version) (place : ℕ) → place < 2 ^ 63 → version_named (naming version place) ≡ version
version_back One place low =
    let unmarked : nat_le version_mark place ≡ false = grind (arith, nat_tests) in
    ap version_by unmarked
version_back Two place low =
    let marked : nat_le version_mark (place + version_mark) ≡ true = grind (arith, nat_tests) in
    ap version_by marked

pub place_back : (version : Version) (place : ℕ) → place < 2 ^ 63 → place_named (naming version place) ≡ place
place_back One place low = omega (arith, low)
place_back Two place low = omega (arith, low)

-- a number is the one that names its place in its version
pub naming_again : (number : ℕ) → number < 2 ^ 64 → number ≡ naming (version_named number) (place_named number)
naming_again number fits = by (nat_le version_mark number) refl
  where
    by : (marked : Bool) → nat_le version_mark number ≡ marked → number ≡ naming (version_by marked) (place_named number)
    by true is =
        let high : 2 ^ 63 ≤ number = grind (arith, nat_tests) in
        omega (arith, fits, high)
    by false is =
        let low : number < 2 ^ 63 = grind (arith, nat_tests) in
        omega (arith, low)

-- ---- gates

is_shut : (bytes : List ℕ) (at : ℕ) → get_or bytes at 0 ≢ 165 → is_open bytes at ≡ false
is_shut bytes at shut = grind (arith, nat_tests)

is_opened : (bytes : List ℕ) (at : ℕ) → get_or bytes at 0 ≡ 165 → is_open bytes at ≡ true
is_opened bytes at is = grind (arith, nat_tests)

pub opened_is : (bytes : List ℕ) (at : ℕ) → is_open bytes at ≡ true → get_or bytes at 0 ≡ 165
opened_is bytes at is = grind (arith, nat_tests)

pub shut_is : (bytes : List ℕ) (at : ℕ) → is_open bytes at ≡ false → get_or bytes at 0 ≢ 165
shut_is bytes at is h = grind (arith, nat_tests)

-- ---- which is in force

-- two generations cannot each be the next of the other
not_both : (one two : ℕ) → one ≡ next two → two ≡ next one → ⊥
not_both one two a b = omega (arith, a, b)

chosen_first : (first second : Bool) (one two : ℕ) → first ≡ true → (second ≡ false) ⊎ (one ≡ next two)
    → chosen first second one two ≡ Is First
chosen_first true true one two is (inr after) = grind (arith, nat_tests)
chosen_first true true one two is (inl never) = absurd (grind arith)
chosen_first true false one two is either = refl
chosen_first false second one two is either = absurd (grind arith)

chosen_second : (first second : Bool) (one two : ℕ) → second ≡ true → (first ≡ false) ⊎ (two ≡ next one)
    → chosen first second one two ≡ Is Second
chosen_second true true one two is (inr after) = elim (cases_eq one (next two)) [
  | inl same ↦ absurd (not_both one two same after)
  | inr other ↦ grind (arith, nat_tests)
]
chosen_second true true one two is (inl never) = absurd (grind arith)
chosen_second false true one two is either = refl
chosen_second first false one two is either = absurd (grind arith)

-- a cell is in force if its gate is open and it outranks the other
pub counting_is : (bytes : List ℕ) (cell : Cell) (generation : ℕ) → get_or bytes (cell_at cell) 0 ≡ 165 →
    number_at bytes (cell_at cell + 1) ≡ generation → Outranks bytes (cell_at (other_of cell)) generation → counting bytes ≡ Is cell
counting_is bytes First generation gate turn outranks =
    chosen_first (is_open bytes 9) (is_open bytes 26) (number_at bytes 10) (number_at bytes 27) (is_opened bytes 9 gate)
    (elim outranks.either [
      | inl shut ↦ inl (is_shut bytes 26 shut)
      | inr after ↦ inr (subst (λ (n : ℕ). n ≡ next (number_at bytes 27)) (sym turn) after)
    ])
counting_is bytes Second generation gate turn outranks =
    chosen_second (is_open bytes 9) (is_open bytes 26) (number_at bytes 10) (number_at bytes 27) (is_opened bytes 26 gate)
    (elim outranks.either [
      | inl shut ↦ inl (is_shut bytes 9 shut)
      | inr after ↦ inr (subst (λ (n : ℕ). n ≡ next (number_at bytes 10)) (sym turn) after)
    ])

first_inv : (a b : Bool) (one two : ℕ) → chosen a b one two ≡ Is First → (a ≡ true) × ((b ≡ false) ⊎ (one ≡ next two))
first_inv true true one two is =
    (refl, elim (cases_eq one (next two)) [ inl same ↦ inr same | inr other ↦ absurd (grind (arith, nat_tests)) ])
first_inv true false one two is = (refl, inl refl)
first_inv false true one two is = absurd (grind arith)
first_inv false false one two is = absurd (grind arith)

second_inv : (a b : Bool) (one two : ℕ) → chosen a b one two ≡ Is Second → (b ≡ true) × ((a ≡ false) ⊎ (two ≡ next one))
second_inv true true one two is =
    (refl, elim (cases_eq two (next one)) [ inl same ↦ inr same | inr other ↦ absurd (grind (arith, nat_tests)) ])
second_inv false true one two is = (refl, inl refl)
second_inv true false one two is = absurd (grind arith)
second_inv false false one two is = absurd (grind arith)

-- and only then
pub counting_inv : (bytes : List ℕ) (cell : Cell) → counting bytes ≡ Is cell →
    (get_or bytes (cell_at cell) 0 ≡ 165) × Outranks bytes (cell_at (other_of cell)) (number_at bytes (cell_at cell + 1))
counting_inv bytes First is =
    let inv = first_inv (is_open bytes 9) (is_open bytes 26) (number_at bytes 10) (number_at bytes 27) is in
    (opened_is bytes 9 inv.0, record { either = elim inv.1 [ inl shut ↦ inl (shut_is bytes 26 shut) | inr after ↦ inr after ] })
counting_inv bytes Second is =
    let inv = second_inv (is_open bytes 9) (is_open bytes 26) (number_at bytes 10) (number_at bytes 27) is in
    (opened_is bytes 26 inv.0, record { either = elim inv.1 [ inl shut ↦ inl (shut_is bytes 9 shut) | inr after ↦ inr after ] })

-- and only on a disk with cells
pub force_inv : (b : Bool) (force : Force) (cell : Cell) → cond b force NoCell ≡ Is cell → (b ≡ true) × (force ≡ Is cell)
force_inv true force cell is = (refl, is)
force_inv false force cell is = absurd (grind arith)
