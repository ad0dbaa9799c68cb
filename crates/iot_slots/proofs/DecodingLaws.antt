-- What bytes are decoded as, by the tests on them.
use Rattle.std.proofs.Common.{◌≡◌, ◌≢◌, ◌<◌, ℕ, Bool, true, false, cond, List, length, get_or, ◌∙◌, ap, arith}
use Rattle.std.proofs.lemmas.Bool.Decides.{nat_tests}
use Rattle.iot_slots.specs.Cells.{counting, in_force, has_cells}
use Rattle.iot_slots.specs.Decoding.{NotStarted, Foreign, decoded, decoded_by, is_foreign}
use Rattle.iot_slots.specs.declared.cell.Force.{Force}
use Rattle.iot_slots.specs.declared.cell.Force.TheVariants.{NoCell}

pub decoded_foreign : (header bytes : List ℕ) → is_foreign header bytes ≡ true → decoded header bytes ≡ Foreign
unfolding decoded
decoded_foreign header bytes is = ap (λ (b : Bool). cond b Foreign (decoded_by (in_force bytes) bytes)) is

pub decoded_force : (header bytes : List ℕ) (force : Force) → is_foreign header bytes ≡ false → in_force bytes ≡ force →
    decoded header bytes ≡ decoded_by force bytes
unfolding decoded
decoded_force header bytes force native is =
    ap (λ (b : Bool). cond b Foreign (decoded_by (in_force bytes) bytes)) native ∙ ap (λ (f : Force). decoded_by f bytes) is

-- a closed first gate, or too few bytes: nothing was started there
pub shut_first : (header bytes : List ℕ) → get_or bytes 0 0 ≢ 165 → decoded header bytes ≡ NotStarted
shut_first header bytes shut =
    let native : is_foreign header bytes ≡ false = grind (arith, nat_tests) in
    let none : has_cells bytes ≡ false = grind (arith, nat_tests) in
    decoded_force header bytes NoCell native (ap (λ (b : Bool). cond b (counting bytes) NoCell) none)

pub short_first : (header bytes : List ℕ) → length bytes < 9 → decoded header bytes ≡ NotStarted
short_first header bytes short =
    let native : is_foreign header bytes ≡ false = grind (arith, nat_tests) in
    let none : has_cells bytes ≡ false = grind (arith, nat_tests) in
    decoded_force header bytes NoCell native (ap (λ (b : Bool). cond b (counting bytes) NoCell) none)
