-- A record that the second disk lacks.
use Rattle.std.proofs.Common.{◌≡◌, ◌≢◌, ◌⊎◌, inl, inr, ℕ, Bool, false, cond, List, Result, Ok, Err, ap, arith, OnOk}
use Rattle.std.specs.Prelude.{◌==◌}
use Rattle.std.proofs.lemmas.Bool.Decides.{nat_tests}
use Rattle.iot_records.specs.Images.{Each}
use Rattle.iot_slots.specs.Decoding.{State, Encodes, decoded}
use Rattle.iot_slots.specs.Slots.{appended, EachEncodesEither}
use Rattle.iot_backup.specs.Start.{with_last}

pub with_more : (count own : ℕ) (body : List ℕ) (state : State) → count ≢ own → with_last count own body state ≡ appended state body
with_more count own body state differ =
    let not : (count == own) ≡ false = grind (arith, nat_tests) in
    ap (λ (b : Bool). cond b state (appended state body)) not

pub each_brought : (header : List ℕ) (images : List ℕ → Type 0) (state : State) (body : List ℕ) (count own : ℕ) → count ≢ own →
    EachEncodesEither header images state (appended state body) →
    Each (λ image. (decoded header image ≡ Encodes state) ⊎ ((count ≢ own) × (decoded header image ≡ Encodes (appended state body)))) images
each_brought header images state body count own differ either = record {
  each = λ image left. elim (either.each image left) [ inl before ↦ inl before | inr after ↦ inr (differ, after) ];
}

pub on_ok : {T E : Type 0} {A B : Type 0} (result : Result T E) → (A → B) → OnOk result A → OnOk result B
on_ok (Ok t) f it = f it
on_ok (Err e) f it = tt
