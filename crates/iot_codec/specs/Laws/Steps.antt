-- The steps of a decoder that met no fault.
use Rattle.std.proofs.Common.{◌≡◌, ℕ, ◌+◌, ◌≤◌, Bool, true, false, cond, ltb, List, ◌++◌, length, take, drop, Result, Ok, Err, refl, sym}
use Rattle.std.proofs.Common.{ap, ◌∙◌, arith, subst}
use Rattle.std.proofs.lemmas.Bool.{ltb-false, le-ltb}
use Rattle.std.proofs.lemmas.List.{take-append-drop, drop-drop, length-take, length-drop, take_at}
use Rattle.iot_codec.specs.Places.{LiesAt}
use Rattle.iot_views.specs.Decoders.{Decoder, go_on, tested, bytes_at}

abbrev pub read_ok : {X : Type 0} → X → Result X ℕ
read_ok x = Ok x

-- two values that were read are one
pub same_read : {X : Type 0} (one other : X) → read_ok one ≡ read_ok other → one ≡ other
same_read one other e = cc

-- so what holds of the one holds of the other
pub carried : {X : Type 0} (P : X → Type 0) (one other : X) → read_ok one ≡ read_ok other → P one → P other
carried P one other e p = subst P (same_read one other e) p

-- a step that met no fault, and the step after it
pub step : {X Y : Type 0} (decoding : Result (X × ℕ) ℕ) (next : X → ℕ → Result (Y × ℕ) ℕ) (y : Y × ℕ) → go_on decoding next ≡ Ok y
    → (x : X × ℕ) × (decoding ≡ Ok x) × (next x.0 x.1 ≡ Ok y)
step (Ok x) next y e = (x, refl, e)
step (Err at) next y e = absurd cc

-- a test that was passed
passed : {X : Type 0} (b : Bool) (at : ℕ) (x y : X) → cond b (read_ok x) (Err at) ≡ Ok y → (b ≡ true) × (x ≡ y)
passed true at x y e = (refl, cc)
passed false at x y e = absurd cc

pub step_tested : {X : Type 0} (test : X → Bool) (decoder : Decoder X) (bytes : List ℕ) (at : ℕ) (y : X × ℕ)
    → tested test decoder bytes at ≡ Ok y → (decoder bytes at ≡ Ok y) × (test y.0 ≡ true)
step_tested test decoder bytes at y e =
    let s = step (decoder bytes at) (λ x after. cond (test x) (Ok (x, after)) (Err at)) y e in
    let p = passed (test s.0.0) at s.0 y s.2 in
    (s.1 ∙ ap read_ok p.1, ap (λ (z : _ × ℕ). test z.0) (sym p.1) ∙ p.0)

-- a test that is passed
pub tested_again : {X : Type 0} (test : X → Bool) (decoder : Decoder X) (bytes : List ℕ) (at : ℕ) (y : X × ℕ) → decoder bytes at ≡ Ok y
    → test y.0 ≡ true → tested test decoder bytes at ≡ Ok y
tested_again test decoder bytes at y e passes = rw (e, passes) refl

enough : {X : Type 0} (b : Bool) (at : ℕ) (x y : X) → cond b (Err at) (read_ok x) ≡ Ok y → (b ≡ false) × (x ≡ y)
enough true at x y e = absurd cc
enough false at x y e = (refl, cc)

-- bytes that were taken lie there
pub record IsPart (n : ℕ) (bytes : List ℕ) (at : ℕ) (read : List ℕ × ℕ) : Type 0 where
  pub len : length read.0 ≡ n
  pub part : read.0 ≡ take n (drop at bytes)
  pub place : LiesAt bytes at read.0 read.1

pub part_found : (n : ℕ) (bytes : List ℕ) (at : ℕ) (read : List ℕ × ℕ) → bytes_at n bytes at ≡ Ok read → IsPart n bytes at read
part_found n bytes at read e =
    let p = enough (ltb (length bytes) (at + n)) at (take n (drop at bytes), at + n) read e in
    let long : at + n ≤ length bytes = ltb-false _ _ p.0 in
    let len : length (take n (drop at bytes)) ≡ n = omega (arith, length-take n (drop at bytes), length-drop at bytes) in
    let made : IsPart n bytes at (take n (drop at bytes), at + n) = record {
      len = len;
      part = refl;
      place = record {
        there = sym (take-append-drop n (drop at bytes)) ∙ ap (λ (t : List ℕ). take n (drop at bytes) ++ t) (drop-drop n at bytes);
        long = ap (λ (k : ℕ). at + k) (sym len);
        within = long;
      };
    } in
    subst (λ (r : List ℕ × ℕ). IsPart n bytes at r) p.1 made

-- bytes that lie there are taken
pub part_again : (bytes : List ℕ) (at end : ℕ) (part : List ℕ) → LiesAt bytes at part end → bytes_at (length part) bytes at ≡ Ok (part, end)
part_again bytes at end part p =
    let long : ltb (length bytes) (at + length part) ≡ false = le-ltb _ _ (omega (arith, p.long, p.within)) in
    rw (long, p.there, take_at part (drop end bytes) (length part) refl, ← p.long) refl
