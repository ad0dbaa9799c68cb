-- The whole input as a message.
use Rattle.std.proofs.Common.{◌≡◌, ℕ, ◌<◌, ◌^◌, Bool, true, false, cond, eqb, List, ◌++◌, length, drop, Result, Ok, Err, refl, sym, ap}
use Rattle.std.proofs.Common.{◌∙◌, append-nil, subst, arith}
use Rattle.std.specs.Prelude.{IfOk}
use Rattle.std.proofs.lemmas.Bool.{eqb-true, eq-eqb}
use Rattle.std.proofs.lemmas.List.{drop_all}
use Rattle.iot_codec.specs.declared.faults.CodecFault.{CodecFault}
use Rattle.iot_codec.specs.Outcomes.{IsSeen, IsOutcome}
use Rattle.iot_codec.specs.Places.{LiesAt, AreBytes, IsSpelling}
use Rattle.iot_views.specs.Decoders.{Decoder}
use Rattle.iot_codec.specs.Laws.Steps.{read_ok}
use Rattle.iot_wire.specs.Messages.{IsMessage, ReadsMessage, LendsMessage, IsOneMessage, at_end, whole}

-- nothing comes after all bytes
nothing_left : (bytes text : List ℕ) → text ++ drop (length bytes) bytes ≡ text
nothing_left bytes text = ap (λ (rest : List ℕ). text ++ rest) (drop_all (length bytes) bytes (omega arith)) ∙ append-nil text

lies_whole : (bytes text : List ℕ) → text ≡ bytes → LiesAt bytes 0 text (length bytes)
lies_whole bytes text is = record {
  there = sym is ∙ sym (nothing_left bytes text);
  long = omega (arith, ap length is);
  within = omega arith;
}

ended_by : {X : Type 0} (here : Bool) (bytes : List ℕ) (x y : X) (end : ℕ) → eqb end (length bytes) ≡ here
    → cond here (read_ok x) (Err end) ≡ Ok y → (x ≡ y) × (end ≡ length bytes)
ended_by true bytes x y end is e = (cc, eqb-true end (length bytes) is)
ended_by false bytes x y end is e = absurd cc

-- what was decoded ends at the end of the bytes
ended : {X : Type 0} (bytes : List ℕ) (decoded : Result (X × ℕ) ℕ) (y : X) → at_end bytes decoded ≡ Ok y → decoded ≡ Ok (y, length bytes)
ended bytes (Ok read) y e =
    let both = ended_by (eqb read.1 (length bytes)) bytes read.0 y read.1 refl e in
    λ i. Ok (both.0 i, both.1 i)
ended bytes (Err at) y e = absurd cc

same_ok : {X : Type 0} (decoded : Result X ℕ) (one other : X) → decoded ≡ Ok one → decoded ≡ Ok other → one ≡ other
same_ok decoded one other p q = cc

module _ {X : Type 0} (HasSpelling : X → Type 0) (spelling : X → List ℕ) (decoding : Decoder X)
    (laws : IsSpelling HasSpelling spelling decoding) where
  -- the bytes of a value are decoded as that value
  pub whole_again : (bytes : List ℕ) (x : X) → length bytes < 2 ^ 64 → IsMessage HasSpelling spelling bytes x
      → whole decoding bytes ≡ Ok x
  whole_again bytes x short m =
      let place = lies_whole bytes (spelling x) m.spelled in
      rw (
        laws.only bytes 0 (x, length bytes) short (record { value = m.value; place = place }),
        eq-eqb (length bytes) (length bytes) refl,
      )
      refl

  -- and only they are
  whole_found : (bytes : List ℕ) (x : X) → AreBytes bytes → whole decoding bytes ≡ Ok x → IsMessage HasSpelling spelling bytes x
  whole_found bytes x fit e =
      let p = laws.found bytes 0 (x, length bytes) fit (ended bytes (decoding bytes 0) x e) in
      record { value = p.value; spelled = sym (nothing_left bytes (spelling x)) ∙ sym p.place.there }

  pub call_found : (bytes : List ℕ) (answer : Result X CodecFault) → AreBytes bytes → IsOutcome answer (whole decoding bytes)
      → IfOk answer (IsMessage HasSpelling spelling bytes)
  call_found bytes (Ok x) fit given = whole_found bytes x fit given
  call_found bytes (Err fault) fit given = tt

  pub call_only : (bytes : List ℕ) (answer : Result X CodecFault) → length bytes < 2 ^ 64 → IsOutcome answer (whole decoding bytes)
      → ReadsMessage HasSpelling spelling bytes answer
  call_only bytes answer short given x m = subst (λ r. IsOutcome answer r) (whole_again bytes x short m) given

  pub call_one : (bytes : List ℕ) → length bytes < 2 ^ 64 → IsOneMessage HasSpelling spelling bytes
  call_one bytes short one other m n =
      same_ok (whole decoding bytes) one other (whole_again bytes one short m) (whole_again bytes other short n)

  pub view_found : {V : Type 0} (seen : V → X) (bytes : List ℕ) (answer : Result V CodecFault) → AreBytes bytes
      → IsSeen seen answer (whole decoding bytes) → IfOk answer (λ view. IsMessage HasSpelling spelling bytes (seen view))
  view_found seen bytes (Ok view) fit given = whole_found bytes (seen view) fit given
  view_found seen bytes (Err fault) fit given = tt

  pub view_only : {V : Type 0} (seen : V → X) (bytes : List ℕ) (answer : Result V CodecFault) → length bytes < 2 ^ 64
      → IsSeen seen answer (whole decoding bytes) → LendsMessage seen HasSpelling spelling bytes answer
  view_only seen bytes answer short given x m = subst (λ r. IsSeen seen answer r) (whole_again bytes x short m) given
