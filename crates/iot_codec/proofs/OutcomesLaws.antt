-- What a call that reads answers, by the law of the type that it reads.
use Rattle.std.proofs.Common.{◌≡◌, ℕ, ◌<◌, ◌^◌, List, length, Result, Ok, Err, subst}
use Rattle.std.specs.Prelude.{IfOk}
use Rattle.iot_codec.specs.declared.faults.CodecFault.{CodecFault}
use Rattle.iot_codec.specs.Outcomes.{IsOutcome}
use Rattle.iot_codec.specs.Places.{IsSpelledAt, AreBytes, IsAlone, IsSpelling}
use Rattle.iot_views.specs.Decoders.{Decoder}

same_ok : {X : Type 0} (decoding : Result X ℕ) (one other : X) → decoding ≡ Ok one → decoding ≡ Ok other → one ≡ other
same_ok decoding one other p q = cc

module _ {X : Type 0} (HasSpelling : X → Type 0) (spelling : X → List ℕ) (decoding : Decoder X)
    (laws : IsSpelling HasSpelling spelling decoding) where
  pub call_found : (bytes : List ℕ) (at : ℕ) (answer : Result (X × ℕ) CodecFault) → AreBytes bytes → IsOutcome answer (decoding bytes at)
      → IfOk answer (IsSpelledAt HasSpelling spelling bytes at)
  call_found bytes at (Ok read) fit given = laws.found bytes at read fit given
  call_found bytes at (Err fault) fit given = tt

  pub call_only : (bytes : List ℕ) (at : ℕ) (answer : Result (X × ℕ) CodecFault) → length bytes < 2 ^ 64
      → IsOutcome answer (decoding bytes at) → (read : X × ℕ) → IsSpelledAt HasSpelling spelling bytes at read → IsOutcome answer (Ok read)
  call_only bytes at answer short given read stands = subst (λ r. IsOutcome answer r) (laws.only bytes at read short stands) given

  pub call_alone : (bytes : List ℕ) (at : ℕ) → length bytes < 2 ^ 64 → IsAlone HasSpelling spelling bytes at
  call_alone bytes at short one other first second =
      same_ok (decoding bytes at) one other (laws.only bytes at one short first) (laws.only bytes at other short second)

  pub call_has : (bytes : List ℕ) (at : ℕ) (answer : Result (X × ℕ) CodecFault) → AreBytes bytes → IsOutcome answer (decoding bytes at)
      → IfOk answer (λ read. HasSpelling read.0)
  call_has bytes at (Ok read) fit given = (laws.found bytes at read fit given).value
  call_has bytes at (Err fault) fit given = tt
