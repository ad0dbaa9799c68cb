-- What a call that reads answers.
use Rattle.std.specs.Prelude.{◌≡◌, ℕ, ⊤, List, Result, Ok, Err}
use Rattle.iot_codec.specs.Places.{IsSpelledAt}
use Rattle.iot_codec.specs.declared.faults.CodecFault.{CodecFault}
use Rattle.iot_codec.specs.declared.faults.CodecFault.TheVariants.{NoMemory, Malformed}

-- what a call answers, seen by view, is what was decoded, unless memory ran out
abbrev pub IsSeen : {X Y : Type 0} → (X → Y) → Result X CodecFault → Result Y ℕ → Type 0
IsSeen view (Ok read) decoded = decoded ≡ Ok (view read)
IsSeen view (Err NoMemory) decoded = ⊤
IsSeen view (Err (Malformed at)) decoded = decoded ≡ Err at

-- a call answers what was decoded, unless memory ran out
abbrev pub IsOutcome : {X : Type 0} → Result X CodecFault → Result X ℕ → Type 0
IsOutcome result decoded = IsSeen (λ read. read) result decoded

-- whatever value is spelled there is what a call answers, unless memory ran out
abbrev pub DecodesWhatIsSpelled : {X : Type 0} → (X → Type 0) → (X → List ℕ) → List ℕ → ℕ → Result (X × ℕ) CodecFault → Type 0
DecodesWhatIsSpelled HasSpelling spelling bytes at result =
    (read : _) → IsSpelledAt HasSpelling spelling bytes at read → IsOutcome result (Ok read)
