-- Messages: values whose spelling is the whole input.
use Rattle.std.specs.Prelude.{◌≡◌, ℕ, ◌==◌, if◌then◌else◌, List, length, Result, Ok, Err}
use Rattle.iot_views.specs.Decoders.{Decoder}
use Rattle.iot_codec.specs.Outcomes.{IsSeen, IsOutcome}
use Rattle.iot_codec.specs.declared.faults.CodecFault.{CodecFault}

-- the bytes are the spelling of the value
pub record IsMessage {X : Type 0} (HasSpelling : X → Type 0) (spelling : X → List ℕ) (bytes : List ℕ) (x : X) : Type 0 where
  pub value : HasSpelling x
  pub spelled : spelling x ≡ bytes

-- whatever value the bytes are the spelling of, is what a call answers, unless memory ran out
abbrev pub ReadsMessage : {X : Type 0} → (X → Type 0) → (X → List ℕ) → List ℕ → Result X CodecFault → Type 0
ReadsMessage HasSpelling spelling bytes result = (x : _) → IsMessage HasSpelling spelling bytes x → IsOutcome result (Ok x)

-- the same of a call that lends the value
abbrev pub LendsMessage : {V X : Type 0} → (V → X) → (X → Type 0) → (X → List ℕ) → List ℕ → Result V CodecFault → Type 0
LendsMessage seen HasSpelling spelling bytes result = (x : _) → IsMessage HasSpelling spelling bytes x → IsSeen seen result (Ok x)

-- the bytes are the spelling of one value at most
abbrev pub IsOneMessage : {X : Type 0} → (X → Type 0) → (X → List ℕ) → List ℕ → Type 0
IsOneMessage HasSpelling spelling bytes =
    (one other : _) → IsMessage HasSpelling spelling bytes one → IsMessage HasSpelling spelling bytes other → one ≡ other

-- what was decoded, if it ends at the end of the bytes; bytes that are left are a fault at the first of them
abbrev pub at_end : {X : Type 0} → List ℕ → Result (X × ℕ) ℕ → Result X ℕ
at_end bytes (Ok read) = if read.1 == length bytes then Ok read.0 else Err read.1
at_end bytes (Err at) = Err at

-- the value whose spelling is the whole input, or the offset of the first fault
abbrev pub whole : {X : Type 0} → Decoder X → List ℕ → Result X ℕ
whole decoder bytes = at_end bytes (decoder bytes 0)
