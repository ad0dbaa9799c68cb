-- Where a spelling is in bytes.
use Rattle.std.specs.Prelude.{◌≡◌, ℕ, ◌+◌, ◌<◌, ◌≤◌, ◌^◌, List, ◌++◌, length, drop, get_or, Ok}
use Rattle.iot_views.specs.Decoders.{Decoder}

-- the text lies in the bytes from offset `at` on, and ends at offset `end`
pub record LiesAt (bytes : List ℕ) (at : ℕ) (text : List ℕ) (end : ℕ) : Type 0 where
  pub there : drop at bytes ≡ text ++ drop end bytes
  pub long : end ≡ at + length text
  pub within : end ≤ length bytes

-- a value that has a spelling, which lies from offset `at` on and ends at the offset beside the value
pub record IsSpelledAt {X : Type 0} (HasSpelling : X → Type 0) (spelling : X → List ℕ) (bytes : List ℕ) (at : ℕ) (read : X × ℕ) : Type
    0 where
  pub value : HasSpelling read.0
  pub place : LiesAt bytes at (spelling read.0) read.1

-- of all values at most one is spelled there, and its spelling ends at one place
abbrev pub IsAlone : {X : Type 0} → (X → Type 0) → (X → List ℕ) → List ℕ → ℕ → Type 0
IsAlone HasSpelling spelling bytes at =
    (one other : _) → IsSpelledAt HasSpelling spelling bytes at one → IsSpelledAt HasSpelling spelling bytes at other → one ≡ other

-- the elements of the list are bytes
abbrev pub AreBytes : List ℕ → Type 0
AreBytes bytes = (i : ℕ) → get_or bytes i 0 < 256

-- a decoder finds the values of a type that have a spelling by their spellings, and nothing else; no spelling is empty
pub record IsSpelling {X : Type 0} (HasSpelling : X → Type 0) (spelling : X → List ℕ) (decoding : Decoder X) : Type 0 where
  pub found : (bytes : List ℕ) (at : ℕ) (read : X × ℕ) → AreBytes bytes → decoding bytes at ≡ Ok read
      → IsSpelledAt HasSpelling spelling bytes at read
  pub only : (bytes : List ℕ) (at : ℕ) (read : X × ℕ) → length bytes < 2 ^ 64 → IsSpelledAt HasSpelling spelling bytes at read
      → decoding bytes at ≡ Ok read
  pub some : (x : X) → 0 < length (spelling x)
