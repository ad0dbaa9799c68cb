-- What a disk encodes, whichever image a crash leaves.
use Rattle.std.specs.Prelude.{◌≡◌, ◌≢◌, ◌⊎◌, ℕ, ◌+◌, List, ◌∷◌, ◌++◌, length}
use Rattle.iot_records.specs.Images.{Each}
use Rattle.iot_journal.specs.Decoding.{Decoded, decoded, started, records}

-- each image decodes so
abbrev pub EachDecodes : (images : List ℕ → Type 0) → Decoded → Type 0
EachDecodes images as_this = Each (λ image. decoded image ≡ as_this) images

-- each image decodes in one of two ways
abbrev pub EachDecodesEither : (images : List ℕ → Type 0) → (before after : Decoded) → Type 0
EachDecodesEither images before after = Each (λ image. (decoded image ≡ before) ⊎ (decoded image ≡ after)) images

-- The bytes are those of a started journal with these bodies, and a closed gate at this place after them. What follows the
-- gate is no matter.
pub record IsLaidOut (bytes : List ℕ) (bodies : List (List ℕ)) (gate : ℕ) : Type 0 where
  pub byte : ℕ
  pub rest : List ℕ
  pub is : bytes ≡ started (records bodies ++ byte ∷ rest)
  pub shut : byte ≢ 165
  pub place : gate ≡ 9 + length (records bodies)
