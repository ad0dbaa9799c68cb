-- How a name lies in an array.
use Rattle.std.specs.Prelude.{ℕ, ◌≡◌, ◌-◌, List, ◌++◌, length, take, replicate}
use Rattle.std.proofs.Common.{sym}
use Rattle.iot_text.specs.Names.{IsName}
use Rattle.iot_text.specs.declared.names.TheConstants.{NAME_LIMIT}

-- a name of `len` bytes at the front of an array, and zeros after it
pub record IsStored (len : ℕ) (bytes : List ℕ) : Type 0 where
  pub name : IsName (take len bytes)
  pub padded : bytes ≡ take len bytes ++ replicate (NAME_LIMIT - len) 0
  pub len_is : length (take len bytes) ≡ len

-- such an array is its name, and zeros up to its end
pub unpadded : (len : ℕ) (bytes : List ℕ) → IsStored len bytes
    → take len bytes ++ replicate (NAME_LIMIT - length (take len bytes)) 0 ≡ bytes
unpadded len bytes stored = rw (stored.len_is) (sym stored.padded)
