-- The elements of a list, read again from bytes that were decoded before.
use Rattle.std.specs.Prelude.{◌≡◌, ℕ, zero, suc, List, [], ◌∷◌, Option, Result, Ok, Err}
use Rattle.iot_views.specs.Decoders.{Decoder, ◌>>=◌, done, bytes_at, number_at}

-- the first element, and those after it
abbrev pub first_of : {X : Type 0} → Result (X × ℕ) ℕ → (ℕ → List X) → List X
first_of (Ok read) others = read.0 ∷ others read.1
first_of (Err at) others = []

-- the next n elements, or those before the first fault
abbrev pub listed : {X : Type 0} → Decoder X → ℕ → List ℕ → ℕ → List X
listed item zero bytes at = []
listed item (suc n) bytes at = first_of (item bytes at) (λ after. listed item n bytes after)

-- a pair, read again: the key, and then the value
abbrev pub loose_pair_at : {K V : Type 0} → Decoder K → Decoder V → Decoder (K × V)
loose_pair_at key value = do
  k ← key
  v ← value
  done (k, v)

-- bytes, read again: their number, and then the bytes
abbrev pub counted_at : Decoder (List ℕ)
counted_at = do
  len ← number_at
  bytes_at len

-- each of one decoder's values is another's too, wherever it is
abbrev pub IsLooser : {X : Type 0} → Decoder X → Decoder X → Type 0
IsLooser {X} strict loose = (bytes : List ℕ) (at : ℕ) (read : X × ℕ) → strict bytes at ≡ Ok read → loose bytes at ≡ Ok read

-- the same of a decoder that looks at the element before, whichever that is
abbrev pub AreLooser : {X : Type 0} → (Option X → Decoder X) → Decoder X → Type 0
AreLooser {X} item loose = (previous : Option X) → IsLooser (item previous) loose
