-- Decoding elements one after the other, as a loop does.
use Rattle.std.proofs.Common.{◌≡◌, ℕ, suc, ◌+◌, ◌-◌, ◌<◌, ◌≤◌, List, [], ◌∷◌, ◌++◌, length, Option, Some, None, Result, Ok, Err, refl, sym}
use Rattle.std.proofs.Common.{ap, ◌∙◌, append_assoc, append-nil, arith}
use Rattle.std.specs.Prelude.{slice_get}
use Rattle.iot_views.specs.Decoders.{Decoder, go_on, items_at}

-- the last element of a list, or else what was before it
abbrev pub last_of : {X : Type 0} → Option X → List X → Option X
last_of previous [] = previous
last_of previous (x ∷ xs) = last_of (Some x) xs

pub last_of-append : {X : Type 0} (front : List X) (previous : Option X) (x : X) → last_of previous (front ++ x ∷ []) ≡ Some x
last_of-append [] previous x = refl
last_of-append (y ∷ front) previous x = last_of-append front (Some y) x

-- by its place
last_at : {X : Type 0} (x : X) (xs : List X) → last_of (Some x) xs ≡ slice_get (x ∷ xs) (length xs)
last_at x [] = refl
last_at x (y ∷ ys) = last_at y ys

pub last_of-get : {X : Type 0} (xs : List X) → last_of None xs ≡ slice_get xs (length xs - 1)
last_of-get [] = refl
last_of-get (x ∷ xs) = last_at x xs ∙ ap (slice_get (x ∷ xs)) (omega arith)

-- what was decoded before, and what is still decoded
abbrev pub with_front : {X : Type 0} → List X → Result (List X × ℕ) ℕ → Result (List X × ℕ) ℕ
with_front front read = go_on read (λ xs end. Ok (front ++ xs, end))

regroup : {X : Type 0} (front : List X) (x : X) (read : Result (List X × ℕ) ℕ)
    → with_front front (go_on read (λ xs end. Ok (x ∷ xs, end))) ≡ with_front (front ++ x ∷ []) read
regroup front x (Ok read) = ap (λ (xs : List _). Ok (xs, read.1)) (sym (append_assoc front (x ∷ []) read.0))
regroup front x (Err at) = refl

module _ {X : Type 0} (item : Option X → Decoder X) (bytes : List ℕ) (count : ℕ) (total : Result (List X × ℕ) ℕ) where
  -- the elements so far, before those that are still decoded, are all elements
  abbrev pub IsOnWay : List X → ℕ → ℕ → Type 0
  IsOnWay front i at = with_front front (items_at item (count - i) (last_of None front) bytes at) ≡ total

  pub goes_on : (front : List X) (i at : ℕ) (x : X) (after : ℕ) → i < count → item (last_of None front) bytes at ≡ Ok (x, after)
      → IsOnWay front i at → IsOnWay (front ++ x ∷ []) (i + 1) after
  goes_on front i at x after lt h so_far =
      let k : count - i ≡ suc (count - (i + 1)) = omega arith in
      let one : with_front front (items_at item (count - i) (last_of None front) bytes at)
      ≡ with_front (front ++ x ∷ []) (items_at item (count - (i + 1)) (last_of None (front ++ x ∷ [])) bytes after) =
      rw (last_of-append front None x, k, h) (regroup front x (items_at item (count - (i + 1)) (Some x) bytes after)) in
      sym one ∙ so_far

  pub ends_at : (fault : ℕ) (front : List X) (i at : ℕ) → i < count → item (last_of None front) bytes at ≡ Err fault
      → IsOnWay front i at → total ≡ Err fault
  ends_at fault front i at lt h so_far =
      let k : count - i ≡ suc (count - (i + 1)) = omega arith in
      let one : with_front front (items_at item (count - i) (last_of None front) bytes at) ≡ Err fault = rw (k, h) refl in
      sym so_far ∙ one

  pub is_done : (front : List X) (i at : ℕ) → count ≤ i → IsOnWay front i at → total ≡ Ok (front, at)
  is_done front i at le so_far =
      let k : count - i ≡ 0 = omega arith in
      let one : with_front front (items_at item (count - i) (last_of None front) bytes at)
      ≡ Ok (front, at) = rw k (ap (λ (xs : List X). Ok (xs, at)) (append-nil front)) in
      sym so_far ∙ one
