-- Bytes of which each is 0, or the one that a start writes there.
use Rattle.std.proofs.Common.{◌≡◌, ◌<◌, ℕ, ◌+◌, Bool, true, false, ◌==◌, ◌&&◌, ◌||◌, List, [], ◌∷◌, length, get_or, drop}
use Rattle.std.proofs.Common.{refl, sym, ◌∙◌, ap, arith}
use Rattle.std.proofs.lemmas.List.{drop_more}
use Rattle.iot_file.specs.Own.{is_part}

abbrev test : ℕ → ℕ → Bool
test byte x = byte == 0 || byte == x

and_false : (b : Bool) → false ≡ (b && false)
and_false true = refl
and_false false = refl

-- of a start that is shorter they are no part
pub too_long : (first bytes : List ℕ) → length first < length bytes → false ≡ is_part first bytes
too_long first [] longer = absurd (omega arith)
too_long [] (byte ∷ bytes) longer = refl
too_long (x ∷ first) (byte ∷ bytes) longer =
    and_false (test byte x) ∙ ap (λ (b : Bool). test byte x && b) (too_long first bytes (omega arith))

-- the first of those that are left decides, or the others do
module _ (first bytes : List ℕ) (k : ℕ) (in_first : k < length first) (in_bytes : k < length bytes) where
  abbrev rest : Bool
  rest = is_part (drop (k + 1) first) (drop (k + 1) bytes)

  part_from : is_part (drop k first) (drop k bytes) ≡ (test (get_or bytes k 0) (get_or first k 0) && rest)
  part_from =
      ap (λ (l : List ℕ). is_part l (drop k bytes)) (drop_more first k 0 in_first)
      ∙ ap (λ (l : List ℕ). is_part (get_or first k 0 ∷ drop (k + 1) first) l) (drop_more bytes k 0 in_bytes)

  pub compared : (fits : Bool) → fits ≡ test (get_or bytes k 0) (get_or first k 0) → is_part first bytes ≡ is_part (drop k first) (drop k bytes) →
      (b : Bool) → fits ≡ b → is_part first bytes ≡ (b && rest)
  compared fits is so_far b known = so_far ∙ part_from ∙ ap (λ (x : Bool). x && rest) (sym is ∙ known)
