-- A pass over a list: what is out, and then what the rest of the list gives, is what the list gives.
use Rattle.std.proofs.Common.{◌≡◌, ℕ, ◌+◌, ◌<◌, ◌≤◌, List, [], ◌∷◌, ◌++◌, length, drop, get_or}
use Rattle.std.proofs.Common.{append_assoc, sym, ap, ◌∙◌}
use Rattle.std.proofs.lemmas.List.{append-nil, at_drop_more, at_drop_all}

module _ {X Y : Type 0} (f : List X → List Y) (whole : List Y) (xs : List X) (i : ℕ) (out : List Y) where
  -- a step that puts nothing out
  pub passed_over : (x : X) → i < length xs → x ≡ get_or xs i x → f (x ∷ drop (i + 1) xs) ≡ f (drop (i + 1) xs)
      → out ++ f (drop i xs) ≡ whole → out ++ f (drop (i + 1) xs) ≡ whole
  passed_over x lt is gives so_far =
      ap (λ (rest : List Y). out ++ rest) (sym gives ∙ ap (λ (e : X). f (e ∷ drop (i + 1) xs)) is ∙ sym (at_drop_more f xs i x lt)) ∙ so_far

  -- a step that puts one value out
  pub put_out : (x : X) (y : Y) (rest : List Y) → i < length xs → x ≡ get_or xs i x → f (x ∷ drop (i + 1) xs) ≡ y ∷ rest
      → out ++ f (drop i xs) ≡ whole → (out ++ y ∷ []) ++ rest ≡ whole
  put_out x y rest lt is gives so_far =
      append_assoc out (y ∷ []) rest
      ∙ ap (λ (more : List Y). out ++ more) (sym gives ∙ ap (λ (e : X). f (e ∷ drop (i + 1) xs)) is ∙ sym (at_drop_more f xs i x lt))
      ∙ so_far

  -- the end
  pub all_out : length xs ≤ i → f [] ≡ [] → out ++ f (drop i xs) ≡ whole → out ≡ whole
  all_out end gives so_far = sym (append-nil out) ∙ ap (λ (rest : List Y). out ++ rest) (sym gives ∙ sym (at_drop_all f xs i end)) ∙ so_far
