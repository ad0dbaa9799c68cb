-- The lines of a text that was put together line by line.
use Rattle.std.proofs.Common.{◌≡◌, ℕ, ◌==◌, Bool, true, false, not, cond, List, [], ◌∷◌, ◌++◌, refl, ap, ◌∙◌, append_assoc}
use Rattle.std.specs.Cmp.{first_so, second_so}
use Rattle.std.specs.List.{list_all}
use Rattle.iot_lines.specs.Lines.{lines, onto_line}
use Rattle.iot_gen.specs.Generated.{text_of}

-- a byte inside a line
abbrev pub is_inside : ℕ → Bool
is_inside b = not (b == 10)

abbrev pub is_one_line : List ℕ → Bool
is_one_line text = list_all is_inside text

-- a text without a newline is the first line of what begins with it
first_line : (text rest : List ℕ) → is_one_line text ≡ true → lines (text ++ 10 ∷ rest) ≡ text ∷ lines rest
first_line [] rest inside = refl
first_line (b ∷ bs) rest inside = by_newline (b == 10) (first_so _ _ inside) (first_line bs rest (second_so _ _ inside))
  where
    by_newline : (newline : Bool) → not newline ≡ true → lines (bs ++ 10 ∷ rest) ≡ bs ∷ lines rest
        → cond newline ([] ∷ lines (bs ++ 10 ∷ rest)) (onto_line b (lines (bs ++ 10 ∷ rest))) ≡ (b ∷ bs) ∷ lines rest
    by_newline true other more = absurd cc
    by_newline false other more = ap (onto_line b) more

pub lines-text_of : (ls : List (List ℕ)) → list_all is_one_line ls ≡ true → lines (text_of ls) ≡ ls
lines-text_of [] each = refl
lines-text_of (l ∷ ls) each =
    ap lines (append_assoc l (10 ∷ []) (text_of ls))
    ∙ first_line l (text_of ls) (first_so _ _ each)
    ∙ ap (λ later. l ∷ later) (lines-text_of ls (second_so _ _ each))
