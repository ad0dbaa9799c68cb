-- Laws of texts that are put together line by line.
use Rattle.std.proofs.Common.{◌≡◌, ℕ, suc, ◌+◌, ◌<◌, List, [], ◌∷◌, ◌++◌, length, get_or, drop, map, refl, sym, ap, ◌∙◌, append_assoc}
use Rattle.std.proofs.Common.{arith, add-one, drop-cons, append-nil, ◌-◌, ◌≤◌}
use Rattle.std.specs.List.{flat_map}
use Rattle.std.proofs.lemmas.Grind.{flat_map-append}
use Rattle.iot_gen.specs.declared.turns.Turn.{Turn}
use Rattle.iot_gen.specs.Turns.{turns, turn_from, after_turn, turn_line}
use Rattle.iot_gen.specs.Generated.{line, text_of, turn_lines}

-- the texts of lines, one after the other
pub text_of-append : (some more : List (List ℕ)) → text_of (some ++ more) ≡ text_of some ++ text_of more
text_of-append some more = flat_map-append line some more

next_left : (xs : List ℕ) (i : ℕ) → i < length xs → drop i xs ≡ get_or xs i 0 ∷ drop (i + 1) xs
next_left xs i within = rw (add-one, drop-cons xs i 0) refl

-- after the line of one number more
pub one_more : (f : ℕ → List ℕ) (xs : List ℕ) (i : ℕ) (old new whole : List ℕ) → i < length xs → new ≡ old ++ line (f (get_or xs i 0))
    → old ++ text_of (map f (drop i xs)) ≡ whole → new ++ text_of (map f (drop (i + 1) xs)) ≡ whole
one_more f xs i old new whole within added all =
    ap (λ text. text ++ text_of (map f (drop (i + 1) xs))) added
    ∙ append_assoc old (line (f (get_or xs i 0))) (text_of (map f (drop (i + 1) xs)))
    ∙ ap (λ rest. old ++ text_of (map f rest)) (sym (next_left xs i within))
    ∙ all

-- after the lines of one number more
pub some_more : (f : ℕ → List (List ℕ)) (xs : List ℕ) (i : ℕ) (old new whole : List ℕ) → i < length xs
    → new ≡ old ++ text_of (f (get_or xs i 0))
    → old ++ text_of (flat_map f (drop i xs)) ≡ whole → new ++ text_of (flat_map f (drop (i + 1) xs)) ≡ whole
some_more f xs i old new whole within added all =
    ap (λ text. text ++ text_of (flat_map f (drop (i + 1) xs))) added
    ∙ append_assoc old (text_of (f (get_or xs i 0))) (text_of (flat_map f (drop (i + 1) xs)))
    ∙ ap (λ text. old ++ text) (sym (text_of-append (f (get_or xs i 0)) (flat_map f (drop (i + 1) xs))))
    ∙ ap (λ rest. old ++ text_of (flat_map f rest)) (sym (next_left xs i within))
    ∙ all

-- ---- texts one after the other

pub two_parts : (old middle new : List ℕ) (a b : List (List ℕ)) → middle ≡ old ++ text_of a → new ≡ middle ++ text_of b
    → new ≡ old ++ text_of (a ++ b)
two_parts old middle new a b first second =
    second
    ∙ ap (λ text. text ++ text_of b) first
    ∙ append_assoc old (text_of a) (text_of b)
    ∙ ap (λ text. old ++ text) (sym (text_of-append a b))

pub four_parts : (old one two three new : List ℕ) (a b c d : List (List ℕ)) → one ≡ old ++ text_of a → two ≡ one ++ text_of b
    → three ≡ two ++ text_of c → new ≡ three ++ text_of d → new ≡ old ++ text_of (((a ++ b) ++ c) ++ d)
four_parts old one two three new a b c d first second third fourth =
    two_parts old three new ((a ++ b) ++ c) d
    (two_parts old two three (a ++ b) c (two_parts old one two a b first second) third) fourth

pub as_part : (old new text : List ℕ) → new ≡ old ++ line text → new ≡ old ++ text_of (text ∷ [])
as_part old new text is = is ∙ ap (λ more. old ++ more) (sym (append-nil (line text)))

-- a line that ends with its number
pub ends_with_number : (old new before digits : List ℕ) → new ≡ old ++ line (before ++ digits ++ []) → new ≡ old ++ line (before ++ digits)
ends_with_number old new before digits is = is ∙ ap (λ text. old ++ line text) (simp (append_assoc, append-nil))

-- ---- turns

turns_left : (count i x : ℕ) → i < count → turn_lines (count - i) x ≡ turn_line (turn_from x) ∷ turn_lines (count - (i + 1)) (after_turn x)
unfolding turns
turns_left count i x more = let next : count - i ≡ suc (count - (i + 1)) = omega arith in rw next refl

-- after the line of one turn more
pub one_turn : (count i x y : ℕ) (turn : Turn) (old new whole : List ℕ) → i < count → turn ≡ turn_from x → y ≡ after_turn x
    → new ≡ old ++ line (turn_line turn) → old ++ text_of (turn_lines (count - i) x) ≡ whole
    → new ++ text_of (turn_lines (count - (i + 1)) y) ≡ whole
one_turn count i x y turn old new whole more is after added all =
    let rest : List (List ℕ) = turn_lines (count - (i + 1)) y in
    ap (λ text. text ++ text_of rest) added
    ∙ append_assoc old (line (turn_line turn)) (text_of rest)
    ∙ ap (λ (t : Turn). old ++ (line (turn_line t) ++ text_of rest)) is
    ∙ ap (λ (z : ℕ). old ++ (line (turn_line (turn_from x)) ++ text_of (turn_lines (count - (i + 1)) z))) after
    ∙ ap (λ (ls : List (List ℕ)). old ++ text_of ls) (sym (turns_left count i x more))
    ∙ all

pub no_turn : (count i x : ℕ) (text whole : List ℕ) → count ≤ i → text ++ text_of (turn_lines (count - i) x) ≡ whole → text ≡ whole
unfolding turns
no_turn count i x text whole none all =
    let zero_left : count - i ≡ 0 = omega arith in
    sym (append-nil text) ∙ ap (λ (n : ℕ). text ++ text_of (turn_lines n x)) (sym zero_left) ∙ all
