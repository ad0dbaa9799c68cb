-- Laws of what is appended to a text, in part or whole, and of the digits of a number.
use Rattle.std.specs.List.{flat_map}
use Rattle.std.proofs.lemmas.Grind.{flat_map-append}
use Rattle.std.proofs.lemmas.List.{drop_more}
use Rattle.std.proofs.lemmas.List.Concat.{flat_map-cons}
use Rattle.std.proofs.Common.{length, take, drop, take-append-drop, ◌+◌, ◌≡◌, List, []}
use Rattle.std.proofs.Common.{◌++◌, ℕ, sym, ◌∙◌, ap, append_assoc, append-nil, refl}
use Rattle.std.proofs.Common.{Result, Ok, Err, ◌<◌, ◌^◌, get_or, ◌∷◌, arith, zero, suc}
use Rattle.std.specs.Prelude.{OnOk, OnErr, decimal}
use Rattle.iot_text.specs.Texts.{Extends, AppendsPart, IsDecimal}
use Rattle.std.proofs.lemmas.Fmt.{decimal_is_IsNumeral, first_decimal, decimal_digit}

-- whatever the answer is
pub on_err : {T E : Type 0} {P : Type 0} (r : Result T E) → P → OnErr r P
on_err (Ok x) p = tt
on_err (Err e) p = p

-- what holds after an error makes something else hold
pub on_err_then : {T E : Type 0} {P Q : Type 0} (r : Result T E) → OnErr r P → (P → Q) → OnErr r Q
on_err_then (Ok x) p q = tt
on_err_then (Err e) p q = q p

-- nothing of it was appended
pub no_part : (old new added : List ℕ) → new ≡ old → AppendsPart old new added
no_part old new added same = record { part = []; rest = added; appended = same ∙ sym (append-nil old); beginning = refl }

-- the first piece was appended, and a part of the second
pub part_after : (old mid new first second rest added : List ℕ) → mid ≡ old ++ first → AppendsPart mid new second
    → first ++ (second ++ rest) ≡ added → AppendsPart old new added
part_after old mid new first second rest added e p whole = record {
  part = first ++ p.part;
  rest = p.rest ++ rest;
  appended = p.appended ∙ ap (λ t. t ++ p.part) e ∙ append_assoc old first p.part;
  beginning = append_assoc first p.part (p.rest ++ rest)
      ∙ ap (λ t. first ++ t) (sym (append_assoc p.part p.rest rest) ∙ ap (λ t. t ++ rest) p.beginning)
      ∙ whole;
}

-- the spellings before an element, its own, and those after it
pub spelled_around : {X : Type 0} (spelling : X → List ℕ) (xs : List X) (i : ℕ) (x : X) → i < length xs → x ≡ get_or xs i x
    → flat_map spelling (take i xs) ++ (spelling x ++ flat_map spelling (drop (i + 1) xs)) ≡ flat_map spelling xs
spelled_around spelling xs i x within is =
    let rest : drop i xs ≡ x ∷ drop (i + 1) xs = drop_more xs i x within ∙ ap (λ y. y ∷ drop (i + 1) xs) (sym is) in
    ap (λ t. flat_map spelling (take i xs) ++ t) (sym (flat_map-cons spelling x (drop (i + 1) xs)) ∙ ap (flat_map spelling) (sym rest))
    ∙ sym (flat_map-append spelling (take i xs) (drop i xs))
    ∙ ap (flat_map spelling) (take-append-drop i xs)

-- the elements before one were appended to a text, and a part of that one
pub part_of_list : {X : Type 0} (spelling : X → List ℕ) (xs : List X) (i : ℕ) (x : X) (head old mid new : List ℕ) → i < length xs
    → x ≡ get_or xs i x
    → mid ≡ old ++ (head ++ flat_map spelling (take i xs)) → AppendsPart mid new (spelling x)
    → AppendsPart old new (head ++ flat_map spelling xs)
part_of_list spelling xs i x head old mid new within is so_far p =
    part_after old mid new (head ++ flat_map spelling (take i xs)) (spelling x) (flat_map spelling (drop (i + 1) xs)) _ so_far p
    (append_assoc head (flat_map spelling (take i xs)) _ ∙ ap (λ t. head ++ t) (spelled_around spelling xs i x within is))

-- ---- the old text stays

pub extends_by : (old new more : List ℕ) → new ≡ old ++ more → Extends old new
extends_by old new more is = record { more = more; extended = is }

-- since it has no byte
pub extends_nothing : (old new : List ℕ) → old ≡ [] → Extends old new
extends_nothing old new nothing = extends_by old new new (ap (λ t. t ++ new) (sym nothing))

-- ---- a whole that is appended piece by piece

-- a front of what was to append stands behind the old text, and this is left of it
pub record Leaves (old new rest added : List ℕ) : Type 0 where
  pub part : List ℕ
  pub appended : new ≡ old ++ part
  pub left : part ++ rest ≡ added

-- all of it, at first
pub leaves_all : (old added : List ℕ) → Leaves old old added added
leaves_all old added = record { part = []; appended = sym (append-nil old); left = refl }

-- one piece more was appended
pub leaves_next : (old mid new rest next added piece : List ℕ) → Leaves old mid rest added → new ≡ mid ++ piece → rest ≡ piece ++ next
    → Leaves old new next added
leaves_next old mid new rest next added piece l more is = record {
  part = l.part ++ piece;
  appended = more ∙ ap (λ t. t ++ piece) l.appended ∙ append_assoc old l.part piece;
  left = append_assoc l.part piece next ∙ ap (λ t. l.part ++ t) (sym is) ∙ l.left;
}

-- a part of the next piece was appended
pub leaves_part : (old mid new rest next added piece : List ℕ) → Leaves old mid rest added → rest ≡ piece ++ next
    → AppendsPart mid new piece → AppendsPart old new added
leaves_part old mid new rest next added piece l is p =
    part_after old mid new l.part piece next added l.appended p (ap (λ t. l.part ++ t) (sym is) ∙ l.left)

-- no more of it was appended
pub leaves_front : (old new rest added : List ℕ) → Leaves old new rest added → AppendsPart old new added
leaves_front old new rest added l = record { part = l.part; rest = rest; appended = l.appended; beginning = l.left }

-- ---- numbers

alone : (n : ℕ) → n < 2 ^ 64 → get_or (decimal n) 0 0 ≡ 48 → decimal n ≡ 48 ∷ []
alone zero fits zero_first = decimal_digit 0 (omega arith)
alone (suc n) fits zero_first = absurd (omega (arith, first_decimal (suc n) (omega arith) fits))

pub decimal-is : (n : ℕ) → n < 2 ^ 64 → IsDecimal n (decimal n)
decimal-is n fits = record {
  digits = (decimal_is_IsNumeral n fits).0;
  value = (decimal_is_IsNumeral n fits).1;
  no_leading_zero = alone n fits;
}
