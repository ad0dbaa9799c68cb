-- Laws of the words of a line.
use Rattle.std.proofs.Common.{◌≡◌, ◌≢◌, ℕ, suc, ◌+◌, ◌<◌, ◌≤◌, Bool, true, false, not, cond, List, [], ◌∷◌, length, length-drop, refl, sym}
use Rattle.std.proofs.Common.{ap, ◌∙◌, arith}
use Rattle.std.specs.List.{prefix_len}
use Rattle.iot_lines.specs.Fronts.{begins}
use Rattle.iot_lines.specs.Words.{is_blank, is_solid, words, onto_word, without_blanks, front_word, after_word}
use Rattle.iot_lines.proofs.FrontsLaws.{prefix_len-more, prefix_len-none, begins-after}

-- the blanks that a line begins with change no word
pub words-without_blanks : (line : List ℕ) → words (without_blanks line) ≡ words line
words-without_blanks [] = refl
words-without_blanks (b ∷ bs) = by_blank (is_blank b) refl (words-without_blanks bs)
  where
    by_blank : (blank : Bool) → is_blank b ≡ blank → words (without_blanks bs) ≡ words bs → words (without_blanks (b ∷ bs)) ≡ words (b ∷ bs)
    by_blank true h rest = rw (prefix_len-more is_blank b bs h, h) rest
    by_blank false h rest = rw (prefix_len-none is_blank b bs h) refl

-- a byte, and the word that comes right after it
onto_rest : (b : ℕ) (bs : List ℕ) → onto_word b (begins is_solid bs) (words bs) ≡ (b ∷ front_word bs) ∷ words (after_word bs)
onto_rest b [] = refl
onto_rest b (d ∷ ds) = by_blank (is_blank d) refl (onto_rest d ds)
  where
    by_blank : (blank : Bool) → is_blank d ≡ blank
        → onto_word d (begins is_solid ds) (words ds) ≡ (d ∷ front_word ds) ∷ words (after_word ds)
        → onto_word b (begins is_solid (d ∷ ds)) (words (d ∷ ds)) ≡ (b ∷ front_word (d ∷ ds)) ∷ words (after_word (d ∷ ds))
    by_blank true h rest = rw (prefix_len-none is_solid d ds (ap not h), h) refl
    by_blank false h rest = rw (prefix_len-more is_solid d ds (ap not h), h, rest) refl

begins_word : (text : List ℕ) → begins is_solid text ≡ true → words text ≡ front_word text ∷ words (after_word text)
begins_word [] h = absurd cc
begins_word (b ∷ bs) h = by_blank (is_blank b) refl h
  where
    by_blank : (blank : Bool) → is_blank b ≡ blank → not blank ≡ true → words (b ∷ bs) ≡ front_word (b ∷ bs) ∷ words (after_word (b ∷ bs))
    by_blank true is h = absurd cc
    by_blank false is h = rw (prefix_len-more is_solid b bs (ap not is), is) (onto_rest b bs)

-- without blanks a line is empty, or begins with a word
begins-without_blanks : (line : List ℕ) → without_blanks line ≢ [] → begins is_solid (without_blanks line) ≡ true
begins-without_blanks line some = by_first (without_blanks line) some (begins-after is_blank line)
  where
    by_first : (text : List ℕ) → text ≢ [] → begins is_blank text ≡ false → begins is_solid text ≡ true
    by_first [] some h = absurd (some refl)
    by_first (b ∷ bs) some h = ap not h

-- the first word of a line, and those after it
pub words-first : (line : List ℕ) → without_blanks line ≢ []
    → words line ≡ front_word (without_blanks line) ∷ words (after_word (without_blanks line))
words-first line some = sym (words-without_blanks line) ∙ begins_word (without_blanks line) (begins-without_blanks line some)

pub after_word-shorter : (line : List ℕ) → without_blanks line ≢ []
    → length (after_word (without_blanks line)) < length (without_blanks line)
after_word-shorter line some = by_first (without_blanks line) (begins-without_blanks line some)
  where
    by_first : (text : List ℕ) → begins is_solid text ≡ true → length (after_word text) < length text
    by_first [] h = absurd cc
    by_first (b ∷ bs) h = rw (prefix_len-more is_solid b bs h) (omega (arith, length-drop (prefix_len is_solid bs) bs))

onto_word-length : (b : ℕ) (adjacent : Bool) (later : List (List ℕ)) → length (onto_word b adjacent later) ≤ length later + 1
onto_word-length b true [] = omega arith
onto_word-length b true (word ∷ later) = omega arith
onto_word-length b false later = omega arith

-- there are no more words than bytes
pub words-length : (line : List ℕ) → length (words line) ≤ length line
words-length [] = omega arith
words-length (b ∷ bs) = by_blank (is_blank b) (words-length bs)
  where
    by_blank : (blank : Bool) → length (words bs) ≤ length bs
        → length (cond blank (words bs) (onto_word b (begins is_solid bs) (words bs))) ≤ suc (length bs)
    by_blank true few = omega arith
    by_blank false few = omega (arith, onto_word-length b (begins is_solid bs) (words bs))
