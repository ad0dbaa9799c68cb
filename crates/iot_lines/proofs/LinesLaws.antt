-- Laws of the lines of a text.
use Rattle.std.proofs.Common.{◌≡◌, ◌≢◌, ◌⊎◌, inl, inr, ℕ, zero, suc, ◌+◌, ◌-◌, ◌<◌, ◌≤◌, ◌==◌, Bool, true, false, cond, List, [], ◌∷◌}
use Rattle.std.proofs.Common.{◌++◌, length, take, drop, refl, sym, ap, ◌∙◌, append_assoc, length-append, arith}
use Rattle.std.proofs.lemmas.Bool.Decides.{nat_tests}
use Rattle.std.proofs.lemmas.List.{append-nil, take_at, append_cancel_right}
use Rattle.memchr.specs.Find.{Nowhere, Passes, is_byte}
use Rattle.iot_lines.specs.Lines.{lines, onto_line, IsJoined}

-- ---- the first line

-- there is no newline among the first bytes
abbrev pub NoNewline : List ℕ → ℕ → Type 0
NoNewline text n = Nowhere (Passes (is_byte 10) text) 0 n

lines-newline : (b : ℕ) (bs : List ℕ) → b ≡ 10 → lines (b ∷ bs) ≡ [] ∷ lines bs
lines-newline b bs is = grind (arith, nat_tests)

lines-more : (b : ℕ) (bs : List ℕ) (n : ℕ) → NoNewline (b ∷ bs) (suc n) → lines (b ∷ bs) ≡ onto_line b (lines bs)
lines-more b bs n none =
    let other : b ≢ 10 = λ is. none 0 (omega arith) (omega arith) (grind (arith, nat_tests)) in
    grind (arith, nat_tests)

none_later : (b : ℕ) (bs : List ℕ) (n : ℕ) → NoNewline (b ∷ bs) (suc n) → NoNewline bs n
none_later b bs n none i low high here = none (suc i) (omega arith) (omega arith) here

-- the first newline ends the first line
pub first_line : (text : List ℕ) (k : ℕ) → NoNewline text k → k < length text → Passes (is_byte 10) text k
    → lines text ≡ take k text ∷ lines (drop (suc k) text)
first_line [] k none within here = absurd (omega arith)
first_line (b ∷ bs) zero none within here = lines-newline b bs (grind (arith, nat_tests))
first_line (b ∷ bs) (suc k) none within here =
    lines-more b bs k none ∙ ap (onto_line b) (first_line bs k (none_later b bs k none) (omega arith) here)

-- without one there is one line
pub only_line : (text : List ℕ) → text ≢ [] → NoNewline text (length text) → lines text ≡ text ∷ []
only_line [] some none = absurd (some refl)
only_line (b ∷ []) some none = lines-more b [] 0 none
only_line (b ∷ d ∷ bs) some none =
    lines-more b (d ∷ bs) (length (d ∷ bs)) none
    ∙ ap (onto_line b) (only_line (d ∷ bs) (λ e. cc) (none_later b (d ∷ bs) (length (d ∷ bs)) none))

-- the text is put together around its newline
pub joined_at : (text : List ℕ) (k : ℕ) → k < length text → Passes (is_byte 10) text k → text ≡ take k text ++ 10 ∷ drop (suc k) text
joined_at [] k within here = absurd (omega arith)
joined_at (b ∷ bs) zero within here = let is : b ≡ 10 = grind (arith, nat_tests) in ap (λ c. c ∷ bs) is
joined_at (b ∷ bs) (suc k) within here = ap (λ rest. b ∷ rest) (joined_at bs k (omega arith) here)

-- ---- how many there are

onto_line-length : (b : ℕ) (later : List (List ℕ)) → length (onto_line b later) ≤ length later + 1
onto_line-length b [] = omega arith
onto_line-length b (line ∷ later) = omega arith

-- there are no more lines than bytes
pub lines-length : (text : List ℕ) → length (lines text) ≤ length text
lines-length [] = omega arith
lines-length (b ∷ bs) = by_newline (b == 10) (lines-length bs)
  where
    by_newline : (newline : Bool) → length (lines bs) ≤ length bs
        → length (cond newline ([] ∷ lines bs) (onto_line b (lines bs))) ≤ suc (length bs)
    by_newline true few = omega arith
    by_newline false few = omega (arith, onto_line-length b (lines bs))

-- ---- the lines of two texts that are joined

onto_line-append : (b : ℕ) (some more : List (List ℕ)) → some ≢ [] → onto_line b (some ++ more) ≡ onto_line b some ++ more
onto_line-append b [] more is = absurd (is refl)
onto_line-append b (line ∷ later) more is = refl

lines-some : (text rest : List ℕ) → lines (text ++ 10 ∷ rest) ≢ []
lines-some [] rest e = absurd cc
lines-some (b ∷ bs) rest e = by_newline (b == 10) e
  where
    by_newline : (newline : Bool) → cond newline ([] ∷ lines (bs ++ 10 ∷ rest)) (onto_line b (lines (bs ++ 10 ∷ rest))) ≡ [] → ⊥
    by_newline true e = absurd cc
    by_newline false e = by_lines (lines (bs ++ 10 ∷ rest)) e
      where
        by_lines : (later : List (List ℕ)) → onto_line b later ≡ [] → ⊥
        by_lines [] e = absurd cc
        by_lines (line ∷ later) e = absurd cc

-- what comes after a newline begins a line
pub lines-append : (text rest : List ℕ) → lines (text ++ 10 ∷ rest) ≡ lines (text ++ 10 ∷ []) ++ lines rest
lines-append [] rest = refl
lines-append (b ∷ bs) rest = by_newline (b == 10) (lines-append bs rest)
  where
    by_newline : (newline : Bool) → lines (bs ++ 10 ∷ rest) ≡ lines (bs ++ 10 ∷ []) ++ lines rest
        → cond newline ([] ∷ lines (bs ++ 10 ∷ rest)) (onto_line b (lines (bs ++ 10 ∷ rest)))
        ≡ cond newline ([] ∷ lines (bs ++ 10 ∷ [])) (onto_line b (lines (bs ++ 10 ∷ []))) ++ lines rest
    by_newline true same = ap (λ later. [] ∷ later) same
    by_newline false same = ap (onto_line b) same ∙ onto_line-append b (lines (bs ++ 10 ∷ [])) (lines rest) (lines-some bs [])

-- ---- reading a text line by line

-- the lines of a text, up to where it is split, go on in the rest
pub record Passed (text rest : List ℕ) : Type 0 where
  pub front : List ℕ
  pub split : text ≡ front ++ rest
  pub apart : (rest ≡ []) ⊎ ((more : List ℕ) → lines (front ++ more) ≡ lines front ++ lines more)

pub Passed-lines : (text rest : List ℕ) (passed : Passed text rest) → lines text ≡ lines passed.front ++ lines rest
Passed-lines text rest passed = elim passed.apart [
  | inl none ↦
      ap lines (passed.split ∙ ap (λ more. passed.front ++ more) none ∙ append-nil passed.front)
      ∙ sym (append-nil (lines passed.front))
      ∙ ap (λ more. lines passed.front ++ lines more) (sym none)
  | inr apart ↦ ap lines passed.split ∙ apart rest
]

-- the front is what `&text[..text.len() - rest.len()]` gives
pub Passed-front : (text rest : List ℕ) (passed : Passed text rest) → take (length text - length rest) text ≡ passed.front
Passed-front text rest passed =
    let size : length passed.front ≡ length text - length rest = omega (arith, ap length passed.split, length-append passed.front rest) in
    ap (take (length text - length rest)) passed.split ∙ take_at passed.front rest (length text - length rest) size

-- the same after one line more
pub record PassedLine (text rest line later : List ℕ) (passed : Passed text rest) : Type 0 where
  pub next : Passed text later
  pub one_more : lines next.front ≡ lines passed.front ++ line ∷ []

-- a line with its newline is that line
with_newline : (line later : List ℕ) → lines (line ++ 10 ∷ later) ≡ line ∷ lines later → lines (line ++ 10 ∷ []) ≡ line ∷ []
with_newline line later first =
    append_cancel_right (lines (line ++ 10 ∷ [])) (line ∷ []) (lines later) (sym (lines-append line later) ∙ first)

pub pass_line : (text rest line later : List ℕ) (passed : Passed text rest) → rest ≢ [] → IsJoined rest line later
    → lines rest ≡ line ∷ lines later → PassedLine text rest line later passed
pass_line text rest line later passed some joined first = elim passed.apart [
  | inl none ↦ absurd (some none)
  | inr apart ↦ by_end apart joined
]
  where
    by_end : ((more : List ℕ) → lines (passed.front ++ more) ≡ lines passed.front ++ lines more) → IsJoined rest line later
        → PassedLine text rest line later passed
    by_end apart (inl is) =
        let whole : List ℕ = passed.front ++ line in
        let regroup : passed.front ++ (line ++ 10 ∷ later) ≡ (whole ++ 10 ∷ []) ++ later = simp append_assoc in
        record {
          next = record {
            front = whole ++ 10 ∷ [];
            split = passed.split ∙ ap (λ more. passed.front ++ more) is ∙ regroup;
            apart = inr (λ more. ap lines (append_assoc whole (10 ∷ []) more) ∙ lines-append whole more);
          };
          one_more =
              ap lines (append_assoc passed.front line (10 ∷ []))
              ∙ apart (line ++ 10 ∷ [])
              ∙ ap (λ more. lines passed.front ++ more) (with_newline line later (ap lines (sym is) ∙ first));
        }
    by_end apart (inr (is, none)) = record {
      next = record {
        front = passed.front ++ line;
        split =
            passed.split
            ∙ ap (λ more. passed.front ++ more) is
            ∙ sym (append-nil (passed.front ++ line))
            ∙ ap (λ more. (passed.front ++ line) ++ more) (sym none);
        apart = inl none;
      };
      one_more =
          apart line
          ∙ ap (λ more. lines passed.front ++ more) (ap lines (sym is) ∙ first ∙ ap (λ more. line ∷ lines more) none);
    }
