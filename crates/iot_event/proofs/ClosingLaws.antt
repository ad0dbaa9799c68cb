-- Laws of where a script or a profile ends, for a text that is searched line by line.
use Rattle.std.proofs.Common.{◌≡◌, ◌≢◌, inr, ℕ, ◌+◌, Bool, false, List, [], ◌∷◌, ◌++◌, length, Option, Some, None, refl, sym, ap, ◌∙◌}
use Rattle.std.proofs.Common.{append_assoc, length-append, arith, if◌then◌else◌}
use Rattle.iot_lines.specs.Lines.{lines, IsJoined}
use Rattle.iot_lines.specs.Words.{words}
use Rattle.iot_lines.proofs.LinesLaws.{Passed, PassedLine, pass_line}
use Rattle.iot_event.specs.Closing.{Closed, is_closing, blocks_after, with_lines, closed_at, closed_by, first_closing}

with_lines-nil : (script : Option Closed) → script ≡ with_lines [] script
with_lines-nil None = refl
with_lines-nil (Some script) = refl

with_lines-append : (front more : List (List ℕ)) (script : Option Closed)
    → with_lines front (with_lines more script) ≡ with_lines (front ++ more) script
with_lines-append front more None = refl
with_lines-append front more (Some script) =
    ap (λ (inside : List (List ℕ)). Some (record script { inside = inside })) (sym (append_assoc front more script.inside))

-- the lines of a text before the rest do not close the script, and leave so many blocks open
pub record Searched (text rest : List ℕ) (blocks count : ℕ) : Type 0 where
  pub passed : Passed text rest
  pub same : closed_by (lines text) 0 ≡ with_lines (lines passed.front) (closed_by (lines rest) blocks)
  pub counted : count ≡ length (lines passed.front)

pub nothing_searched : (text : List ℕ) → Searched text text 0 0
nothing_searched text = record {
  passed = record { front = []; split = refl; apart = inr (λ more. refl) };
  same = with_lines-nil (closed_by (lines text) 0);
  counted = refl;
}

-- after a line that does not close the script
pub search_line : (text rest line later : List ℕ) (blocks count open_ : ℕ) → Searched text rest blocks count
    → lines rest ≡ line ∷ lines later → IsJoined rest line later → blocks_after (words line) blocks ≡ Some open_
    → Searched text later open_ (count + 1)
search_line text rest line later blocks count open_ searched first joined is =
    let some : rest ≢ [] = λ none. let never : [] ≡ line ∷ lines later = ap lines (sym none) ∙ first in cc in
    let front : List (List ℕ) = lines searched.passed.front in
    let next : PassedLine text rest line later searched.passed = pass_line text rest line later searched.passed some joined first in
    record {
      passed = next.next;
      same =
          searched.same
          ∙ ap (λ (ls : List (List ℕ)). with_lines front (closed_by ls blocks)) first
          ∙ ap (λ (o : Option ℕ). with_lines front (closed_at o line (lines later) (λ n. closed_by (lines later) n))) is
          ∙ with_lines-append front (line ∷ []) (closed_by (lines later) open_)
          ∙ ap (λ (ls : List (List ℕ)). with_lines ls (closed_by (lines later) open_)) (sym next.one_more);
      counted = omega (arith, searched.counted, ap length next.one_more, length-append front (line ∷ []));
    }

-- ---- a profile

-- the lines of a text before the rest do not close the profile
pub record Sought (text rest : List ℕ) (count : ℕ) : Type 0 where
  pub passed : Passed text rest
  pub same : first_closing (lines text) ≡ with_lines (lines passed.front) (first_closing (lines rest))
  pub counted : count ≡ length (lines passed.front)

pub nothing_sought : (text : List ℕ) → Sought text text 0
nothing_sought text = record {
  passed = record { front = []; split = refl; apart = inr (λ more. refl) };
  same = with_lines-nil (first_closing (lines text));
  counted = refl;
}

-- after a line that does not close the profile
pub seek_line : (text rest line later : List ℕ) (count : ℕ) → Sought text rest count
    → lines rest ≡ line ∷ lines later → IsJoined rest line later → is_closing (words line) ≡ false
    → Sought text later (count + 1)
seek_line text rest line later count sought first joined is =
    let some : rest ≢ [] = λ none. let never : [] ≡ line ∷ lines later = ap lines (sym none) ∙ first in cc in
    let front : List (List ℕ) = lines sought.passed.front in
    let next : PassedLine text rest line later sought.passed = pass_line text rest line later sought.passed some joined first in
    record {
      passed = next.next;
      same =
          sought.same
          ∙ ap (λ (ls : List (List ℕ)). with_lines front (first_closing ls)) first
          ∙ ap (λ (b : Bool). with_lines front
          (if b then Some (record { inside = []; closing = line; later = lines later }) else with_lines (line ∷ []) (first_closing (lines later))))
          is
          ∙ with_lines-append front (line ∷ []) (first_closing (lines later))
          ∙ ap (λ (ls : List (List ℕ)). with_lines ls (first_closing (lines later))) (sym next.one_more);
      counted = omega (arith, sought.counted, ap length next.one_more, length-append front (line ∷ []));
    }
