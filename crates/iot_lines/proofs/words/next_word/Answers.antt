use Rattle.std.proofs.Common.{◌≡◌, ◌≢◌, ℕ, ◌<◌, List, [], ◌∷◌, length, sym, ap, ◌∙◌, arith}
use Rattle.std.proofs.lemmas.Bool.Decides.{nat_tests}
use Rattle.iot_lines.specs.Words.{words, after_word}
use Rattle.iot_lines.proofs.WordsLaws.{words-without_blanks, words-first, after_word-shorter}
use Rattle.iot_lines.proofs.words.next_word.Goals as goal

empty : (text : List ℕ) → length text ≡ 0 → text ≡ []
empty [] none = grind arith
empty (b ∷ bs) none = absurd (omega arith)

some : (text : List ℕ) → 0 < length text → text ≢ []
some text more is = let e = ap length is in omega arith

pub returns-then-is_empty-clause-none : goal.returns-then-is_empty-clause-none
returns-then-is_empty-clause-none c =
    let none : length c.without_blanks-text.result.now ≡ 0 = grind (arith, nat_tests) in (
      λ _. sym (words-without_blanks c.args.line.now) ∙ ap words (sym c.without_blanks-text.ensures.rest ∙ empty _ none),
      λ _. grind arith,
    )

pub returns-clause-first : goal.returns-clause-first
returns-clause-first c =
    let more : 0 < length c.without_blanks-text.result.now = grind (arith, nat_tests) in
    let rest = c.without_blanks-text.ensures.rest in
    let first = words-first c.args.line.now (λ e. some _ more (rest ∙ e)) in
    let front = c.front_word.ensures.front in
    let after = ap words (c.front_word.ensures.after ∙ ap after_word rest) in
    cc

pub returns-clause-none : goal.returns-clause-none
returns-clause-none c = (λ e. absurd cc, λ none. let first = returns-clause-first c in absurd (cc))

pub returns-clause-shorter : goal.returns-clause-shorter
returns-clause-shorter c =
    let more : 0 < length c.without_blanks-text.result.now = grind (arith, nat_tests) in
    let rest = c.without_blanks-text.ensures.rest in
    let after = ap length (c.front_word.ensures.after ∙ ap after_word rest) in
    let shorter = after_word-shorter c.args.line.now (λ e. some _ more (rest ∙ e)) in
    omega (arith, shorter, after, ap length rest, c.without_blanks-text.ensures.length)
