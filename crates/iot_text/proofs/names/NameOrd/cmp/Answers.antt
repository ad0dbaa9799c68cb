use Rattle.std.proofs.Common.{◌≡◌, ◌*◌, ◌%◌, ℕ, List, take, drop, [], ◌∙◌, sym, ap, arith}
use Rattle.std.proofs.lemmas.List.{drop_all}
use Rattle.std.specs.Ordering.{nat_cmp}
use Rattle.std.specs.Cmp.Lexicographic.{slice_cmp}
use Rattle.iot_text.proofs.WordsLaws.{word, as_arrays, next_word, word_decides, ended}
use Rattle.iot_text.proofs.names.NameOrd.cmp.Goals as goal

pub words-preserved : goal.words-preserved
words-preserved c =
    let same = sym c.word_at-mine.ensures ∙ c.if-mine-theirs.false ∙ c.word_at-theirs.ensures in
    c.words.invariant
    ∙ next_word _ _ _ _ c.self.invariant c.other.invariant c.words.word c.words-test.true c.self.told c.other.told same

pub returns-then-mine-theirs : goal.returns-then-mine-theirs
returns-then-mine-theirs c =
    let xs = c.self.inside.bytes in
    let ys = c.other.inside.bytes in
    let mine : c.word_at-mine.result ≡ word (drop (8 * c.words.word) xs) = c.word_at-mine.ensures in
    let theirs : c.word_at-theirs.result ≡ word (drop (8 * c.words.word) ys) = c.word_at-theirs.ensures in
    let decides = word_decides _ _ _ _ c.self.invariant c.other.invariant c.words.word c.words-test.true c.self.told c.other.told in
    c.cmp.ensures
    ∙ ap (λ (n : ℕ). nat_cmp n c.word_at-theirs.result) mine
    ∙ ap (nat_cmp (word (drop (8 * c.words.word) xs))) theirs
    ∙ sym (decides (λ h. c.if-mine-theirs.true (mine ∙ h ∙ sym theirs)))
    ∙ sym c.words.invariant
    ∙ sym (as_arrays _ _ _ _ c.self.invariant c.other.invariant)
    ∙ ap (λ (l : List ℕ). slice_cmp nat_cmp l (take c.other.inside.len ys)) c.self.view_is
    ∙ ap (slice_cmp nat_cmp c.args.self.now) c.other.view_is

pub returns : goal.returns
returns c =
    let xs = c.self.inside.bytes in
    let ys = c.other.inside.bytes in
    let mine = drop_all (8 * c.words.word) xs (omega (arith, c.self.told, c.words-test.false)) in
    let theirs = drop_all (8 * c.words.word) ys (omega (arith, c.other.told, c.words-test.false)) in
    let stored = as_arrays _ _ _ _ c.self.invariant c.other.invariant in
    sym
    (sym
    (ap (λ (l : List ℕ). slice_cmp nat_cmp l (take c.other.inside.len ys)) c.self.view_is
    ∙ ap (slice_cmp nat_cmp c.args.self.now) c.other.view_is)
    ∙ stored
    ∙ c.words.invariant
    ∙ ap (λ (l : List ℕ). slice_cmp nat_cmp l (drop (8 * c.words.word) ys)) mine
    ∙ ap (slice_cmp nat_cmp []) theirs)

pub returns-then-mine-eq0 : goal.returns-then-mine-eq0
returns-then-mine-eq0 c =
    let ys = c.other.inside.bytes in
    let same = sym c.word_at-mine.ensures ∙ c.if-mine-theirs.false ∙ c.word_at-theirs.ensures in
    let zero = ap (λ (n : ℕ). n % 256) (sym c.word_at-mine.ensures) ∙ c.if-mine-eq0.true in
    sym
    (sym
    (ap (λ (l : List ℕ). slice_cmp nat_cmp l (take c.other.inside.len ys)) c.self.view_is
    ∙ ap (slice_cmp nat_cmp c.args.self.now) c.other.view_is)
    ∙ as_arrays _ _ _ _ c.self.invariant c.other.invariant
    ∙ c.words.invariant
    ∙ ended _ _ _ _ c.self.invariant c.other.invariant c.words.word c.words-test.true c.self.told c.other.told same zero)
