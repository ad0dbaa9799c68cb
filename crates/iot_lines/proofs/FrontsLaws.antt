-- Laws of the longest beginning of a text whose bytes all pass a test, and of what comes after it.
use Rattle.std.proofs.Common.{◌≡◌, ◌++◌, ℕ, suc, Bool, true, false, ◌&&◌, List, [], ◌∷◌, length, refl, sym, ap, ◌∙◌, arith}
use Rattle.std.specs.Cmp.{first_so, second_so}
use Rattle.std.specs.List.{prefix_len, list_all}
use Rattle.std.proofs.lemmas.List.{take_at, drop_at, take-append-drop}
use Rattle.std.proofs.lemmas.List.Folds.{length-prefix_len}
use Rattle.std.proofs.lemmas.List.Sums.{prefix_len-le-length}
use Rattle.iot_lines.specs.Fronts.{front, after, begins}

pub ruleset fronts = (length-prefix_len, prefix_len-le-length)

-- a byte that passes belongs to the front
pub prefix_len-more : (test : ℕ → Bool) (b : ℕ) (bs : List ℕ) → test b ≡ true → prefix_len test (b ∷ bs) ≡ suc (prefix_len test bs)
prefix_len-more test b bs h = rw h (omega arith)

-- one that fails leaves the front empty
pub prefix_len-none : (test : ℕ → Bool) (b : ℕ) (bs : List ℕ) → test b ≡ false → prefix_len test (b ∷ bs) ≡ 0
prefix_len-none test b bs h = rw h refl

pub both_so : (a b : Bool) → a ≡ true → b ≡ true → (a && b) ≡ true
both_so a b h k = rw h k

pub prefix_len_at : (test : ℕ → Bool) (xs ys : List ℕ) → list_all test xs ≡ true → begins test ys ≡ false
    → prefix_len test (xs ++ ys) ≡ length xs
prefix_len_at test [] [] all stop = refl
prefix_len_at test [] (y ∷ ys) all stop = prefix_len-none test y ys stop
prefix_len_at test (x ∷ xs) ys all stop =
    prefix_len-more test x (xs ++ ys) (first_so (test x) (list_all test xs) all)
    ∙ ap suc (prefix_len_at test xs ys (second_so (test x) (list_all test xs) all) stop)

pub front_at : (test : ℕ → Bool) (xs ys : List ℕ) → list_all test xs ≡ true → begins test ys ≡ false → front test (xs ++ ys) ≡ xs
front_at test xs ys all stop = take_at xs ys (prefix_len test (xs ++ ys)) (sym (prefix_len_at test xs ys all stop))

pub after_at : (test : ℕ → Bool) (xs ys : List ℕ) → list_all test xs ≡ true → begins test ys ≡ false → after test (xs ++ ys) ≡ ys
after_at test xs ys all stop = drop_at xs ys (prefix_len test (xs ++ ys)) (sym (prefix_len_at test xs ys all stop))

-- each byte of the front passes
pub list_all-front : (test : ℕ → Bool) (text : List ℕ) → list_all test (front test text) ≡ true
list_all-front test [] = refl
list_all-front test (b ∷ bs) = by_test (test b) refl (list_all-front test bs)
  where
    by_test : (passes : Bool) → test b ≡ passes → list_all test (front test bs) ≡ true → list_all test (front test (b ∷ bs)) ≡ true
    by_test true h rest = rw (prefix_len-more test b bs h) (both_so (test b) (list_all test (front test bs)) h rest)
    by_test false h rest = rw (prefix_len-none test b bs h) refl

-- and the first one after it does not
pub begins-after : (test : ℕ → Bool) (text : List ℕ) → begins test (after test text) ≡ false
begins-after test [] = refl
begins-after test (b ∷ bs) = by_test (test b) refl (begins-after test bs)
  where
    by_test : (passes : Bool) → test b ≡ passes → begins test (after test bs) ≡ false → begins test (after test (b ∷ bs)) ≡ false
    by_test true h rest = rw (prefix_len-more test b bs h) rest
    by_test false h rest = rw (prefix_len-none test b bs h) h

pub front-append-after : (test : ℕ → Bool) (text : List ℕ) → front test text ++ after test text ≡ text
front-append-after test text = take-append-drop (prefix_len test text) text
