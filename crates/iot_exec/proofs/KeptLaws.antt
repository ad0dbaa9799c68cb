-- Looking for a path among files.
use Rattle.std.proofs.Common.{◌≡◌, ◌≢◌, ℕ, zero, suc, ◌+◌, ◌<◌, ◌≤◌, Bool, true, false, ◌&&◌, IsTrue, cond, Ordering, List, [], ◌∷◌, Some}
use Rattle.std.proofs.Common.{None, Result, Ok, Err, length, drop, get_or, refl, sym, ap, ◌∙◌, drop-cons, add-one, length-drop}
use Rattle.std.proofs.Common.{arith, inl, inr}
use Rattle.std.proofs.lemmas.Bool.{cases_lt}
use Rattle.std.proofs.lemmas.List.{nil_from_length}
use Rattle.std.proofs.lemmas.List.Sorted.{searchable_from_sorted}
use Rattle.std.specs.List.{IsAllAdjacentAnswer}
use Rattle.std.specs.List.Sorted.{IsNonDecreasingBy, IsSearchInRange, IsBinarySearchResult}
use Rattle.std.specs.Cmp.{alike_right, first_so, second_so}
use Rattle.std.specs.Cmp.Derive.{both_true}
use Rattle.std.specs.Ordering.{eq_by_cmp, is_lt, ordering_index, ordering_reverse}
use Rattle.std.specs.declared.cmp.Ordering.TheVariants.{Less, Equal, Greater}
use Rattle.std.specs.FinMap.{get, get-from_entries, is_sorted, find}
use Rattle.std.specs.FinMap.Entries.{below_all}
use Rattle.iot_text.specs.Paths.{path_cmp}
use Rattle.iot_text.proofs.PathsLaws.{path_total}
use Rattle.iot_tree.specs.Tree.{Path}
use Rattle.iot_tree.proofs.PlaceLaws.{is_less, turned}
use Rattle.iot_exec.specs.Commands.{kept_files}
use Rattle.iot_exec.specs.Kept.{IsFoundAt}

abbrev pub Row : Type 0
Row = Path × List ℕ

-- what is found among all files
pub is_found : (files all : List Row) (p : Path) → files ≡ all → find path_cmp p files ≡ get (kept_files all) p
is_found files all p same = ap (find path_cmp p) same ∙ sym (get-from_entries path_total all p)

-- the first file that is left
pub next_file : (files : List Row) (p : List (List ℕ)) (i : ℕ) (row : Row) (test : Bool) → i < length files → row ≡ get_or files i row
    → eq_by_cmp path_cmp p row.0 ≡ test → find path_cmp p (drop i files) ≡ cond test (Some row.1) (find path_cmp p (drop (i + 1) files))
next_file files p i row test lt is same =
    let front : drop i files
    ≡ row ∷ drop (i + 1) files = rw add-one (drop-cons files i row lt ∙ ap (λ (row : Row). row ∷ drop (suc i) files) (sym is)) in
    ap (find path_cmp p) front ∙ ap (λ test. cond test (Some row.1) (find path_cmp p (drop (i + 1) files))) same

-- no file is left
pub none_left : (files : List Row) (p : List (List ℕ)) (i : ℕ) → length files ≤ i → find path_cmp p (drop i files) ≡ None
none_left files p i over = ap (find path_cmp p) (nil_from_length (drop i files) (omega (arith, length-drop i files)))

-- ---- files that rise

-- what comes before a path that comes before all files does so too
below_lower : (q p : Path) (files : List Row) → path_cmp q p ≡ Less → IsTrue (below_all path_cmp p files)
    → IsTrue (below_all path_cmp q files)
below_lower q p [] lt below = refl
below_lower q p (file ∷ files) lt below =
    both_true (ap is_lt (path_total.trans q p file.0 lt (is_less _ (first_so _ _ below))))
    (below_lower q p files lt (second_so (is_lt (path_cmp p file.0)) _ below))

-- whether a file comes before another one
abbrev is_before : List Row → ℕ → ℕ → Row → Bool
is_before files i j d = is_lt (path_cmp (get_or files i d).0 (get_or files j d).0)

-- they rise if each comes before the next
all_rise : (files : List Row) → ((k : ℕ) (d : Row) → suc k < length files → true ≡ is_before files k (suc k) d)
    → IsTrue (is_sorted path_cmp files)
all_rise [] each = refl
all_rise (file ∷ []) each = refl
all_rise (file ∷ next ∷ files) each =
    let lt : IsTrue (is_lt (path_cmp file.0 next.0)) = sym (each 0 file (omega arith)) in
    let rest : IsTrue (is_sorted path_cmp (next ∷ files)) = all_rise (next ∷ files) (λ k d within. each (suc k) d (omega arith)) in
    both_true (both_true lt (below_lower file.0 next.0 files (is_less _ lt) (first_so _ _ rest))) rest

and_false : (b : Bool) → b && false ≡ false
and_false true = refl
and_false false = refl

-- and do not if one does not come before the next
none_rise : (files : List Row) (k : ℕ) → suc k < length files → ((d : Row) → false ≡ is_before files k (suc k) d)
    → is_sorted path_cmp files ≡ false
none_rise [] k within out = absurd (omega arith)
none_rise (file ∷ []) k within out = absurd (omega arith)
none_rise (file ∷ next ∷ files) zero within out = rw (sym (out file)) refl
none_rise (file ∷ next ∷ files) (suc k) within out =
    rw (none_rise (next ∷ files) k (omega arith) out) (and_false (below_all path_cmp file.0 (next ∷ files)))

-- whether they rise, as a comparison of each with the next tells
pub rising_is : (files : List Row) (r : Bool) → IsAllAdjacentAnswer (λ x y b. b ≡ is_lt (path_cmp x.0 y.0)) files r
    → r ≡ is_sorted path_cmp files
rising_is files true each =
    sym
    (all_rise files
    (λ k d within. each k d (omega arith) ∙ ap (λ next. is_before files k next d) (add-one k)))
rising_is files false one =
    sym (none_rise files one.0 (omega (arith, one.1)) (λ d. one.2 d ∙ ap (λ next. is_before files one.0 next d) (add-one one.0)))

-- a path that comes before all files comes before each
before_each : (q : Path) (files : List Row) → IsTrue (below_all path_cmp q files) → (j : ℕ) (d : Row) → j < length files
    → path_cmp q (get_or files j d).0 ≡ Less
before_each q [] below j d within = absurd (omega arith)
before_each q (file ∷ files) below zero d within = is_less _ (first_so _ _ below)
before_each q (file ∷ files) below (suc j) d within =
    before_each q files (second_so (is_lt (path_cmp q file.0)) _ below) j d (omega arith)

-- of two files the first comes before the second
files_rise : (files : List Row) → IsTrue (is_sorted path_cmp files) → (i j : ℕ) (d : Row) → i < j → j < length files
    → path_cmp (get_or files i d).0 (get_or files j d).0 ≡ Less
files_rise [] rising i j d lt within = absurd (omega arith)
files_rise (file ∷ files) rising zero zero d lt within = absurd (omega arith)
files_rise (file ∷ files) rising (suc i) zero d lt within = absurd (omega arith)
files_rise (file ∷ files) rising zero (suc j) d lt within = before_each file.0 files (first_so _ _ rising) j d (omega arith)
files_rise (file ∷ files) rising (suc i) (suc j) d lt within =
    files_rise files (second_so (below_all path_cmp file.0 files) _ rising) i j d (omega arith) (omega arith)

-- ---- a binary search

less_apart : (c : Ordering) → c ≡ Less → c ≢ Equal
less_apart c is equal = let never : Less ≡ Equal = sym is ∙ equal in cc

greater_apart : (c : Ordering) → c ≡ Greater → c ≢ Equal
greater_apart c is equal = let never : Greater ≡ Equal = sym is ∙ equal in cc

module _ (p : Path) where
  -- files that rise, as a binary search asks it
  searchable : (files : List Row) → IsTrue (is_sorted path_cmp files)
      → IsNonDecreasingBy (λ (file : Row). ordering_index (path_cmp file.0 p)) files
  searchable files rising =
      searchable_from_sorted path_total (λ (file : Row). file.0) files p (λ k d from to.
      ap is_lt
      (path_total.antisymm (get_or files (k + 1) d).0 (get_or files k d).0
      ∙ ap ordering_reverse (files_rise files rising k (k + 1) d (omega arith) (omega arith))))

  -- the only file at the path is the one that is found
  found_here : (files : List Row) → IsTrue (is_sorted path_cmp files) → (at : ℕ) → at < length files
      → ((d : Row) → path_cmp (get_or files at d).0 p ≡ Equal) → (d : Row) → find path_cmp p files ≡ Some (get_or files at d).1
  found_here [] rising at within equal d = absurd (omega arith)
  found_here (file ∷ files) rising zero within equal d = rw (turned p file.0 Equal (equal d)) refl
  found_here (file ∷ files) rising (suc at) within equal d =
      let lt : path_cmp file.0 p ≡ Less =
      sym (alike_right path_total (get_or files at d).0 p file.0 (equal d))
      ∙ before_each file.0 files (first_so _ _ rising) at d (omega arith) in
      rw (turned p file.0 Less lt)
      (found_here files (second_so (below_all path_cmp file.0 files) _ rising) at (omega arith) equal d)

  passed : (q : Path) (c : Ordering) → path_cmp q p ≡ c → c ≢ Equal → eq_by_cmp path_cmp p q ≡ false
  passed q Less is apart = rw (turned p q Less is) refl
  passed q Equal is apart = absurd (apart refl)
  passed q Greater is apart = rw (turned p q Greater is) refl

  -- nothing is found if no file lies at the path
  none_here : (files : List Row) → ((j : ℕ) (d : Row) → j < length files → path_cmp (get_or files j d).0 p ≢ Equal)
      → find path_cmp p files ≡ None
  none_here [] apart = refl
  none_here (file ∷ files) apart =
      rw (passed file.0 _ refl (apart 0 file (omega arith))) (none_here files (λ j d within. apart (suc j) d (omega arith)))

  -- a binary search ends at what is found
  pub searched : (files : List Row) → IsTrue (is_sorted path_cmp files) → (r : Result ℕ ℕ) → IsSearchInRange r (length files)
      → IsBinarySearchResult (λ (file : Row). path_cmp file.0 p) files r → IsFoundAt files p r
  searched files rising (Ok at) within equal = (within, found_here files rising at within equal)
  searched files rising (Err at) within parted =
      let parts = parted (searchable files rising) in
      none_here files (λ j d lt. elim (cases_lt j at) [
        | inl before ↦ less_apart (path_cmp (get_or files j d).0 p) (parts.0 j d (omega arith) before)
        | inr after ↦ greater_apart (path_cmp (get_or files j d).0 p) (parts.1 j d after lt)
      ])
