-- Paths at or below a path, and rows of them.
use Rattle.std.proofs.Common.{◌≡◌, ℕ, List, [], ◌∷◌, ◌++◌, refl, sym, ap, ◌∙◌, suc, ◌+◌, Bool, true, false, Some, None, length, take, drop}
use Rattle.std.specs.Cmp.Derive.{both_true}
use Rattle.std.proofs.Common.{arith, ◌≢◌, cond, Option, subst, bytes_eq}
use Rattle.std.proofs.lemmas.Bool.{both_ways}
use Rattle.std.proofs.lemmas.List.{append-nil}
use Rattle.std.proofs.lemmas.Slice.Eq.{starts_is}
use Rattle.std.specs.Cmp.{tied_itself, first_so, second_so}
use Rattle.std.specs.Cmp.Lexicographic.{nat_list_cmp_total, bytes_decides}
use Rattle.std.specs.FinMap.{find}
use Rattle.std.specs.FinMap.Entries.{below_all}
use Rattle.std.specs.List.{starts_with, prefix_len}
use Rattle.std.specs.Option.{option_or}
use Rattle.std.specs.Ordering.{is_lt, eq_by_cmp, is_eq}
use Rattle.std.specs.declared.cmp.Ordering.TheVariants.{Less, Equal}
use Rattle.iot_text.specs.Paths.{path_cmp}
use Rattle.iot_text.proofs.PathsLaws.{above_first, between, path_total}
use Rattle.iot_tree.specs.Place.{AllBefore, AllAfter}
use Rattle.iot_tree.specs.Questions.{is_within}
use Rattle.iot_tree.specs.Rows.{Rising}
use Rattle.iot_tree.specs.Tree.{Path, Row}
use Rattle.iot_tree.specs.declared.nodes.Node.{Node}
use Rattle.iot_tree.proofs.PathLaws.{order, lower, same, higher}
use Rattle.iot_tree.proofs.PlaceLaws.{is_less, below_lower}
use Rattle.iot_tree.proofs.TreeLaws.{apart}

-- no path at or below p is this one
abbrev pub IsOutside : Path → Path → Type 0
IsOutside p path = (rest : Path) → path ≢ p ++ rest

-- each row is at or below p
abbrev pub Inside : Path → List Row → Type 0
Inside p [] = Unit {0}
Inside p (row ∷ rows) = ((rest : Path) × (row.0 ≡ p ++ rest)) × Inside p rows

-- no row is at or below p
abbrev pub Outside : Path → List Row → Type 0
Outside p [] = Unit {0}
Outside p (row ∷ rows) = IsOutside p row.0 × Outside p rows

-- a path is at or below p, or it is not, and so says the test
pub data Side (p path : Path) : Type 0 where
  inside : (rest : Path) → path ≡ p ++ rest → starts_with bytes_eq path p ≡ true → Side p path
  outside : IsOutside p path → starts_with bytes_eq path p ≡ false → Side p path

pub test_is : (p path : Path)
    → (starts_with bytes_eq path p ≡ true → path ≡ p ++ drop (length p) path)
    × ((rest : Path) → path ≡ p ++ rest → starts_with bytes_eq path p ≡ true)
test_is p path = starts_is bytes_decides path p (starts_with bytes_eq path p) refl

side_by : (p path : Path) (b : Bool) → starts_with bytes_eq path p ≡ b → Side p path
side_by p path true is = inside (drop (length p) path) ((test_is p path).0 is) is
side_by p path false is = outside (λ rest here. both_ways _ is ((test_is p path).1 rest here)) is

pub side : (p path : Path) → Side p path
side p path = side_by p path (starts_with bytes_eq path p) refl

-- a path is at itself
pub at_itself : (p : Path) → p ≡ p ++ []
at_itself p = sym (append-nil p)

-- ---- order

-- the order of two paths below one path is that of their ends
pub same_front : (q a b : Path) → path_cmp (q ++ a) (q ++ b) ≡ path_cmp a b
same_front [] a b = refl
same_front (n ∷ q) a b = rw (tied_itself nat_list_cmp_total n) (same_front q a b)

pub not_less : (q : Path) → path_cmp q q ≡ Less → ⊥
not_less q is = let never : Less ≡ Equal = sym is ∙ tied_itself path_total q in cc

-- what comes before q comes before all that is at or below it
pub before_inside : (f q rest : Path) → path_cmp f q ≡ Less → path_cmp f (q ++ rest) ≡ Less
before_inside f q [] lt = rw (append-nil q) lt
before_inside f q (name ∷ rest) lt = path_total.trans f q (q ++ name ∷ rest) lt (above_first q name rest)

-- what comes after q and is not below it comes after all that is
pub behind_inside : (q rest b : Path) → path_cmp q b ≡ Less → IsOutside q b → path_cmp (q ++ rest) b ≡ Less
behind_inside q rest b lt out = elim (order (q ++ rest) b) [
  | lower is ↦ is
  | same is ↦ absurd (out rest (sym is))
  | higher is ↦ let found = between q b rest lt is in absurd (out (found.0 ∷ found.1) found.2)
]

-- what comes before q is not at or below it
pub before_outside : (f q : Path) → path_cmp f q ≡ Less → IsOutside q f
before_outside f q lt rest is = not_less f (subst (λ (path : Path). path_cmp f path ≡ Less) (sym is) (before_inside f q rest lt))

-- ---- lists of rows

pub outside_join : (p : Path) (a b : List Row) → Outside p a → Outside p b → Outside p (a ++ b)
outside_join p [] b left right = right
outside_join p (row ∷ a) b left right = (left.0, outside_join p a b left.1 right)

pub outside_before : (q : Path) (rows : List Row) → AllBefore q rows → Outside q rows
outside_before q [] before = tt
outside_before q (row ∷ rows) before = (before_outside row.0 q before.0, outside_before q rows before.1)

-- no row is below p after a row that is after p and not below it
pub outside_behind : (p z : Path) (rows : List Row) → path_cmp p z ≡ Less → IsOutside p z → AllAfter z rows → Outside p rows
outside_behind p z [] lt out below = tt
outside_behind p z (row ∷ rows) lt out below =
    let here = is_less _ (first_so _ _ below) in (
      (λ rest is. not_less row.0
          (path_total.trans row.0 z row.0 (subst (λ (path : Path). path_cmp path z ≡ Less) (sym is) (behind_inside p rest z lt out)) here)),
      outside_behind p z rows lt out (second_so (is_lt (path_cmp z row.0)) _ below),
    )

-- ---- what is found

or_none : (o : Option Node) → option_or o None ≡ o
or_none None = refl
or_none (Some node) = refl

cond_or : (c : Bool) (node : Node) (x y : Option Node) → cond c (Some node) (option_or x y) ≡ option_or (cond c (Some node) x) y
cond_or true node x y = refl
cond_or false node x y = refl

pub find_join : (k : Path) (a b : List Row) → find path_cmp k (a ++ b) ≡ option_or (find path_cmp k a) (find path_cmp k b)
find_join k [] b = refl
find_join k (row ∷ a) b =
    ap (cond (eq_by_cmp path_cmp k row.0) (Some row.1)) (find_join k a b)
    ∙ cond_or (eq_by_cmp path_cmp k row.0) row.1 (find path_cmp k a) (find path_cmp k b)

pub find_last : (k : Path) (a b : List Row) → find path_cmp k a ≡ None → find path_cmp k (a ++ b) ≡ find path_cmp k b
find_last k a b none = find_join k a b ∙ ap (λ (o : Option Node). option_or o (find path_cmp k b)) none

pub find_front : (k : Path) (a b : List Row) → find path_cmp k b ≡ None → find path_cmp k (a ++ b) ≡ find path_cmp k a
find_front k a b none = find_join k a b ∙ ap (option_or (find path_cmp k a)) none ∙ or_none (find path_cmp k a)

-- no row outside is found at or below
pub find_outside : (p rest : Path) (rows : List Row) → Outside p rows → find path_cmp (p ++ rest) rows ≡ None
find_outside p rest [] out = refl
find_outside p rest (row ∷ rows) out =
    ap (λ c. cond c (Some row.1) (find path_cmp (p ++ rest) rows)) (apart (p ++ rest) row.0 (λ is. out.0 rest (sym is)))
    ∙ find_outside p rest rows out.1

-- no row inside is found elsewhere
pub find_inside : (p k : Path) (rows : List Row) → IsOutside p k → Inside p rows → find path_cmp k rows ≡ None
find_inside p k [] out ins = refl
find_inside p k (row ∷ rows) out ins =
    ap (λ c. cond c (Some row.1) (find path_cmp k rows)) (apart k row.0 (λ is. out ins.0.0 (is ∙ ins.0.1))) ∙ find_inside p k rows out ins.1

cond_none : (c : Bool) (node : Node) (o : Option Node) → cond c (Some node) o ≡ None → (c ≡ false) × (o ≡ None)
cond_none true node o is = absurd cc
cond_none false node o is = (refl, is)

-- rows among which nothing is found at or below q are outside
pub outside_found : (q : Path) (rows : List Row) → ((rest : Path) → find path_cmp (q ++ rest) rows ≡ None) → Outside q rows
outside_found q [] none = tt
outside_found q (row ∷ rows) none = (
  (λ rest is.
      let tied : eq_by_cmp path_cmp (q ++ rest) row.0
      ≡ true = ap is_eq (ap (path_cmp (q ++ rest)) is ∙ tied_itself path_total (q ++ rest)) in
      both_ways _ (cond_none _ row.1 _ (none rest)).0 tied),
  outside_found q rows (λ rest. (cond_none _ row.1 _ (none rest)).1),
)

-- ---- rows in order

pub sorted_front : (a b : List Row) → Rising (a ++ b) → Rising a
sorted_front [] b rising = refl
sorted_front (row ∷ a) b rising =
    both_true (below_front row.0 a b (first_so _ _ rising)) (sorted_front a b (second_so (below_all path_cmp row.0 (a ++ b)) _ rising))
  where
    below_front : (k : Path) (a b : List Row) → AllAfter k (a ++ b) → AllAfter k a
    below_front k [] b below = refl
    below_front k (row ∷ a) b below = both_true (first_so _ _ below) (below_front k a b (second_so (is_lt (path_cmp k row.0)) _ below))

pub sorted_back : (a b : List Row) → Rising (a ++ b) → Rising b
sorted_back [] b rising = rising
sorted_back (row ∷ a) b rising = sorted_back a b (second_so (below_all path_cmp row.0 (a ++ b)) _ rising)

-- each row of the first list comes before all of the second
abbrev pub Before : List Row → List Row → Type 0
Before [] b = Unit {0}
Before (row ∷ a) b = AllAfter row.0 b × Before a b

pub below_join : (k : Path) (a b : List Row) → AllAfter k a → AllAfter k b → AllAfter k (a ++ b)
below_join k [] b left right = right
below_join k (row ∷ a) b left right =
    both_true (first_so _ _ left) (below_join k a b (second_so (is_lt (path_cmp k row.0)) _ left) right)

pub sorted_join : (a b : List Row) → Rising a → Rising b → Before a b → Rising (a ++ b)
sorted_join [] b left right before = right
sorted_join (row ∷ a) b left right before =
    both_true (below_join row.0 a b (first_so _ _ left) before.0)
    (sorted_join a b (second_so (below_all path_cmp row.0 a) _ left) right before.1)

-- what comes before p comes before all rows at or below it
pub below_inside : (k p : Path) (rows : List Row) → path_cmp k p ≡ Less → Inside p rows → AllAfter k rows
below_inside k p [] lt ins = refl
below_inside k p (row ∷ rows) lt ins =
    both_true (ap is_lt (ap (path_cmp k) ins.0.1 ∙ before_inside k p ins.0.0 lt)) (below_inside k p rows lt ins.1)

-- what is at or below p comes before all rows after p that are not
pub inside_below : (p rest : Path) (rows : List Row) → AllAfter p rows → Outside p rows → AllAfter (p ++ rest) rows
inside_below p rest [] below out = refl
inside_below p rest (row ∷ rows) below out =
    both_true (ap is_lt (behind_inside p rest row.0 (is_less _ (first_so _ _ below)) out.0))
    (inside_below p rest rows (second_so (is_lt (path_cmp p row.0)) _ below) out.1)

pub all_inside_below : (p : Path) (a b : List Row) → Inside p a → AllAfter p b → Outside p b → Before a b
all_inside_below p [] b ins below out = tt
all_inside_below p (row ∷ a) b ins below out =
    (subst (λ (path : Path). AllAfter path b) (sym ins.0.1) (inside_below p ins.0.0 b below out), all_inside_below p a b ins.1 below out)

pub before_all : (q : Path) (a b c : List Row) → AllBefore q a → Inside q b → AllAfter q c → Before a (b ++ c)
before_all q [] b c before ins below = tt
before_all q (row ∷ a) b c before ins below = (
  below_join row.0 b c (below_inside row.0 q b before.0 ins) (below_lower row.0 q c before.0 below),
  before_all q a b c before.1 ins below,
)

heads : (m n : List ℕ) (a b : Path) → m ∷ a ≡ n ∷ b → m ≡ n
heads m n a b is = cc

rest_of : (m n : List ℕ) (a b : Path) → m ∷ a ≡ n ∷ b → a ≡ b
rest_of m n a b is = cc

pub forked : (q p a b : Path) → IsOutside p q → IsOutside q p → q ++ a ≢ p ++ b
forked [] p a b out back is = back p refl
forked (m ∷ q) [] a b out back is = out (m ∷ q) refl
forked (m ∷ q) (n ∷ p) a b out back is =
    let head = heads m n (q ++ a) (p ++ b) is in
    forked q p a b (λ rest here. out rest (λ i. head i ∷ here i)) (λ rest here. back rest (λ i. sym head i ∷ here i))
    (rest_of m n (q ++ a) (p ++ b) is)

-- ---- the rows after a path: first those below it, then the others

pub within_more : (p : Path) (row : Row) (rows : List Row) → starts_with bytes_eq row.0 p ≡ true
    → prefix_len (is_within p) (row ∷ rows) ≡ suc (prefix_len (is_within p) rows)
within_more p row rows test = ap (λ b. cond b (1 + prefix_len (is_within p) rows) 0) test ∙ one_more_is (prefix_len (is_within p) rows)
  where
    one_more_is : (n : ℕ) → 1 + n ≡ suc n
    one_more_is n = omega arith

pub within_none : (p : Path) (row : Row) (rows : List Row) → starts_with bytes_eq row.0 p ≡ false
    → prefix_len (is_within p) (row ∷ rows) ≡ 0
within_none p row rows test = ap (λ b. cond b (1 + prefix_len (is_within p) rows) 0) test

-- rows, cut at the first one that is not below a path
abbrev pub Parted : Path → List Row → ℕ → Type 0
Parted p rows n = Inside p (take n rows) × Outside p (drop n rows)

pub parts : (p : Path) (rows : List Row) → AllAfter p rows → Rising rows → Parted p rows (prefix_len (is_within p) rows)
parts p [] below rising = (tt, tt)
parts p (row ∷ rows) below rising = elim (side p row.0) [
  | inside rest is test ↦
      let more = parts p rows (second_so (is_lt (path_cmp p row.0)) _ below) (second_so (below_all path_cmp row.0 rows) _ rising) in
      subst (Parted p (row ∷ rows)) (sym (within_more p row rows test)) (((rest, is), more.0), more.1)
  | outside away test ↦
      subst (Parted p (row ∷ rows)) (sym (within_none p row rows test))
      (tt, (away, outside_behind p row.0 rows (is_less _ (first_so _ _ below)) away (first_so _ _ rising)))
]

-- a row within and the rest, the path's own row in front
