-- What is kept of the paths above a row, in a pass over the rows of a tree.
use Rattle.iot_tree.specs.Place.{AllBefore}
use Rattle.std.proofs.Common.{◌≡◌, ◌≢◌, ◌⊎◌, ℕ, zero, suc, ◌+◌, ◌-◌, ◌<◌, nat_eq, drop, get_or, true, false, IsTrue, IsSome, List}
use Rattle.std.proofs.Common.{[], ◌∷◌, ◌++◌, map, Option, Some, None, length, length-append, take, append_assoc, refl, sym, ap, subst, ◌∙◌}
use Rattle.std.proofs.Common.{inl, inr, arith}
use Rattle.std.proofs.lemmas.List.{append-nil, take-map, map-append, take_more, drop_more, take-append-drop}
use Rattle.std.proofs.lemmas.Bool.Decides.{eqb_tells}
use Rattle.std.specs.declared.cmp.Ordering.TheVariants.{Less}
use Rattle.std.specs.Ordering.{is_lt}
use Rattle.std.specs.FinMap.{get, from_sorted, is_sorted}
use Rattle.iot_text.specs.Paths.{path_cmp, prefixes}
use Rattle.iot_tree.specs.Ancestors.{proper_prefixes}
use Rattle.iot_tree.specs.Rows.{AreTreeRows}
use Rattle.iot_tree.specs.declared.nodes.Node.{Node}
use Rattle.iot_tree.specs.declared.nodes.Node.TheVariants.{Dir}
use Rattle.iot_text.proofs.PathsLaws.{between, above_first}
use Rattle.iot_tree.proofs.AncestorLaws.{ends, at_root, in_name}
use Rattle.iot_tree.proofs.PathLaws.{order, lower, same, higher}
use Rattle.iot_tree.proofs.PlaceLaws.{find_gap, front_before, before_higher, before_push, below_lower, back_after, last_before}
use Rattle.iot_tree.proofs.RowLaws.{get_rows, get_middle}
use Rattle.iot_tree.proofs.TreeLaws.{ancestors}
use Rattle.iot_tree.specs.Tree.{Row, Path}
use Rattle.std.specs.Cmp.Derive.{both_true}
use Rattle.iot_stamp.proofs.RefreshLaws.{is_some_of}

-- the paths above a path with a name more are it and those above it
pub above_push : (q : Path) (name : List ℕ) → proper_prefixes (q ++ name ∷ []) ≡ prefixes q
above_push [] name = refl
above_push (a ∷ q) name = ap (λ (paths : List Path). [] ∷ map (λ path. a ∷ path) paths) (above_push q name)

pub prefixes_end : (p : Path) → prefixes p ≡ proper_prefixes p ++ p ∷ []
prefixes_end [] = refl
prefixes_end (a ∷ p) =
    ap (λ (paths : List Path). [] ∷ map (λ path. a ∷ path) paths) (prefixes_end p)
    ∙ ap (λ (paths : List Path). [] ∷ paths) (map-append (λ (path : Path). a ∷ path) (proper_prefixes p) (p ∷ []))

take_prefixes : (q rest : Path) → take (suc (length q)) (prefixes (q ++ rest)) ≡ prefixes q
take_prefixes [] [] = refl
take_prefixes [] (a ∷ rest) = refl
take_prefixes (a ∷ q) rest =
    ap (λ (paths : List Path). [] ∷ paths)
    (take-map (λ (path : Path). a ∷ path) (suc (length q)) (prefixes (q ++ rest)) ∙ ap (map (λ path. a ∷ path)) (take_prefixes q rest))

-- the row before a row is its parent's, or lies below its parent
module _ (front : List Row) (last row : Row) (back : List Row) (all : AreTreeRows ((front ++ last ∷ []) ++ row ∷ back)) where
  pub after_last : (q : Path) (name : List ℕ) → row.0 ≡ q ++ name ∷ [] → (rest : Path) × (last.0 ≡ q ++ rest)
  after_last q name is = elim (order q last.0) [
    | same here ↦ ([], sym here ∙ sym (append-nil q))
    | lower lt ↦ let found = between q last.0 (name ∷ []) lt (subst (λ (p : Path). path_cmp last.0 p ≡ Less) is rises) in
        (found.0 ∷ found.1, found.2)
    | higher lt ↦
        let below : path_cmp q row.0 ≡ Less = subst (λ (p : Path). path_cmp q p ≡ Less) (sym is) (above_first q name []) in
        let none =
        find_gap q (front ++ last ∷ []) (row ∷ back) (before_push q front last (before_higher last.0 q front lt (last_front)) lt)
        (both_true (ap is_lt below) (below_lower q row.0 back below (back_after (front ++ last ∷ []) row back all.rising))) in
        absurd (lacks (get_rows ((front ++ last ∷ []) ++ row ∷ back) all.rising q ∙ none) known)
  ]
    where
      rises : path_cmp last.0 row.0 ≡ Less
      rises = last_before row.0 front last (front_before (front ++ last ∷ []) row back all.rising)

      last_front : AllBefore last.0 front
      last_front =
          front_before front last (row ∷ back)
          (subst (λ (rows : List Row). IsTrue (is_sorted path_cmp rows)) (append_assoc front (last ∷ []) (row ∷ back)) all.rising)

      known : get (from_sorted {R = path_cmp} ((front ++ last ∷ []) ++ row ∷ back)) q ≡ Some Dir
      known =
          ancestors (from_sorted ((front ++ last ∷ []) ++ row ∷ back)) all.tree q name []
          (subst (λ (p : Path). IsSome (get (from_sorted {R = path_cmp} ((front ++ last ∷ []) ++ row ∷ back)) p)) is
          (is_some_of _ row.1 (get_middle (front ++ last ∷ []) row back all.rising)))

      lacks : get (from_sorted {R = path_cmp} ((front ++ last ∷ []) ++ row ∷ back)) q ≡ None
          → get (from_sorted {R = path_cmp} ((front ++ last ∷ []) ++ row ∷ back)) q ≡ Some Dir → ⊥
      lacks none some = let never : ◌≡◌ {A = Option Node} None (Some Dir) = sym none ∙ some in cc

  -- what is kept of the paths down to the last row, cut to the paths above the row
  pub stack_cut : {V : Type 0} (f : Path → V) → row.0 ≢ [] → take (length row.0) (map f (prefixes last.0)) ≡ map f (proper_prefixes row.0)
  stack_cut f below = elim (ends row.0) [
    | at_root is ↦ absurd (below is)
    | in_name q name is ↦
        let found = after_last q name is in
        let long : length row.0 ≡ suc (length q) = omega (arith, ap length is, length-append q (name ∷ [])) in
        take-map f (length row.0) (prefixes last.0)
        ∙ ap (map f)
        ((λ i. take (long i) (prefixes (found.1 i))) ∙ take_prefixes q found.0 ∙ sym (above_push q name) ∙ ap proper_prefixes (sym is))
  ]

-- the first row of a tree is the root's
module _ (row : Row) (back : List Row) (all : AreTreeRows (row ∷ back)) where
  pub first_root : row.0 ≡ []
  first_root = elim (ends row.0) [
    | at_root is ↦ is
    | in_name q name is ↦
        let below : path_cmp q row.0 ≡ Less = subst (λ (p : Path). path_cmp q p ≡ Less) (sym is) (above_first q name []) in
        let none =
        find_gap q [] (row ∷ back) tt
        (both_true (ap is_lt below) (below_lower q row.0 back below (back_after [] row back all.rising))) in
        let known : get (from_sorted {R = path_cmp} (row ∷ back)) q
        ≡ Some Dir =
        ancestors (from_sorted (row ∷ back)) all.tree q name []
        (subst (λ (p : Path). IsSome (get (from_sorted {R = path_cmp} (row ∷ back)) p)) is
        (is_some_of _ row.1 (get_middle [] row back all.rising))) in
        let never : ◌≡◌ {A = Option Node} None (Some Dir) = sym (get_rows (row ∷ back) all.rising q ∙ none) ∙ known in absurd cc
  ]

-- what is kept after some rows: nothing at first, then what the last row's path and those above it give
pub record Stacked {V : Type 0} (f : Path → V) (rows : List Row) (i : ℕ) (stack : List V) : Type 0 where
  pub first : i ≡ 0 → stack ≡ []
  pub later : 0 < i → (last : Row) → last ≡ get_or rows (i - 1) last → stack ≡ map f (prefixes last.0)

module _ {V : Type 0} (f : Path → V) (rows : List Row) (all : AreTreeRows rows) (i : ℕ) (row : Row) (lt : i < length rows)
    (is : row ≡ get_or rows i row) (stack : List V) (stacked : Stacked f rows i stack) where
  parts : rows ≡ take i rows ++ row ∷ drop (i + 1) rows
  parts =
      sym (take-append-drop i rows)
      ∙ ap (λ (back : List Row). take i rows ++ back) (drop_more rows i row lt ∙ ap (λ (r : Row). r ∷ drop (i + 1) rows) (sym is))

  at_first : i ≡ 0 → take (length row.0) stack ≡ map f (proper_prefixes row.0)
  at_first first =
      let whole : rows ≡ row ∷ drop (i + 1) rows = parts ∙ ap (λ (n : ℕ). take n rows ++ row ∷ drop (i + 1) rows) first in
      let root = first_root row (drop (i + 1) rows) (subst AreTreeRows whole all) in
      ap (λ (p : Path). take (length p) stack) root ∙ ap (λ (p : Path). map f (proper_prefixes p)) (sym root)

  not_first : 0 < i → take (length row.0) stack ≡ map f (proper_prefixes row.0)
  not_first later =
      let last : Row = get_or rows (i - 1) row in
      let is_last : last ≡ get_or rows (i - 1) last = get_or_same rows (i - 1) row last (omega (arith, later, lt)) in
      let front : take i rows ≡ take (i - 1) rows ++ last ∷ [] =
      subst (λ (n : ℕ). take n rows ≡ take (i - 1) rows ++ last ∷ []) {x = i - 1 + 1} {y = i} (omega (arith, later))
      (take_more rows (i - 1) row (omega (arith, later, lt))) in
      let whole : rows ≡ (take (i - 1) rows ++ last ∷ []) ++ row ∷ drop (i + 1) rows = parts
      ∙ ap (λ (x : List Row). x ++ row ∷ drop (i + 1) rows) front in
      let cut = stacked.later later last is_last in
      ap (take (length row.0)) cut
      ∙ stack_cut (take (i - 1) rows) last row (drop (i + 1) rows) (subst AreTreeRows whole all) f (below whole)
    where
      get_or_same : (xs : List Row) (n : ℕ) (d e : Row) → n < length xs → get_or xs n d ≡ get_or xs n e
      get_or_same [] n d e short = absurd (omega (arith, short))
      get_or_same (x ∷ xs) zero d e short = refl
      get_or_same (x ∷ xs) (suc n) d e short = get_or_same xs n d e (omega (arith, short))

      not_root : (p : Path) → path_cmp p [] ≡ Less → ⊥
      not_root [] less = cc
      not_root (name ∷ p) less = cc

      below : rows ≡ (take (i - 1) rows ++ get_or rows (i - 1) row ∷ []) ++ row ∷ drop (i + 1) rows → row.0 ≢ []
      below whole root =
          let rising = subst (λ (r : List Row). IsTrue (is_sorted path_cmp r)) whole all.rising in
          let less =
          last_before row.0 (take (i - 1) rows) (get_or rows (i - 1) row)
          (front_before (take (i - 1) rows ++ get_or rows (i - 1) row ∷ []) row (drop (i + 1) rows) rising) in
          not_root (get_or rows (i - 1) row).0 (subst (λ (p : Path). path_cmp (get_or rows (i - 1) row).0 p ≡ Less) root less)

  -- cut to the row's depth, it is what the paths above the row give
  pub cut_is : take (length row.0) stack ≡ map f (proper_prefixes row.0)
  cut_is = by (eqb_tells i 0)
    where
      by : ((nat_eq i 0 ≡ true) × (i ≡ 0)) ⊎ ((nat_eq i 0 ≡ false) × (i ≢ 0)) → take (length row.0) stack ≡ map f (proper_prefixes row.0)
      by (inl first) = at_first first.1
      by (inr later) = not_first (omega (arith, later.1))

  -- and with what the row's own path gives it serves the next row
  pub next_is : Stacked f rows (i + 1) (take (length row.0) stack ++ f row.0 ∷ [])
  next_is = record {
    first = λ none. absurd (omega (arith, none));
    later = λ some last is_last.
        let here : last ≡ row = is_last ∙ ap (λ (n : ℕ). get_or rows n last) {x = i + 1 - 1} {y = i} (omega arith)
        ∙ same_read rows i last row lt ∙ sym is in
        ap (λ (front : List V). front ++ f row.0 ∷ []) cut_is ∙ sym (map-append f (proper_prefixes row.0) (row.0 ∷ []))
        ∙ ap (map f) (sym (prefixes_end row.0) ∙ ap (λ (r : Row). prefixes r.0) (sym here));
  }
    where
      same_read : (xs : List Row) (n : ℕ) (d e : Row) → n < length xs → get_or xs n d ≡ get_or xs n e
      same_read [] n d e short = absurd (omega (arith, short))
      same_read (x ∷ xs) zero d e short = refl
      same_read (x ∷ xs) (suc n) d e short = same_read xs n d e (omega (arith, short))

pub stacked_none : {V : Type 0} (f : Path → V) (rows : List Row) (stack : List V) → stack ≡ [] → Stacked f rows 0 stack
stacked_none f rows stack none = record { first = λ zero_is. none; later = λ some last is. absurd (omega (arith, some)) }
