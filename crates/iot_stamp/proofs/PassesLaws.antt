-- Entries in order, gone through beside rows.
use Rattle.std.proofs.Common.{◌≡◌, ℕ, ◌+◌, ◌<◌, Bool, true, false, IsTrue, cond, List, [], ◌∷◌, ◌++◌, length, drop, get_or, Some, None}
use Rattle.std.proofs.Common.{refl, sym, ap, subst, ◌∙◌, ◌≤◌, arith, append_assoc, map, take}
use Rattle.std.proofs.lemmas.List.{append-nil, drop_more, take_more, map-append}
use Rattle.std.proofs.Math.Seq.{drop-length, take-length}
use Rattle.std.specs.declared.cmp.Ordering.TheVariants.{Less}
use Rattle.std.specs.Ordering.{is_lt, is_eq, eq_by_cmp, ordering_reverse}
use Rattle.std.specs.FinMap.{find, is_sorted}
use Rattle.std.specs.FinMap.Entries.{below_all}
use Rattle.iot_text.specs.Paths.{path_cmp}
use Rattle.iot_prune.proofs.WalkLaws.{tie}
use Rattle.iot_text.proofs.PathsLaws.{path_total}
use Rattle.iot_tree.proofs.PathLaws.{order, lower, same, higher, tied}
use Rattle.iot_tree.proofs.PlaceLaws.{is_less}
use Rattle.iot_tree.proofs.TreeLaws.{apart}
use Rattle.iot_tree.proofs.WithinLaws.{not_less}
use Rattle.iot_tree.specs.Tree.{Path}
use Rattle.std.specs.Cmp.{first_so, second_so, tied_itself}
use Rattle.std.specs.Cmp.Derive.{both_true}
use Rattle.iot_stamp.specs.Passes.{before_key, from_key, head_at, after_head}
use Rattle.iot_stamp.proofs.FoundLaws.{none_after}

module _ {V : Type 0} (p : Path) where
  pub from_skip : (es : List (Path × V)) (i : ℕ) (e : Path × V) → i < length es → e ≡ get_or es i e → is_lt (path_cmp e.0 p) ≡ true
      → from_key p (drop i es) ≡ from_key p (drop (i + 1) es)
  from_skip es i e lt is less = ap (from_key p) (drop_more es i e lt ∙ ap (λ (x : Path × V). x ∷ drop (i + 1) es) (sym is)) ∙ rw less refl

  pub from_stop : (es : List (Path × V)) (i : ℕ) (e : Path × V) → i < length es → e ≡ get_or es i e → is_lt (path_cmp e.0 p) ≡ false
      → from_key p (drop i es) ≡ drop i es
  from_stop es i e lt is less =
      let parts : drop i es ≡ e ∷ drop (i + 1) es = drop_more es i e lt ∙ ap (λ (x : Path × V). x ∷ drop (i + 1) es) (sym is) in
      ap (from_key p) parts ∙ rw less refl ∙ sym parts

  pub from_end : (es : List (Path × V)) → from_key p (drop (length es) es) ≡ drop (length es) es
  from_end es = ap (from_key p) (drop-length es) ∙ sym (drop-length es)

  pub find_from : (q : Path) → path_cmp p q ≡ Less → (es : List (Path × V)) → find path_cmp q (from_key p es) ≡ find path_cmp q es
  find_from q later [] = refl
  find_from q later (e ∷ es) = by (find_from q later es) (is_lt (path_cmp e.0 p)) refl
    where
      passed : path_cmp e.0 p ≡ Less → eq_by_cmp path_cmp q e.0 ≡ false
      passed before =
          apart q e.0 (λ is. not_less e.0 (path_total.trans e.0 p e.0 before (subst (λ (path : Path). path_cmp p path ≡ Less) is later)))

      by : find path_cmp q (from_key p es) ≡ find path_cmp q es → (b : Bool) → is_lt (path_cmp e.0 p) ≡ b
          → find path_cmp q (from_key p (e ∷ es)) ≡ find path_cmp q (e ∷ es)
      by rest true is = rw (is, passed (is_less _ is)) rest
      by rest false is = rw is refl

  pub sorted_from : (es : List (Path × V)) → IsTrue (is_sorted path_cmp es) → IsTrue (is_sorted path_cmp (from_key p es))
  sorted_from [] all = all
  sorted_from (e ∷ es) all = by (sorted_from es (second_so (below_all path_cmp e.0 es) _ all)) (is_lt (path_cmp e.0 p)) refl
    where
      by : IsTrue (is_sorted path_cmp (from_key p es)) → (b : Bool) → is_lt (path_cmp e.0 p) ≡ b
          → IsTrue (is_sorted path_cmp (from_key p (e ∷ es)))
      by rest true is = rw is rest
      by rest false is = rw is all

  below_later : (q : Path) → path_cmp p q ≡ Less → (es : List (Path × V)) → IsTrue (below_all path_cmp q es)
      → IsTrue (below_all path_cmp p es)
  below_later q less [] all = all
  below_later q less (e ∷ es) all =
      both_true (ap is_lt (path_total.trans p q e.0 less (is_less _ (first_so (is_lt (path_cmp q e.0)) _ all))))
      (below_later q less es (second_so (is_lt (path_cmp q e.0)) _ all))

  -- entries that begin with a key have none before it
  pub first_here : (es : List (Path × V)) (v : V) → head_at p es ≡ Some v → (from_key p es ≡ es) × (before_key p es ≡ [])
  first_here [] v first = absurd cc
  first_here (e ∷ es) v first = by (eq_by_cmp path_cmp p e.0) refl
    where
      by : (b : Bool) → eq_by_cmp path_cmp p e.0 ≡ b → (from_key p (e ∷ es) ≡ e ∷ es) × (before_key p (e ∷ es) ≡ [])
      by true here =
          let kept : is_lt (path_cmp e.0 p) ≡ false =
          ap is_lt (ap (path_cmp e.0) (tied p e.0 here) ∙ tied_itself path_total e.0) in
          (rw kept refl, rw kept refl)
      by false away = let never : None ≡ Some v = rw away at first in absurd cc

  -- a key that is among the rest comes first
  pub head_from : (es : List (Path × V)) → IsTrue (is_sorted path_cmp es) → head_at p (from_key p es) ≡ find path_cmp p es
  head_from [] all = refl
  head_from (e ∷ es) all = elim (order p e.0) [
    | lower less ↦
        let kept : is_lt (path_cmp e.0 p) ≡ false = ap is_lt (path_total.antisymm e.0 p ∙ ap ordering_reverse less) in
        let away : eq_by_cmp path_cmp p e.0
        ≡ false = apart p e.0 (λ is. not_less p (subst (λ (path : Path). path_cmp p path ≡ Less) (sym is) less)) in
        rw (kept, away) (sym (none_after p es (below_later e.0 less es (first_so (below_all path_cmp e.0 es) _ all))))
    | same is ↦
        let kept : is_lt (path_cmp e.0 p) ≡ false = ap is_lt (ap (path_cmp e.0) is ∙ tied_itself path_total e.0) in
        rw (kept, tie p e.0 is) refl
    | higher less ↦
        let skipped : is_lt (path_cmp e.0 p) ≡ true = ap is_lt less in
        let away : eq_by_cmp path_cmp p e.0
        ≡ false = apart p e.0 (λ is. not_less e.0 (subst (λ (path : Path). path_cmp e.0 path ≡ Less) is less)) in
        rw (skipped, away) (head_from es (second_so (below_all path_cmp e.0 es) _ all))
  ]

  -- the rest after an entry of that key
  pub rest_after : (es : List (Path × V)) → IsTrue (is_sorted path_cmp es) → IsTrue (below_all path_cmp p (after_head p (from_key p es)))
  rest_after [] all = refl
  rest_after (e ∷ es) all = elim (order p e.0) [
    | lower less ↦
        let kept : is_lt (path_cmp e.0 p) ≡ false = ap is_lt (path_total.antisymm e.0 p ∙ ap ordering_reverse less) in
        let away : eq_by_cmp path_cmp p e.0 ≡ false = ap is_eq less in
        rw (kept, away) (both_true (ap is_lt less) (below_later e.0 less es (first_so (below_all path_cmp e.0 es) _ all)))
    | same is ↦
        let kept : is_lt (path_cmp e.0 p) ≡ false = ap is_lt (ap (path_cmp e.0) is ∙ tied_itself path_total e.0) in
        rw (kept, tie p e.0 is)
        (subst (λ (path : Path). IsTrue (below_all path_cmp path es)) (sym is) (first_so (below_all path_cmp e.0 es) _ all))
    | higher less ↦
        let skipped : is_lt (path_cmp e.0 p) ≡ true = ap is_lt less in
        rw skipped (rest_after es (second_so (below_all path_cmp e.0 es) _ all))
  ]

  pub find_after_head : (q : Path) → path_cmp p q ≡ Less → (es : List (Path × V)) → find path_cmp q (after_head p es) ≡ find path_cmp q es
  find_after_head q later [] = refl
  find_after_head q later (e ∷ es) = by (eq_by_cmp path_cmp p e.0) refl
    where
      by : (b : Bool) → eq_by_cmp path_cmp p e.0 ≡ b → find path_cmp q (after_head p (e ∷ es)) ≡ find path_cmp q (e ∷ es)
      by false away = rw away refl
      by true here =
          let other : eq_by_cmp path_cmp q e.0 ≡ false = apart q e.0 (λ is.
          not_less p (subst (λ (path : Path). path_cmp p path ≡ Less) (is ∙ sym (tied p e.0 here)) later)) in
          rw (here, other) refl

  pub sorted_after_head : (es : List (Path × V)) → IsTrue (is_sorted path_cmp es) → IsTrue (is_sorted path_cmp (after_head p es))
  sorted_after_head [] all = all
  sorted_after_head (e ∷ es) all =
      elim (eq_by_cmp path_cmp p e.0) as (λ (b : Bool). IsTrue (is_sorted path_cmp (cond b es (e ∷ es)))) [
        | true ↦ second_so (below_all path_cmp e.0 es) _ all
        | false ↦ all
      ]

  pub key_parts : (es : List (Path × V)) → before_key p es ++ from_key p es ≡ es
  key_parts [] = refl
  key_parts (e ∷ es) = by (key_parts es) (is_lt (path_cmp e.0 p)) refl
    where
      by : before_key p es ++ from_key p es ≡ es → (b : Bool) → is_lt (path_cmp e.0 p) ≡ b
          → before_key p (e ∷ es) ++ from_key p (e ∷ es) ≡ e ∷ es
      by rest true is = rw is (ap (λ (x : List (Path × V)). e ∷ x) rest)
      by rest false is = rw is refl

-- ---- paths that are passed

module _ {V : Type 0} (p : Path) (es : List (Path × V)) where
  read : (i : ℕ) (e : Path × V) → i < length es → e ≡ get_or es i e → drop i es ≡ e ∷ drop (i + 1) es
  read i e lt is = drop_more es i e lt ∙ ap (λ (x : Path × V). x ∷ drop (i + 1) es) (sym is)

  abbrev paths : List (Path × V) → List Path
  paths list = map (λ (e : Path × V). e.0) list

  pub passed_skip : (i : ℕ) (e : Path × V) (copy : Path) (start out new : List Path) → i < length es → e ≡ get_or es i e
      → is_lt (path_cmp e.0 p) ≡ true → copy ≡ e.0 → start ++ paths (before_key p es) ≡ out ++ paths (before_key p (drop i es))
      → new ≡ out ++ copy ∷ [] → start ++ paths (before_key p es) ≡ new ++ paths (before_key p (drop (i + 1) es))
  passed_skip i e copy start out new lt is less copied so_far pushed =
      let one : before_key p (drop i es) ≡ e ∷ before_key p (drop (i + 1) es) = ap (before_key p) (read i e lt is) ∙ rw less refl in
      so_far ∙ ap (λ (rest : List (Path × V)). out ++ paths rest) one
      ∙ sym (append_assoc out (e.0 ∷ []) (paths (before_key p (drop (i + 1) es))))
      ∙ ap (λ (x : List Path). x ++ paths (before_key p (drop (i + 1) es)))
      (ap (λ (q : Path). out ++ q ∷ []) (sym copied) ∙ sym pushed)

  pub passed_stop : (i : ℕ) (e : Path × V) (start out : List Path) → i < length es → e ≡ get_or es i e → is_lt (path_cmp e.0 p) ≡ false
      → start ++ paths (before_key p es) ≡ out ++ paths (before_key p (drop i es)) → out ≡ start ++ paths (before_key p es)
  passed_stop i e start out lt is less so_far =
      let none : before_key p (drop i es) ≡ [] = ap (before_key p) (read i e lt is) ∙ rw less refl in
      sym (so_far ∙ ap (λ (rest : List (Path × V)). out ++ paths rest) none ∙ append-nil out)

  pub passed_end : (start out : List Path) (i : ℕ) → length es ≤ i → i ≤ length es
      → start ++ paths (before_key p es) ≡ out ++ paths (before_key p (drop i es)) → out ≡ start ++ paths (before_key p es)
  passed_end start out i long short so_far =
      let end : i ≡ length es = omega (arith, long, short) in
      let none : before_key p (drop i es) ≡ [] = ap (before_key p) (ap (λ (n : ℕ). drop n es) end ∙ drop-length es) in
      sym (so_far ∙ ap (λ (rest : List (Path × V)). out ++ paths rest) none ∙ append-nil out)

module _ {V : Type 0} (start : List Path) (es : List (Path × V)) where
  pub path_taken : (i : ℕ) (e : Path × V) (copy : Path) (out new : List Path) → i < length es → e ≡ get_or es i e → copy ≡ e.0
      → out ≡ start ++ map (λ (e : Path × V). e.0) (take i es) → new ≡ out ++ copy ∷ []
      → new ≡ start ++ map (λ (e : Path × V). e.0) (take (i + 1) es)
  path_taken i e copy out new lt is copied so_far pushed =
      pushed ∙ (λ j. so_far j ++ copied j ∷ []) ∙ append_assoc start (map (λ (e : Path × V). e.0) (take i es)) (e.0 ∷ [])
      ∙ ap (λ (rest : List Path). start ++ rest)
      (sym (map-append (λ (e : Path × V). e.0) (take i es) (e ∷ []))
      ∙ ap (map (λ (e : Path × V). e.0)) (sym (take_more es i e lt ∙ ap (λ (x : Path × V). take i es ++ x ∷ []) (sym is))))

  pub paths_taken : (i : ℕ) (out : List Path) → length es ≤ i → i ≤ length es → out ≡ start ++ map (λ (e : Path × V). e.0) (take i es)
      → out ≡ start ++ map (λ (e : Path × V). e.0) es
  paths_taken i out long short so_far =
      let end : i ≡ length es = omega (arith, long, short) in
      so_far
      ∙ ap (λ (list : List (Path × V)). start ++ map (λ (e : Path × V). e.0) list)
      (ap (λ (n : ℕ). take n es) end ∙ take-length es)
