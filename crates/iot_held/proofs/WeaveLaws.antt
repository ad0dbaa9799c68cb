-- Two lists of entries woven into one.
use Rattle.std.proofs.Common.{◌≡◌, ◌⊎◌, Bool, true, false, cond, not, ◌&&◌, IsTrue, List, [], ◌∷◌, ◌++◌, Option, Some, None, is_some}
use Rattle.std.proofs.Common.{refl, sym, ap, subst, ◌∙◌, inl, inr}
use Rattle.std.proofs.lemmas.Bool.{both_ways}
use Rattle.iot_prune.proofs.WalkLaws.{tie}
use Rattle.std.specs.Option.{option_or}
use Rattle.std.specs.declared.cmp.Ordering.TheVariants.{Less}
use Rattle.std.specs.Ordering.{is_lt, eq_by_cmp}
use Rattle.std.specs.List.{filter}
use Rattle.std.specs.FinMap.{find, is_sorted, entries, entries_sorted, get-entries, get-from_entries}
use Rattle.std.specs.FinMap.Entries.{below_all, same_entries}
use Rattle.iot_text.specs.Paths.{path_cmp}
use Rattle.iot_text.proofs.PathsLaws.{path_total, path_same}
use Rattle.iot_tree.proofs.PathLaws.{order, lower, same, higher}
use Rattle.iot_tree.proofs.PlaceLaws.{is_less}
use Rattle.iot_tree.proofs.TreeLaws.{apart, same_or_apart}
use Rattle.iot_tree.proofs.WithinLaws.{not_less}
use Rattle.iot_tree.specs.Tree.{Path}
use Rattle.std.specs.Cmp.{first_so, second_so}
use Rattle.std.specs.Cmp.Derive.{both_true}
use Rattle.iot_stamp.specs.Passes.{before_key, from_key, head_at}
use Rattle.iot_held.specs.Weave.{own, woven}
use Rattle.iot_stamp.proofs.FoundLaws.{found_here, find_either, never}
use Rattle.iot_stamp.proofs.PassesLaws.{sorted_from, head_from, key_parts}
use Rattle.iot_stamp.specs.Stamps.{Entry, Stamps}
use Rattle.iot_tree.proofs.RowLaws.{tested, is_tested}
use Rattle.iot_stamp.specs.Refresh.{stays, joined}

module _ {V : Type 0} where
  or_assoc : (a b c : Option V) → option_or (option_or a b) c ≡ option_or a (option_or b c)
  or_assoc None b c = refl
  or_assoc (Some v) b c = refl

  or_none : (a : Option V) → option_or a None ≡ a
  or_none None = refl
  or_none (Some v) = refl

  -- what comes before p is not p
  none_before : (p : Path) (es : List (Path × V)) → find path_cmp p (before_key p es) ≡ None
  none_before p [] = refl
  none_before p (e ∷ es) = by (none_before p es) (is_lt (path_cmp e.0 p)) refl
    where
      by : find path_cmp p (before_key p es) ≡ None → (b : Bool) → is_lt (path_cmp e.0 p) ≡ b
          → find path_cmp p (before_key p (e ∷ es)) ≡ None
      by rest true is =
          rw (is, apart p e.0 (λ here. not_less p (subst (λ (path : Path). path_cmp path p ≡ Less) (sym here) (is_less _ is)))) rest
      by rest false is = rw is refl

  find_from_same : (p : Path) (es : List (Path × V)) → find path_cmp p (from_key p es) ≡ find path_cmp p es
  find_from_same p es =
      ap (λ (o : Option V). option_or o (find path_cmp p (from_key p es))) (sym (none_before p es))
      ∙ sym (find_either p (before_key p es) (from_key p es)) ∙ ap (find path_cmp p) (key_parts p es)

  module _ (keep : Path × V → Bool) where
    -- what is found: the second list's entry, or else the first's that is kept
    pub find_woven : (hs es : List (Path × V)) → IsTrue (is_sorted path_cmp es) → (p : Path)
        → find path_cmp p (woven keep hs es) ≡ option_or (find path_cmp p es) (find path_cmp p (filter keep hs))
    find_woven [] es rising p = sym (or_none (find path_cmp p es))
    find_woven (h ∷ hs) es rising p =
        find_either p (before_key h.0 es) _
        ∙ ap (option_or (find path_cmp p (before_key h.0 es)))
        (find_either p (own (keep h) h (from_key h.0 es)) _
        ∙ ap (option_or (find path_cmp p (own (keep h) h (from_key h.0 es))))
        (find_woven hs (from_key h.0 es) (sorted_from h.0 es rising) p))
        ∙ by (keep h) refl (same_or_apart p h.0)
        ∙ ap (λ (o : Option V). option_or o (find path_cmp p (filter keep (h ∷ hs))))
        (sym (find_either p (before_key h.0 es) (from_key h.0 es)) ∙ ap (find path_cmp p) (key_parts h.0 es))
      where
        B : Option V
        B = find path_cmp p (before_key h.0 es)

        F : Option V
        F = find path_cmp p (from_key h.0 es)

        L : Option V
        L = find path_cmp p (filter keep hs)

        plain : find path_cmp p (own (keep h) h (from_key h.0 es)) ≡ None → find path_cmp p (filter keep (h ∷ hs)) ≡ L
            → option_or B (option_or (find path_cmp p (own (keep h) h (from_key h.0 es))) (option_or F L))
            ≡ option_or (option_or B F) (find path_cmp p (filter keep (h ∷ hs)))
        plain none rest =
            ap (λ (o : Option V). option_or B (option_or o (option_or F L))) none ∙ sym (or_assoc B F L)
            ∙ ap (option_or (option_or B F)) (sym rest)

        own_away : (b c : Bool) → eq_by_cmp path_cmp p h.0 ≡ false → find path_cmp p (cond (b && not c) (h ∷ []) []) ≡ None
        own_away true true away = refl
        own_away true false away = rw away refl
        own_away false c away = refl

        here_by : p ≡ h.0 → keep h ≡ true → (o : Option V) → head_at h.0 (from_key h.0 es) ≡ o
            → option_or B (option_or (find path_cmp p (own (keep h) h (from_key h.0 es))) (option_or F L))
            ≡ option_or (option_or B F) (find path_cmp p (filter keep (h ∷ hs)))
        here_by here kept None is =
            let b_none : B ≡ None = ap (λ (path : Path). find path_cmp path (before_key h.0 es)) here ∙ none_before h.0 es in
            let f_none : F ≡ None = ap (λ (path : Path). find path_cmp path (from_key h.0 es)) here ∙ find_from_same h.0 es
            ∙ sym (head_from h.0 es rising) ∙ is in
            let pushed : (keep h && not (is_some (head_at h.0 (from_key h.0 es)))) ≡ true = rw (kept, is) refl in
            let mine : find path_cmp p (own (keep h) h (from_key h.0 es))
            ≡ Some h.1 = ap (λ (c : Bool). find path_cmp p (cond c (h ∷ []) [])) pushed
            ∙ found_here p h [] here in
            let filtered : find path_cmp p (filter keep (h ∷ hs)) ≡ Some h.1 = rw kept (found_here p h (filter keep hs) here) in
            (λ i. option_or (b_none i) (option_or (mine i) (option_or F L)))
            ∙ sym (λ i. option_or (option_or (b_none i) (f_none i)) (filtered i))
        here_by here kept (Some v) is =
            let b_none : B ≡ None = ap (λ (path : Path). find path_cmp path (before_key h.0 es)) here ∙ none_before h.0 es in
            let f_some : F ≡ Some v = ap (λ (path : Path). find path_cmp path (from_key h.0 es)) here ∙ find_from_same h.0 es
            ∙ sym (head_from h.0 es rising) ∙ is in
            let mine : find path_cmp p (own (keep h) h (from_key h.0 es)) ≡ None = rw (kept, is) refl in
            (λ i. option_or (b_none i) (option_or (mine i) (option_or (f_some i) L)))
            ∙ sym (λ i. option_or (option_or (b_none i) (f_some i)) (find path_cmp p (filter keep (h ∷ hs))))

        by : (b : Bool) → keep h ≡ b → (p ≡ h.0) ⊎ (eq_by_cmp path_cmp p h.0 ≡ false)
            → option_or B (option_or (find path_cmp p (own (keep h) h (from_key h.0 es))) (option_or F L))
            ≡ option_or (option_or B F) (find path_cmp p (filter keep (h ∷ hs)))
        by false dropped side = plain (rw dropped refl) (rw dropped refl)
        by true kept (inl here) = here_by here kept (head_at h.0 (from_key h.0 es)) refl
        by true kept (inr away) = plain (own_away (keep h) (is_some (head_at h.0 (from_key h.0 es))) away) (rw (kept, away) refl)

    -- ---- the order

    below_join : (q : Path) (a b : List (Path × V)) → IsTrue (below_all path_cmp q a) → IsTrue (below_all path_cmp q b)
        → IsTrue (below_all path_cmp q (a ++ b))
    below_join q [] b left right = right
    below_join q (e ∷ a) b left right =
        both_true (first_so (is_lt (path_cmp q e.0)) _ left) (below_join q a b (second_so (is_lt (path_cmp q e.0)) _ left) right)

    below_own : (q : Path) (h : Path × V) → path_cmp q h.0 ≡ Less → (c : Bool) → IsTrue (below_all path_cmp q (cond c (h ∷ []) []))
    below_own q h less true = both_true (ap is_lt less) refl
    below_own q h less false = refl

    below_before : (q p : Path) (es : List (Path × V)) → IsTrue (below_all path_cmp q es) → IsTrue (below_all path_cmp q (before_key p es))
    below_before q p [] all = all
    below_before q p (e ∷ es) all = by (below_before q p es (second_so (is_lt (path_cmp q e.0)) _ all)) (is_lt (path_cmp e.0 p)) refl
      where
        by : IsTrue (below_all path_cmp q (before_key p es)) → (b : Bool) → is_lt (path_cmp e.0 p) ≡ b
            → IsTrue (below_all path_cmp q (before_key p (e ∷ es)))
        by rest true is = rw is (both_true (first_so (is_lt (path_cmp q e.0)) _ all) rest)
        by rest false is = rw is refl

    below_from : (q p : Path) (es : List (Path × V)) → IsTrue (below_all path_cmp q es) → IsTrue (below_all path_cmp q (from_key p es))
    below_from q p [] all = all
    below_from q p (e ∷ es) all = by (below_from q p es (second_so (is_lt (path_cmp q e.0)) _ all)) (is_lt (path_cmp e.0 p)) refl
      where
        by : IsTrue (below_all path_cmp q (from_key p es)) → (b : Bool) → is_lt (path_cmp e.0 p) ≡ b
            → IsTrue (below_all path_cmp q (from_key p (e ∷ es)))
        by rest true is = rw is rest
        by rest false is = rw is all

    -- what comes before both lists comes before the woven one
    below_woven : (q : Path) (hs es : List (Path × V)) → IsTrue (below_all path_cmp q hs) → IsTrue (below_all path_cmp q es)
        → IsTrue (below_all path_cmp q (woven keep hs es))
    below_woven q [] es left right = right
    below_woven q (h ∷ hs) es left right =
        below_join q (before_key h.0 es) _ (below_before q h.0 es right)
        (below_join q (own (keep h) h (from_key h.0 es)) _
        (below_own q h (is_less _ (first_so (is_lt (path_cmp q h.0)) _ left)) (keep h && not (is_some (head_at h.0 (from_key h.0 es)))))
        (below_woven q hs (from_key h.0 es) (second_so (is_lt (path_cmp q h.0)) _ left) (below_from q h.0 es right)))

    below_trans : (q x : Path) (es : List (Path × V)) → path_cmp q x ≡ Less → IsTrue (below_all path_cmp x es)
        → IsTrue (below_all path_cmp q es)
    below_trans q x [] less all = all
    below_trans q x (e ∷ es) less all =
        both_true (ap is_lt (path_total.trans q x e.0 less (is_less _ (first_so (is_lt (path_cmp x e.0)) _ all))))
        (below_trans q x es less (second_so (is_lt (path_cmp x e.0)) _ all))

    -- what does not come before p, and is not p, comes after it
    below_rest : (p : Path) (es : List (Path × V)) → IsTrue (is_sorted path_cmp es) → head_at p (from_key p es) ≡ None
        → IsTrue (below_all path_cmp p (from_key p es))
    below_rest p [] rising none = refl
    below_rest p (e ∷ es) rising none =
        by (below_rest p es (second_so (below_all path_cmp e.0 es) _ rising)) (is_lt (path_cmp e.0 p)) refl none
      where
        follows : eq_by_cmp path_cmp p e.0 ≡ false → is_lt (path_cmp e.0 p) ≡ false → path_cmp p e.0 ≡ Less
        follows away not_lt = elim (order p e.0) [
          | lower less ↦ less
          | same here ↦ absurd (both_ways _ away (tie p e.0 here))
          | higher less ↦ let never_both : true ≡ false = sym (ap is_lt less) ∙ not_lt in absurd cc
        ]

        away_of : (b : Bool) → eq_by_cmp path_cmp p e.0 ≡ b → cond (eq_by_cmp path_cmp p e.0) (Some e.1) None ≡ None
            → eq_by_cmp path_cmp p e.0 ≡ false
        away_of true here none = absurd (never e.1 (sym none ∙ ap (λ (c : Bool). cond c (Some e.1) None) here))
        away_of false away none = away

        by : (head_at p (from_key p es) ≡ None → IsTrue (below_all path_cmp p (from_key p es))) → (b : Bool) → is_lt (path_cmp e.0 p) ≡ b
            → head_at p (from_key p (e ∷ es)) ≡ None → IsTrue (below_all path_cmp p (from_key p (e ∷ es)))
        by later true is none = rw is (later (rw is at none))
        by later false is none =
            let less = follows (away_of (eq_by_cmp path_cmp p e.0) refl (rw is at none)) is in
            rw is (both_true (ap is_lt less) (below_trans p e.0 es less (first_so (below_all path_cmp e.0 es) _ rising)))

    -- entries before p in front of what comes after it
    sorted_front : (p : Path) (es rest : List (Path × V)) → IsTrue (is_sorted path_cmp es)
        → ((q : Path) → path_cmp q p ≡ Less → IsTrue (below_all path_cmp q (from_key p es)) → IsTrue (below_all path_cmp q rest))
        → IsTrue (is_sorted path_cmp rest) → IsTrue (is_sorted path_cmp (before_key p es ++ rest))
    sorted_front p [] rest rising below right = right
    sorted_front p (e ∷ es) rest rising below right =
        by (λ lower_below. sorted_front p es rest tail_rising lower_below right) (is_lt (path_cmp e.0 p)) refl
      where
        tail_rising : IsTrue (is_sorted path_cmp es)
        tail_rising = second_so (below_all path_cmp e.0 es) _ rising

        tail_below : IsTrue (below_all path_cmp e.0 es)
        tail_below = first_so (below_all path_cmp e.0 es) _ rising

        by : (((q : Path) → path_cmp q p ≡ Less → IsTrue (below_all path_cmp q (from_key p es)) → IsTrue (below_all path_cmp q rest))
            → IsTrue (is_sorted path_cmp (before_key p es ++ rest)))
            → (b : Bool) → is_lt (path_cmp e.0 p) ≡ b → IsTrue (is_sorted path_cmp (before_key p (e ∷ es) ++ rest))
        by later true is =
            let skips : from_key p (e ∷ es) ≡ from_key p es = rw is refl in
            let lower_below : (q : Path) → path_cmp q p ≡ Less → IsTrue (below_all path_cmp q (from_key p es))
            → IsTrue (below_all path_cmp q rest) =
            λ q less all. below q less (subst (λ (x : List (Path × V)). IsTrue (below_all path_cmp q x)) (sym skips) all) in
            rw is
            (both_true
            (below_join e.0 (before_key p es) rest (below_before e.0 p es tail_below)
            (lower_below e.0 (is_less _ is) (below_from e.0 p es tail_below)))
            (later lower_below))
        by later false is = rw is right

    pub sorted_woven : (hs es : List (Path × V)) → IsTrue (is_sorted path_cmp hs) → IsTrue (is_sorted path_cmp es)
        → IsTrue (is_sorted path_cmp (woven keep hs es))
    sorted_woven [] es left right = right
    sorted_woven (h ∷ hs) es left right =
        sorted_front h.0 es _ right below
        (by (sorted_woven hs (from_key h.0 es) (second_so (below_all path_cmp h.0 hs) _ left) (sorted_from h.0 es right)) (keep h)
        (head_at h.0 (from_key h.0 es)) refl)
      where
        below : (q : Path) → path_cmp q h.0 ≡ Less → IsTrue (below_all path_cmp q (from_key h.0 es))
            → IsTrue (below_all path_cmp q (own (keep h) h (from_key h.0 es) ++ woven keep hs (from_key h.0 es)))
        below q less all =
            below_join q (own (keep h) h (from_key h.0 es)) _ (below_own q h less (keep h && not (is_some (head_at h.0 (from_key h.0 es)))))
            (below_woven q hs (from_key h.0 es) (below_trans q h.0 hs less (first_so (below_all path_cmp h.0 hs) _ left)) all)

        by : IsTrue (is_sorted path_cmp (woven keep hs (from_key h.0 es))) → (b : Bool) (o : Option V) → head_at h.0 (from_key h.0 es) ≡ o
            → IsTrue (is_sorted path_cmp (own b h (from_key h.0 es) ++ woven keep hs (from_key h.0 es)))
        by rest false o is = rest
        by rest true (Some v) is = rw is rest
        by rest true None is =
            rw is
            (both_true (below_woven h.0 hs (from_key h.0 es) (first_so (below_all path_cmp h.0 hs) _ left) (below_rest h.0 es right is))
            rest)

-- ---- held rows and new ones

pub joined_woven : (h : Stamps) (rows : List Entry) (gone : List Path) → IsTrue (is_sorted path_cmp rows)
    → woven (stays rows gone) (entries h) rows ≡ entries (joined h rows gone)
joined_woven h rows gone rising =
    same_entries path_cmp path_total path_same _ _
    (tested _ (sorted_woven (stays rows gone) (entries h) rows (is_tested _ (entries_sorted h)) rising))
    (entries_sorted (joined h rows gone)) (λ p.
    find_woven (stays rows gone) (entries h) rows rising p
    ∙ sym
    (sym (get-entries (joined h rows gone) p) ∙ get-from_entries path_total (rows ++ filter (stays rows gone) (entries h)) p
    ∙ find_either p rows (filter (stays rows gone) (entries h))))
