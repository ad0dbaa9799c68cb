-- What is found in rows that were picked out of others.
use Rattle.std.specs.declared.cmp.Ordering.TheVariants.{Less}
use Rattle.std.proofs.Common.{◌≡◌, ◌⊎◌, ℕ, Bool, true, false, cond, ◌||◌, IsTrue, List, [], ◌∷◌, ◌++◌, Option, Some, None}
use Rattle.std.proofs.Common.{bytes_eq, refl, sym, ap, subst, ◌∙◌, inl, inr}
use Rattle.std.specs.Option.{option_or}
use Rattle.std.specs.Ordering.{eq_by_cmp, is_lt}
use Rattle.std.specs.List.{filter, filter_map, starts_with}
use Rattle.std.specs.FinMap.{get, find, is_sorted}
use Rattle.std.specs.FinMap.Entries.{below_all}
use Rattle.iot_text.specs.Paths.{path_cmp}
use Rattle.iot_tree.specs.declared.nodes.Node.{Node}
use Rattle.iot_prune.proofs.WalkLaws.{tie}
use Rattle.iot_stamp.specs.Stamps.{Entry, Stamps}
use Rattle.iot_tree.proofs.AncestorLaws.{or_false}
use Rattle.iot_tree.proofs.PlaceLaws.{is_less}
use Rattle.iot_tree.proofs.TreeLaws.{same_or_apart, apart}
use Rattle.iot_tree.proofs.WithinLaws.{not_less}
use Rattle.iot_tree.specs.Snapshots.{is_known}
use Rattle.iot_tree.specs.Tree.{Path}
use Rattle.std.specs.Cmp.{first_so, second_so}
use Rattle.iot_stamp.specs.Refresh.{known_stamp, gone_path, is_gone}

module _ {V : Type 0} where
  some_is : (a b : V) → Some a ≡ Some b → a ≡ b
  some_is a b is = cc

  pub never : (a : V) → ◌≡◌ {A = Option V} None (Some a) → ⊥
  never a is = cc

  pub found_here : (p : Path) (e : Path × V) (es : List (Path × V)) → p ≡ e.0 → find path_cmp p (e ∷ es) ≡ Some e.1
  found_here p e es here = rw (tie p e.0 here) refl

  -- what comes before all keys is none of them
  pub none_after : (p : Path) (es : List (Path × V)) → IsTrue (below_all path_cmp p es) → find path_cmp p es ≡ None
  none_after p [] below = refl
  none_after p (e ∷ es) below =
      let less = is_less _ (first_so (is_lt (path_cmp p e.0)) _ below) in
      rw (apart p e.0 (λ is. not_less p (subst (λ (path : Path). path_cmp p path ≡ Less) (sym is) less)))
      (none_after p es (second_so (is_lt (path_cmp p e.0)) _ below))

  none_behind : (p : Path) (e : Path × V) (es : List (Path × V)) → IsTrue (is_sorted path_cmp (e ∷ es)) → p ≡ e.0
      → find path_cmp p es ≡ None
  none_behind p e es rising here =
      subst (λ (path : Path). find path_cmp path es ≡ None) (sym here) (none_after e.0 es (first_so (below_all path_cmp e.0 es) _ rising))

  cond_or : (b : Bool) (v : V) (a c : Option V) → cond b (Some v) (option_or a c) ≡ option_or (cond b (Some v) a) c
  cond_or true v a c = refl
  cond_or false v a c = refl

  pub find_either : (p : Path) (a b : List (Path × V)) → find path_cmp p (a ++ b) ≡ option_or (find path_cmp p a) (find path_cmp p b)
  find_either p [] b = refl
  find_either p (e ∷ a) b =
      ap (cond (eq_by_cmp path_cmp p e.0) (Some e.1)) (find_either p a b)
      ∙ cond_or (eq_by_cmp path_cmp p e.0) e.1 (find path_cmp p a) (find path_cmp p b)

  module _ (f : Path × V → Bool) (p : Path) where
    pub filter_none : (es : List (Path × V)) → find path_cmp p es ≡ None → find path_cmp p (filter f es) ≡ None
    filter_none [] none = refl
    filter_none (e ∷ es) none = by (filter_none es) (same_or_apart p e.0) (f e) refl
      where
        by : (find path_cmp p es ≡ None → find path_cmp p (filter f es) ≡ None) → (p ≡ e.0) ⊎ (eq_by_cmp path_cmp p e.0 ≡ false)
            → (b : Bool) → f e ≡ b → find path_cmp p (filter f (e ∷ es)) ≡ None
        by later (inl here) b is = absurd (never e.1 (sym none ∙ found_here p e es here))
        by later (inr away) true is = rw (is, away) (later (rw away at none))
        by later (inr away) false is = rw is (later (rw away at none))

    pub filter_keeps : (v : V) (es : List (Path × V)) → find path_cmp p es ≡ Some v → f (p, v) ≡ true
        → find path_cmp p (filter f es) ≡ Some v
    filter_keeps v [] found keep = absurd (never v found)
    filter_keeps v (e ∷ es) found keep = by (filter_keeps v es) (same_or_apart p e.0) (f e) refl
      where
        by : (find path_cmp p es ≡ Some v → f (p, v) ≡ true → find path_cmp p (filter f es) ≡ Some v)
            → (p ≡ e.0) ⊎ (eq_by_cmp path_cmp p e.0 ≡ false) → (b : Bool) → f e ≡ b → find path_cmp p (filter f (e ∷ es)) ≡ Some v
        by later (inl here) true is = rw is (found_here p e (filter f es) here ∙ sym (found_here p e es here) ∙ found)
        by later (inl here) false is =
            let one : e.1 ≡ v = some_is e.1 v (sym (found_here p e es here) ∙ found) in
            let no : true ≡ false = sym keep ∙ (λ i. f (here i, sym one i)) ∙ is in absurd cc
        by later (inr away) true is = rw (is, away) (later (rw away at found) keep)
        by later (inr away) false is = rw is (later (rw away at found) keep)

    pub filter_drops : (v : V) (es : List (Path × V)) → IsTrue (is_sorted path_cmp es) → find path_cmp p es ≡ Some v → f (p, v) ≡ false
        → find path_cmp p (filter f es) ≡ None
    filter_drops v [] rising found drop = refl
    filter_drops v (e ∷ es) rising found drop =
        by (filter_drops v es (second_so (below_all path_cmp e.0 es) _ rising)) (same_or_apart p e.0) (f e) refl
      where
        by : (find path_cmp p es ≡ Some v → f (p, v) ≡ false → find path_cmp p (filter f es) ≡ None)
            → (p ≡ e.0) ⊎ (eq_by_cmp path_cmp p e.0 ≡ false) → (b : Bool) → f e ≡ b → find path_cmp p (filter f (e ∷ es)) ≡ None
        by later (inl here) true is =
            let one : e.1 ≡ v = some_is e.1 v (sym (found_here p e es here) ∙ found) in
            let no : true ≡ false = sym is ∙ (λ i. f (sym here i, one i)) ∙ drop in absurd cc
        by later (inl here) false is = rw is (filter_none es (none_behind p e es rising here))
        by later (inr away) true is = rw (is, away) (later (rw away at found) drop)
        by later (inr away) false is = rw is (later (rw away at found) drop)

-- ---- the paths that are sent

module _ (p : Path) where
  pub sent_none : (es : List Entry) → find path_cmp p es ≡ None → find path_cmp p (filter_map known_stamp es) ≡ None
  sent_none [] none = refl
  sent_none (e ∷ es) none = by (sent_none es) (same_or_apart p e.0) (is_known e.1.0) refl
    where
      by : (find path_cmp p es ≡ None → find path_cmp p (filter_map known_stamp es) ≡ None) → (p ≡ e.0) ⊎ (eq_by_cmp path_cmp p e.0 ≡ false)
          → (b : Bool) → is_known e.1.0 ≡ b → find path_cmp p (filter_map known_stamp (e ∷ es)) ≡ None
      by later (inl here) b is = absurd (never e.1 (sym none ∙ found_here p e es here))
      by later (inr away) true is = rw (is, away) (later (rw away at none))
      by later (inr away) false is = rw is (later (rw away at none))

  -- a known row is sent with its stamp
  pub sent_some : (a : Node) (n : ℕ) (es : List Entry) → find path_cmp p es ≡ Some (a, n) → is_known a ≡ true
      → find path_cmp p (filter_map known_stamp es) ≡ Some n
  sent_some a n [] found known = absurd (never (a, n) found)
  sent_some a n (e ∷ es) found known = by (sent_some a n es) (same_or_apart p e.0) (is_known e.1.0) refl
    where
      by : (find path_cmp p es ≡ Some (a, n) → is_known a ≡ true → find path_cmp p (filter_map known_stamp es) ≡ Some n)
          → (p ≡ e.0) ⊎ (eq_by_cmp path_cmp p e.0 ≡ false) → (b : Bool) → is_known e.1.0 ≡ b
          → find path_cmp p (filter_map known_stamp (e ∷ es)) ≡ Some n
      by later (inl here) true is =
          let one : e.1 ≡ (a, n) = some_is e.1 (a, n) (sym (found_here p e es here) ∙ found) in
          rw is (found_here p (e.0, e.1.1) (filter_map known_stamp es) here ∙ ap (λ (r : Node × ℕ). Some r.1) one)
      by later (inl here) false is =
          let one : e.1 ≡ (a, n) = some_is e.1 (a, n) (sym (found_here p e es here) ∙ found) in
          let no : true ≡ false = sym known ∙ ap (λ (r : Node × ℕ). is_known r.0) (sym one) ∙ is in absurd cc
      by later (inr away) true is = rw (is, away) (later (rw away at found) known)
      by later (inr away) false is = rw is (later (rw away at found) known)

  -- the row that was sent
  pub record Sent (n : ℕ) (es : List Entry) : Type 0 where
    pub node : Node
    pub row : find path_cmp p es ≡ Some (node, n)
    pub known : is_known node ≡ true

  pub sent_back : (n : ℕ) (es : List Entry) → IsTrue (is_sorted path_cmp es) → find path_cmp p (filter_map known_stamp es) ≡ Some n
      → Sent n es
  sent_back n [] rising found = absurd (never n found)
  sent_back n (e ∷ es) rising found =
      by (sent_back n es (second_so (below_all path_cmp e.0 es) _ rising)) (same_or_apart p e.0) (is_known e.1.0) refl
    where
      skip : eq_by_cmp path_cmp p e.0 ≡ false → Sent n es → Sent n (e ∷ es)
      skip away one = record { node = one.node; row = rw away one.row; known = one.known }

      by : (find path_cmp p (filter_map known_stamp es) ≡ Some n → Sent n es) → (p ≡ e.0) ⊎ (eq_by_cmp path_cmp p e.0 ≡ false) → (b : Bool)
          → is_known e.1.0 ≡ b → Sent n (e ∷ es)
      by later (inl here) true is =
          let one : e.1.1 ≡ n = some_is e.1.1 n (sym (found_here p (e.0, e.1.1) (filter_map known_stamp es) here) ∙ (rw is at found)) in
          record { node = e.1.0; row = found_here p e es here ∙ ap (λ (m : ℕ). Some (e.1.0, m)) one; known = is }
      by later (inl here) false is = absurd (never n (sym (sent_none es (none_behind p e es rising here)) ∙ (rw is at found)))
      by later (inr away) true is = skip away (later (rw (is, away) at found))
      by later (inr away) false is = skip away (later (rw is at found))

-- ---- the paths that are gone

module _ (t : Stamps) (p : Path) where
  pub none_gone : (es : List (Path × ℕ)) → ((g : Path) → get t g ≡ None → starts_with bytes_eq p g ≡ false)
      → is_gone (filter_map (gone_path t) es) p ≡ false
  none_gone [] each = refl
  none_gone (e ∷ es) each = by (none_gone es each) (get t e.0) refl
    where
      by : is_gone (filter_map (gone_path t) es) p ≡ false → (o : Option (Node × ℕ)) → get t e.0 ≡ o
          → is_gone (filter_map (gone_path t) (e ∷ es)) p ≡ false
      by rest None is = rw is (or_false _ _ (each e.0 is) rest)
      by rest (Some row) is = rw is rest

  or_true : (a b : Bool) → b ≡ true → (a || b) ≡ true
  or_true true b is = refl
  or_true false b is = is

  pub some_gone : (g : Path) (n : ℕ) (es : List (Path × ℕ)) → find path_cmp g es ≡ Some n → get t g ≡ None → starts_with bytes_eq p g ≡ true
      → is_gone (filter_map (gone_path t) es) p ≡ true
  some_gone g n [] found none begins = absurd (never n found)
  some_gone g n (e ∷ es) found none begins = by (some_gone g n es) (same_or_apart g e.0) (get t e.0) refl
    where
      by : (find path_cmp g es ≡ Some n → get t g ≡ None → starts_with bytes_eq p g ≡ true → is_gone (filter_map (gone_path t) es) p ≡ true)
          → (g ≡ e.0) ⊎ (eq_by_cmp path_cmp g e.0 ≡ false) → (o : Option (Node × ℕ)) → get t e.0 ≡ o
          → is_gone (filter_map (gone_path t) (e ∷ es)) p ≡ true
      by later (inl here) None is = rw is (rw (ap (starts_with bytes_eq p) (sym here) ∙ begins) refl)
      by later (inl here) (Some row) is = absurd (never row (sym none ∙ ap (get t) here ∙ is))
      by later (inr away) None is = rw is (or_true (starts_with bytes_eq p e.0) _ (later (rw away at found) none begins))
      by later (inr away) (Some row) is = rw is (later (rw away at found) none begins)
