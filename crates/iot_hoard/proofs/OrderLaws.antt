-- Wishes by priority: a stable sort puts them in their order.
use Rattle.std.proofs.Common.{◌≡◌, ℕ, zero, suc, ◌<◌, ◌≤◌, Bool, true, false, cond, List, [], ◌∷◌, map, length, get_or, filter, nat_cmp}
use Rattle.std.proofs.Common.{is_lt, nat_le, refl, sym, ap, ◌∙◌, arith, inl, inr, suc-le-suc, zero-le}
use Rattle.std.proofs.lemmas.Bool.{cond-true, cond-false, cases_Bool, leb-true, leb-false}
use Rattle.std.proofs.lemmas.Bool.Decides.{nat_tests}
use Rattle.std.proofs.lemmas.List.Sorted.{IsStrictWeakOrder-flip, ranks_by, sorted_far}
use Rattle.std.specs.Cmp.{IsStrictWeakOrder, nat_cmp_total}
use Rattle.std.specs.List.Sorted.{ties, IsSortedBy, IsStableBy}
use Rattle.iot_hoard.specs.Picking.{by_priority, put_wish}
use Rattle.iot_tree.specs.declared.profile.Wish.{Wish}

module _ {X : Type 0} (n : X → ℕ) where
  -- by the greater number
  abbrev pub higher : X → X → Bool
  higher x y = is_lt (nat_cmp (n y) (n x))

  pub is_order : IsStrictWeakOrder higher
  is_order = IsStrictWeakOrder-flip (λ (x y : X). is_lt (nat_cmp (n x) (n y))) (ranks_by nat_cmp_total n)

  abbrev alike : X → X → Bool
  alike = ties higher

  ties_at : (a b : ℕ) → (ties (λ x y. is_lt (nat_cmp y x)) a b ≡ true → a ≡ b) × (a ≡ b → ties (λ x y. is_lt (nat_cmp y x)) a b ≡ true)
  ties_at a b = (λ h. grind (arith, nat_tests), λ h. grind (arith, nat_tests))

  alike_tells : (x y : X) → alike x y ≡ true → n x ≡ n y
  alike_tells x y = (ties_at (n x) (n y)).0

  alike_of : (x y : X) → n x ≡ n y → alike x y ≡ true
  alike_of x y = (ties_at (n x) (n y)).1

  kept : (p : X → Bool) (y : X) (ys : List X) → p y ≡ true → filter p (y ∷ ys) ≡ y ∷ filter p ys
  kept p y ys h = cond-true (p y) (y ∷ filter p ys) (filter p ys) h

  dropped : (p : X → Bool) (y : X) (ys : List X) → p y ≡ false → filter p (y ∷ ys) ≡ filter p ys
  dropped p y ys h = cond-false (p y) (y ∷ filter p ys) (filter p ys) h

  -- an element in front of others of which none is greater, as wishes are put
  abbrev put : X → List X → List X
  put x [] = x ∷ []
  put x (y ∷ ys) = cond (nat_le (n y) (n x)) (x ∷ y ∷ ys) (y ∷ put x ys)

  abbrev pub ordered : List X → List X
  ordered [] = []
  ordered (x ∷ xs) = put x (ordered xs)

  -- ---- they fall

  abbrev AreAtMost : ℕ → List X → Type 0
  AreAtMost m [] = Unit {0}
  AreAtMost m (y ∷ ys) = (n y ≤ m) × AreAtMost m ys

  abbrev Falls : List X → Type 0
  Falls [] = Unit {0}
  Falls (y ∷ ys) = AreAtMost (n y) ys × Falls ys

  most_le : (m k : ℕ) (ys : List X) → m ≤ k → AreAtMost m ys → AreAtMost k ys
  most_le m k [] le h = tt
  most_le m k (y ∷ ys) le h = let first = h.0 in (omega (arith, first, le), most_le m k ys le h.1)

  most_put : (m : ℕ) (x : X) (ys : List X) → n x ≤ m → AreAtMost m ys → AreAtMost m (put x ys)
  most_put m x [] le h = (le, tt)
  most_put m x (y ∷ ys) le h = by (nat_le (n y) (n x)) (most_put m x ys le h.1)
    where
      by : (b : Bool) → AreAtMost m (put x ys) → AreAtMost m (cond b (x ∷ y ∷ ys) (y ∷ put x ys))
      by true rest = (le, h)
      by false rest = (h.0, rest)

  put_falls : (x : X) (ys : List X) → Falls ys → Falls (put x ys)
  put_falls x [] falls = (tt, tt)
  put_falls x (y ∷ ys) falls = by (nat_le (n y) (n x)) refl (put_falls x ys falls.1)
    where
      by : (b : Bool) → nat_le (n y) (n x) ≡ b → Falls (put x ys) → Falls (cond b (x ∷ y ∷ ys) (y ∷ put x ys))
      by true is rest = let le = leb-true (n y) (n x) is in ((le, most_le (n y) (n x) ys le falls.0), falls)
      by false is rest = let lt = leb-false (n y) (n x) is in (most_put (n y) x ys (omega (arith, lt)) falls.0, rest)

  ordered_falls : (xs : List X) → Falls (ordered xs)
  ordered_falls [] = tt
  ordered_falls (x ∷ xs) = put_falls x (ordered xs) (ordered_falls xs)

  most_at : (m : ℕ) (ys : List X) → ((j : ℕ) (d : X) → j < length ys → n (get_or ys j d) ≤ m) → AreAtMost m ys
  most_at m [] h = tt
  most_at m (y ∷ ys) h = (h zero y (suc-le-suc zero-le), most_at m ys (λ j d lt. h (suc j) d (suc-le-suc lt)))

  falls_at : (ys : List X) → ((i j : ℕ) (d : X) → i ≤ j → j < length ys → n (get_or ys j d) ≤ n (get_or ys i d)) → Falls ys
  falls_at [] h = tt
  falls_at (y ∷ ys) h = (
    most_at (n y) ys (λ j d lt. h zero (suc j) d zero-le (suc-le-suc lt)),
    falls_at ys (λ i j d le lt. h (suc i) (suc j) d (suc-le-suc le) (suc-le-suc lt)),
  )

  not_higher : (a b : ℕ) → is_lt (nat_cmp a b) ≡ false → b ≤ a
  not_higher a b h = grind (arith, nat_tests)

  sorted_falls : (ys : List X) → IsSortedBy higher ys → Falls ys
  sorted_falls ys sorted =
      falls_at ys (λ i j d le lt. not_higher (n (get_or ys i d)) (n (get_or ys j d)) (sorted_far higher is_order ys sorted i j d le lt))

  -- ---- those that are alike keep their order

  put_keeps : (q x : X) (ys : List X) → filter (alike q) (put x ys) ≡ filter (alike q) (x ∷ ys)
  put_keeps q x [] = refl
  put_keeps q x (y ∷ ys) = by (nat_le (n y) (n x)) refl (put_keeps q x ys)
    where
      -- what is put after y is not like it
      past : n x < n y → filter (alike q) (put x ys) ≡ filter (alike q) (x ∷ ys)
          → filter (alike q) (y ∷ put x ys) ≡ filter (alike q) (x ∷ y ∷ ys)
      past lt rest = elim (cases_Bool (alike q y)) [
        | inr without ↦
            dropped (alike q) y (put x ys) without ∙ rest
            ∙ ap (λ (l : List X). cond (alike q x) (x ∷ l) l) (sym (dropped (alike q) y ys without))
        | inl with ↦ elim (cases_Bool (alike q x)) [
          | inl both ↦ absurd (omega (arith, lt, alike_tells q x both, alike_tells q y with))
          | inr only ↦
              kept (alike q) y (put x ys) with ∙ ap (λ (l : List X). y ∷ l) (rest ∙ dropped (alike q) x ys only)
              ∙ sym (dropped (alike q) x (y ∷ ys) only ∙ kept (alike q) y ys with)
        ]
      ]

      by : (b : Bool) → nat_le (n y) (n x) ≡ b → filter (alike q) (put x ys) ≡ filter (alike q) (x ∷ ys)
          → filter (alike q) (cond b (x ∷ y ∷ ys) (y ∷ put x ys)) ≡ filter (alike q) (x ∷ y ∷ ys)
      by true is rest = refl
      by false is rest = past (leb-false (n y) (n x) is) rest

  ordered_keeps : (q : X) (xs : List X) → filter (alike q) (ordered xs) ≡ filter (alike q) xs
  ordered_keeps q [] = refl
  ordered_keeps q (x ∷ xs) =
      put_keeps q x (ordered xs) ∙ ap (λ (l : List X). cond (alike q x) (x ∷ l) l) (ordered_keeps q xs)

  -- ---- two lists that fall, and keep the order of those that are alike

  most_found : (m : ℕ) (x : X) (ys : List X) (w : X) (ws : List X) → AreAtMost m ys → filter (alike x) ys ≡ w ∷ ws → n x ≤ m
  most_found m x [] w ws h e = cc
  most_found m x (y ∷ ys) w ws h e = elim (cases_Bool (alike x y)) [
    | inl with ↦ omega (arith, h.0, alike_tells x y with)
    | inr without ↦ most_found m x ys w ws h.1 (sym (dropped (alike x) y ys without) ∙ e)
  ]

  same_from_classes : (ys zs : List X) → Falls ys → Falls zs → ((x : X) → filter (alike x) ys ≡ filter (alike x) zs) → ys ≡ zs
  same_from_classes [] [] left right same = refl
  same_from_classes [] (z ∷ zs) left right same =
      let clash = same z ∙ kept (alike z) z zs (alike_of z z refl) in cc
  same_from_classes (y ∷ ys) [] left right same =
      let clash = sym (same y) ∙ kept (alike y) y ys (alike_of y y refl) in cc
  same_from_classes (y ∷ ys) (z ∷ zs) left right same =
      let at_y = kept (alike y) y ys (alike_of y y refl) in
      let at_z = kept (alike z) z zs (alike_of z z refl) in
      let up = most_found (n z) y (z ∷ zs) y (filter (alike y) ys) (omega arith, right.0) (sym (same y) ∙ at_y) in
      let down = most_found (n y) z (y ∷ ys) z (filter (alike z) zs) (omega arith, left.0) (same z ∙ at_z) in
      let heads = sym at_y ∙ same y ∙ kept (alike y) z zs (alike_of y z (omega (arith, up, down))) in
      let head : y ≡ z = cc in
      let tails : (x : X) → filter (alike x) ys ≡ filter (alike x) zs =
      λ x. elim (cases_Bool (alike x y)) [
        | inl with ↦
            let both = sym (kept (alike x) y ys with) ∙ same x ∙ kept (alike x) z zs (ap (alike x) (sym head) ∙ with) in cc
        | inr without ↦
            sym (dropped (alike x) y ys without) ∙ same x ∙ dropped (alike x) z zs (ap (alike x) (sym head) ∙ without)
      ] in
      ap (λ w. w ∷ ys) head ∙ ap (λ (l : List X). z ∷ l) (same_from_classes ys zs left.1 right.1 tails)

  -- a stable sort
  sort_is : (xs ys : List X) → IsSortedBy higher ys → IsStableBy higher xs ys → ys ≡ ordered xs
  sort_is xs ys sorted stable =
      same_from_classes ys (ordered xs) (sorted_falls ys sorted) (ordered_falls xs) (λ x. stable x ∙ sym (ordered_keeps x xs))

-- ---- wishes

module _ {X : Type 0} (wish_of : X → Wish) where
  abbrev pub priority_of : X → ℕ
  priority_of x = (wish_of x).priority

  put_is : (x : X) (xs : List X) → map wish_of (put priority_of x xs) ≡ put_wish (wish_of x) (map wish_of xs)
  put_is x [] = refl
  put_is x (y ∷ ys) = by (nat_le (priority_of y) (priority_of x)) (put_is x ys)
    where
      by : (b : Bool) → map wish_of (put priority_of x ys) ≡ put_wish (wish_of x) (map wish_of ys)
          → map wish_of (cond b (x ∷ y ∷ ys) (y ∷ put priority_of x ys))
          ≡ cond b (wish_of x ∷ wish_of y ∷ map wish_of ys) (wish_of y ∷ put_wish (wish_of x) (map wish_of ys))
      by true rest = refl
      by false rest = ap (λ (wishes : List Wish). wish_of y ∷ wishes) rest

  ordered_is : (xs : List X) → map wish_of (ordered priority_of xs) ≡ by_priority (map wish_of xs)
  ordered_is [] = refl
  ordered_is (x ∷ xs) = put_is x (ordered priority_of xs) ∙ ap (put_wish (wish_of x)) (ordered_is xs)

  pub wishes_sorted : (xs ys : List X) → IsSortedBy (higher priority_of) ys → IsStableBy (higher priority_of) xs ys
      → map wish_of ys ≡ by_priority (map wish_of xs)
  wishes_sorted xs ys sorted stable = ap (map wish_of) (sort_is priority_of xs ys sorted stable) ∙ ordered_is xs
