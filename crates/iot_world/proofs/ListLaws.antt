-- Lists that are looked up and changed at a place, and lists that go together by place.
use Rattle.std.proofs.{Common.get_or, lemmas.Option.slice_get_read, lemmas.Slice.Zip.AllZip-long}
use Rattle.iot_world.proofs.Common.{AllByRecursion, Each, List, Some, ap, length, map, refl}
use Rattle.iot_world.proofs.Common.{same_Some, slice_get, slice_index_or, slice_set, subst, suc, sym, zero, ℕ, [], ◌++◌, ◌<◌, ◌∙◌, ◌∷◌, ◌≡◌}

-- ---- one element

-- what was looked up is there
pub looked_up : {A : Type 0} (xs ys : List A) (place : ℕ) (x : A) → ys ≡ xs → place < length ys → x ≡ get_or ys place x
    → slice_get xs place ≡ Some x
looked_up xs ys place x same within value = ap (λ l. slice_get l place) (sym same) ∙ slice_get_read ys (length ys) place x refl within value

-- what is so of all and one more
pub all_split : {A : Type 0} (P : A → Type 0) (xs : List A) (y : A) → AllByRecursion P (xs ++ y ∷ []) → AllByRecursion P xs × P y
all_split P [] y all = (tt, all.0)
all_split P (x ∷ xs) y all = let rest = all_split P xs y all.1 in ((all.0, rest.0), rest.1)

-- ---- two lists

module _ {W M : Type 0} (stands : W → M → Type 0) where
  pub each_set : (ws : List W) (ms : List M) (c : ℕ) (w : W) (m : M) → stands w m → Each stands ws ms
      → Each stands (slice_set ws c w) (slice_set ms c m)
  each_set [] [] c w m it all = tt
  each_set (w' ∷ ws) (m' ∷ ms) zero w m it all = (it, all.1)
  each_set (w' ∷ ws) (m' ∷ ms) (suc c) w m it all = (all.0, each_set ws ms c w m it all.1)
  each_set ws ms c w m it all = absurd all

  pub each_length : (ws : List W) (ms : List M) → Each stands ws ms → length ws ≡ length ms
  each_length ws ms all = sym (AllZip-long stands ws ms all)

  -- what follows of each two of them, and what they have in common
  pub each_map : (others : W → M → Type 0) → ((w : W) (m : M) → stands w m → others w m) → (ws : List W) (ms : List M) → Each stands ws ms
      → Each others ws ms
  each_map others then_ [] [] all = tt
  each_map others then_ (w ∷ ws) (m ∷ ms) all = (then_ w m all.0, each_map others then_ ws ms all.1)
  each_map others then_ ws ms all = absurd all

  pub each_same_as : {A : Type 0} (f : W → A) (g : M → A) → ((w : W) (m : M) → stands w m → f w ≡ g m) → (ws : List W) (ms : List M)
      → Each stands ws ms → map f ws ≡ map g ms
  each_same_as f g same [] [] all = refl
  each_same_as f g same (w ∷ ws) (m ∷ ms) all = λ i. same w m all.0 i ∷ each_same_as f g same ws ms all.1 i
  each_same_as f g same ws ms all = absurd all

  -- the elements at one place go together
  pub each_get : (ws : List W) (ms : List M) (c : ℕ) (w : W) (e : M) → slice_get ws c ≡ Some w → Each stands ws ms
      → stands w (slice_index_or ms c e)
  each_get [] ms c w e at all = absurd cc
  each_get (w' ∷ ws) (m ∷ ms) zero w e at all = subst (λ (v : W). stands v m) (same_Some w' w at) all.0
  each_get (w' ∷ ws) (m ∷ ms) (suc c) w e at all = each_get ws ms c w e at all.1
  each_get ws ms c w e at all = absurd all

-- what is so of each element at its place is so of the list in which one is set that is so at its place
pub each_place_set : {A : Type 0} (P : ℕ → A → Type 0) (xs : List A) (c : ℕ) (x : A)
    → ((n : ℕ) (y : A) → slice_get xs n ≡ Some y → P n y) → P c x → (n : ℕ) (y : A) → slice_get (slice_set xs c x) n ≡ Some y → P n y
each_place_set P [] c x all it n y at = absurd cc
each_place_set P (z ∷ zs) zero x all it zero y at = subst (P zero) (same_Some x y at) it
each_place_set P (z ∷ zs) zero x all it (suc n) y at = all (suc n) y at
each_place_set P (z ∷ zs) (suc c) x all it zero y at = all zero y at
each_place_set P (z ∷ zs) (suc c) x all it (suc n) y at = each_place_set (λ n. P (suc n)) zs c x (λ n y at. all (suc n) y at) it n y at

-- so it is of a list with one more at its end
pub each_place_push : {A : Type 0} (P : ℕ → A → Type 0) (xs : List A) (x : A)
    → ((n : ℕ) (y : A) → slice_get xs n ≡ Some y → P n y) → P (length xs) x → (n : ℕ) (y : A) → slice_get (xs ++ x ∷ []) n ≡ Some y → P n y
each_place_push P [] x all it zero y at = subst (P zero) (same_Some x y at) it
each_place_push P [] x all it (suc n) y at = absurd cc
each_place_push P (z ∷ zs) x all it zero y at = all zero y at
each_place_push P (z ∷ zs) x all it (suc n) y at = each_place_push (λ n. P (suc n)) zs x (λ n y at. all (suc n) y at) it n y at
