-- Items of a list that get other keys, from the last one on.
use Rattle.std.proofs.Common.{◌≡◌, ℕ, List, [], ◌∷◌, ◌++◌, refl, sym, ap, ◌∙◌, ◌+◌, ◌<◌, length, take, drop, get_or, arith, map}
use Rattle.std.proofs.Common.{length-append, append_assoc, set}
use Rattle.std.proofs.lemmas.List.{take_more, drop_more, length-take-le, length-map, length-take}

module _ {T : Type 0} where
  set_middle : (x : List T) (e new : T) (y : List T) → set (x ++ e ∷ y) (length x) new ≡ x ++ new ∷ y
  set_middle [] e new y = refl
  set_middle (a ∷ x) e new y = ap (λ (rest : List T). a ∷ rest) (set_middle x e new y)

  get_middle : (x : List T) (e : T) (y : List T) (d : T) → get_or (x ++ e ∷ y) (length x) d ≡ e
  get_middle [] e y d = refl
  get_middle (a ∷ x) e y d = get_middle x e y d

module _ {K V : Type 0} (f : K → K) (a b c : List (K × V)) where
  -- the items as they stand while the first n still have their own keys
  abbrev pub stage : ℕ → List (K × V)
  stage n = a ++ (take n b ++ (map (λ (item : K × V). (f item.0, item.1)) (drop n b) ++ c))

  module _ (n : ℕ) (d : K × V) (lt : n < length b) where
    abbrev before : List (K × V)
    before = a ++ take n b

    before_len : length before ≡ length a + n
    before_len = length-append a (take n b) ∙ ap (λ k. length a + k) (length-take-le n b (omega (arith, lt)))

    item_is : stage (n + 1) ≡ before ++ get_or b n d ∷ (map (λ (item : K × V). (f item.0, item.1)) (drop (n + 1) b) ++ c)
    item_is =
        ap (λ (front : List (K × V)). a ++ (front ++ (map (λ (item : K × V). (f item.0, item.1)) (drop (n + 1) b) ++ c)))
        (take_more b n d lt)
        ∙ ap (λ (rest : List (K × V)). a ++ rest)
        (append_assoc (take n b) (get_or b n d ∷ []) (map (λ (item : K × V). (f item.0, item.1)) (drop (n + 1) b) ++ c))
        ∙ sym (append_assoc a (take n b) (get_or b n d ∷ (map (λ (item : K × V). (f item.0, item.1)) (drop (n + 1) b) ++ c)))

    next_is : stage n
        ≡ before ++ (f (get_or b n d).0, (get_or b n d).1) ∷ (map (λ (item : K × V). (f item.0, item.1)) (drop (n + 1) b) ++ c)
    next_is = ap (λ (back : List (K × V)). a ++ (take n b ++ (map (λ (item : K × V). (f item.0, item.1)) back ++ c))) (drop_more b n d lt)
        ∙ sym
        (append_assoc a (take n b)
        ((f (get_or b n d).0, (get_or b n d).1) ∷ (map (λ (item : K × V). (f item.0, item.1)) (drop (n + 1) b) ++ c)))

    -- the last item that has its own key gets the new one
    pub step : set (stage (n + 1)) (length a + n) (f (get_or b n d).0, (get_or (stage (n + 1)) (length a + n) d).1) ≡ stage n
    step = (λ i. set (item_is i) (sym before_len i) (f (get_or b n d).0, (get_or (item_is i) (sym before_len i) d).1))
        ∙ ap
        (λ (item : K × V). set (before ++ get_or b n d ∷ (map (λ (item : K × V). (f item.0, item.1)) (drop (n + 1) b) ++ c))
        (length before) (f (get_or b n d).0, item.1))
        (get_middle before (get_or b n d) (map (λ (item : K × V). (f item.0, item.1)) (drop (n + 1) b) ++ c) d)
        ∙ set_middle before (get_or b n d) (f (get_or b n d).0, (get_or b n d).1)
        (map (λ (item : K × V). (f item.0, item.1)) (drop (n + 1) b) ++ c)
        ∙ sym next_is

module _ {T : Type 0} where
  not_nil : (a : List T) (x : T) → ◌≡◌ {A = List T} [] (a ++ x ∷ []) → ⊥
  not_nil [] x is = cc
  not_nil (y ∷ a) x is = cc

  head_is : (x y : T) (a b : List T) → x ∷ a ≡ y ∷ b → x ≡ y
  head_is x y a b is = cc

  tail_is : (x y : T) (a b : List T) → x ∷ a ≡ y ∷ b → a ≡ b
  tail_is x y a b is = cc

  -- two lists that end alike
  ends_same : (a b : List T) (x y : T) → a ++ x ∷ [] ≡ b ++ y ∷ [] → (a ≡ b) × (x ≡ y)
  ends_same [] [] x y is = (refl, head_is x y [] [] is)
  ends_same [] (e ∷ b) x y is = absurd (not_nil b y (tail_is x e [] (b ++ y ∷ []) is))
  ends_same (e ∷ a) [] x y is = absurd (not_nil a x (sym (tail_is e y (a ++ x ∷ []) [] is)))
  ends_same (d ∷ a) (e ∷ b) x y is =
      let rest = ends_same a b x y (tail_is d e (a ++ x ∷ []) (b ++ y ∷ []) is) in
      let head = head_is d e (a ++ x ∷ []) (b ++ y ∷ []) is in
      ((λ i. head i ∷ rest.0 i), rest.1)

-- how far the loop has come that gives new keys: the keys that are left belong to the first items
pub record IsStage {K V : Type 0} (old now : List (K × V)) (keys left : List K) (at : ℕ) : Type 0 where
  pub by : (f : K → K) (a b c : List (K × V)) → old ≡ a ++ (b ++ c) → length a ≡ at → keys ≡ map (λ (item : K × V). f item.0) b
      → (now ≡ stage f a b c (length left)) × (left ≡ map (λ (item : K × V). f item.0) (take (length left) b))

module _ {K V : Type 0} where
  pub next_stage : (old now : List (K × V)) (keys left : List K) (key : K) (at : ℕ) → IsStage old now keys (left ++ key ∷ []) at
      → (e : K × V) → e ≡ get_or now (at + length left) e → IsStage old (set now (at + length left) (key, e.1)) keys left at
  next_stage old now keys left key at so_far e is = record {
    by = λ f a b c whole from are.
        let before = so_far.by f a b c whole from are in
        let n : ℕ = length left in
        let more : length (left ++ key ∷ []) ≡ n + 1 = length-append left (key ∷ []) in
        let now_is : now ≡ stage f a b c (n + 1) = before.0 ∙ ap (stage f a b c) more in
        let keys_are : left ++ key ∷ [] ≡ map (λ (item : K × V). f item.0) (take (n + 1) b) = before.1
        ∙ ap (λ k. map (λ (item : K × V). f item.0) (take k b)) more in
        let lt : n
        < length b =
        omega (arith, more, ap length keys_are, length-map (take (n + 1) b) (λ (item : K × V). f item.0), length-take (n + 1) b) in
        let split : map (λ (item : K × V). f item.0) (take (n + 1) b)
        ≡ map (λ (item : K × V). f item.0) (take n b) ++ f (get_or b n e).0 ∷ [] =
        ap (map (λ (item : K × V). f item.0)) (take_more b n e lt) ∙ map_push (λ (item : K × V). f item.0) (take n b) (get_or b n e) in
        let both = ends_same left (map (λ (item : K × V). f item.0) (take n b)) key (f (get_or b n e).0) (keys_are ∙ split) in
        let place : at + n ≡ length a + n = ap (λ k. k + n) (sym from) in
        ((λ i. set (now_is i) (place i) (both.1 i, ((is ∙ (λ j. get_or (now_is j) (place j) e)) i).1)) ∙ step f a b c n e lt, both.0);
  }
    where
      map_push : {A B : Type 0} (g : A → B) (xs : List A) (x : A) → map g (xs ++ x ∷ []) ≡ map g xs ++ g x ∷ []
      map_push g [] x = refl
      map_push g (y ∷ xs) x = ap (λ rest. g y ∷ rest) (map_push g xs x)

  -- at the end all keys are new
  pub last_stage : (old now : List (K × V)) (keys left : List K) (at : ℕ) → IsStage old now keys left at → length left ≡ 0
      → (f : K → K) (a b c : List (K × V)) → old ≡ a ++ (b ++ c) → length a ≡ at → keys ≡ map (λ (item : K × V). f item.0) b
      → now ≡ a ++ (map (λ (item : K × V). (f item.0, item.1)) b ++ c)
  last_stage old now keys left at end none f a b c whole from are = (end.by f a b c whole from are).0 ∙ ap (stage f a b c) none
