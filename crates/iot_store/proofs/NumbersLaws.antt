-- The place of a transaction's label, the index after one label more, and the index of a list of labels.
use Rattle.std.proofs.Common.{◌≡◌, ℕ, ◌+◌, ◌<◌, ◌≤◌, Bool, true, false, cond, List, [], ◌∷◌, ◌++◌, length}
use Rattle.std.proofs.Common.{get_or, take, drop, Option, Some, None, inl, inr, refl, sym, ap, ◌∙◌, subst, arith}
use Rattle.std.specs.Prelude.{◌==◌, ◌&&◌, is_some, option_map, position}
use Rattle.std.proofs.lemmas.List.{drop_more, length-take-le, take_all, take_more, take-append-drop}
use Rattle.std.specs.List.{list_any, position_from}
use Rattle.std.specs.Ordering.{nat_cmp, ordering_then, is_eq}
use Rattle.std.specs.declared.cmp.Ordering.{Ordering}
use Rattle.std.specs.declared.cmp.Ordering.TheVariants.{Less, Equal, Greater}
use Rattle.std.specs.BTreeMap.{BTreeMap, get}
use Rattle.std.proofs.lemmas.Bool.{cases_Bool, cond-true, cond-false, or_parts, and_parts, eqb-true}
use Rattle.std.proofs.lemmas.Bool.Decides.{nat_tests}
use Rattle.std.proofs.lemmas.Iterator.Adapters.{position_from-zero}
use Rattle.iot_tree.specs.declared.labels.Label.{Label}
use Rattle.iot_store.specs.States.{is_of}
use Rattle.iot_store.specs.Numbers.{number_in}
use Rattle.iot_store.specs.Bodies.{AreApart}
use Rattle.iot_store.specs.Commits.{IsIndex, key_cmp}
use Rattle.iot_store.proofs.StatesLaws.{apart_push}

-- ---- the first place that passes a test

module _ {X : Type 0} (p : X → Bool) where
  from_other : (xs : List X) (i : ℕ) (x : X) → p x ≡ false → position_from p i (xs ++ x ∷ []) ≡ position_from p i xs
  from_other [] i x fails = cond-false (p x) (Some i) None fails
  from_other (y ∷ ys) i x fails = ap (λ r. cond (p y) (Some i) r) (from_other ys (i + 1) x fails)

  from_first : (xs : List X) (i : ℕ) (x : X) → list_any p xs ≡ false → p x ≡ true → position_from p i (xs ++ x ∷ []) ≡ Some (i + length xs)
  from_first [] i x none is = cond-true (p x) (Some i) None is ∙ ap Some (omega arith)
  from_first (y ∷ ys) i x none is =
      let both = or_parts (p y) (list_any p ys) none in
      cond-false (p y) (Some i) (position_from p (i + 1) (ys ++ x ∷ [])) both.0 ∙ from_first ys (i + 1) x both.1 is ∙ ap Some (omega arith)

  from_none : (xs : List X) (i : ℕ) → list_any p xs ≡ false → position_from p i xs ≡ None
  from_none [] i none = refl
  from_none (y ∷ ys) i none =
      let both = or_parts (p y) (list_any p ys) none in
      cond-false (p y) (Some i) (position_from p (i + 1) ys) both.0 ∙ from_none ys (i + 1) both.1

  none_from : (xs : List X) (i : ℕ) → position_from p i xs ≡ None → list_any p xs ≡ false
  none_from [] i is = refl
  none_from (y ∷ ys) i is = elim (cases_Bool (p y)) [
    | inl passes ↦ let found : Some i ≡ None = sym (cond-true (p y) (Some i) (position_from p (i + 1) ys) passes) ∙ is in absurd cc
    | inr fails ↦ rw fails (none_from ys (i + 1) (sym (cond-false (p y) (Some i) (position_from p (i + 1) ys) fails) ∙ is))
  ]

  position_other : (xs : List X) (x : X) → p x ≡ false → position p (xs ++ x ∷ []) ≡ position p xs
  position_other xs x fails = position_from-zero p (xs ++ x ∷ []) ∙ from_other xs 0 x fails ∙ sym (position_from-zero p xs)

  position_first : (xs : List X) (x : X) → list_any p xs ≡ false → p x ≡ true → position p (xs ++ x ∷ []) ≡ Some (length xs)
  position_first xs x none is = position_from-zero p (xs ++ x ∷ []) ∙ from_first xs 0 x none is ∙ ap Some (omega arith)

-- a transaction with no number is not among the labels
pub is_new_from : (labels : List Label) (client tid : ℕ) → number_in labels client tid ≡ None → list_any (is_of client tid) labels ≡ false
is_new_from labels client tid is =
    none_from (is_of client tid) labels 0
    (sym (position_from-zero (is_of client tid) labels) ∙ no_place (position (is_of client tid) labels) is)
  where
    no_place : (place : Option ℕ) → option_map (λ n. n + 1) place ≡ None → place ≡ None
    no_place None is = refl
    no_place (Some n) is = absurd cc

-- and one that has a number is
pub is_old_from : (labels : List Label) (client tid n : ℕ) → number_in labels client tid ≡ Some n
    → list_any (is_of client tid) labels ≡ false → ⊥
is_old_from labels client tid n is none =
    let place : position (is_of client tid) labels ≡ None = position_from-zero (is_of client tid) labels
    ∙ from_none (is_of client tid) labels 0 none in
    let clash : None ≡ Some n = sym (ap (option_map (λ k. k + 1)) place) ∙ is in
    absurd cc

-- so it is among the labels exactly if it has a number
pub has_number : (labels : List Label) (client tid : ℕ) (number : Option ℕ) → number ≡ number_in labels client tid
    → is_some number ≡ list_any (is_of client tid) labels
has_number labels client tid None is = sym (is_new_from labels client tid (sym is))
has_number labels client tid (Some n) is = among (list_any (is_of client tid) labels) refl
  where
    among : (b : Bool) → list_any (is_of client tid) labels ≡ b → true ≡ b
    among true found = refl
    among false none = absurd (is_old_from labels client tid n (sym is) none)

-- ---- the index

then_is : (one other : Ordering) → is_eq (ordering_then one other) ≡ (is_eq one && is_eq other)
then_is Less other = refl
then_is Equal other = refl
then_is Greater other = refl

number_is : (a b : ℕ) → is_eq (nat_cmp a b) ≡ (a == b)
number_is a b = grind (arith, nat_tests)

key_is : (label : Label) (client tid : ℕ) → is_eq (key_cmp (label.client, label.tid) (client, tid)) ≡ is_of client tid label
key_is label client tid =
    then_is (nat_cmp label.client client) (nat_cmp label.tid tid)
    ∙ ap (λ b. b && is_eq (nat_cmp label.tid tid)) (number_is label.client client)
    ∙ ap (λ b. (label.client == client) && b) (number_is label.tid tid)

module _ (old new : BTreeMap (ℕ × ℕ) ℕ) (labels : List Label) (label : Label) (number : ℕ) where
  pub indexed_push : list_any (is_of label.client label.tid) labels ≡ false → number ≡ length labels + 1
      → ((key : ℕ × ℕ) → get key_cmp new key ≡ cond (is_eq (key_cmp (label.client, label.tid) key)) (Some number) (get key_cmp old key))
      → ((client tid : ℕ) → get key_cmp old (client, tid) ≡ number_in labels client tid)
      → (client tid : ℕ) → get key_cmp new (client, tid) ≡ number_in (labels ++ label ∷ []) client tid
  indexed_push is_new is puts indexed client tid =
      let here : get key_cmp new (client, tid) ≡ cond (is_of client tid label) (Some number) (get key_cmp old (client, tid)) =
      puts (client, tid) ∙ ap (λ b. cond b (Some number) (get key_cmp old (client, tid))) (key_is label client tid) in
      elim (cases_Bool (is_of client tid label)) [
        | inl passes ↦
            let both = and_parts (label.client == client) (label.tid == tid) passes in
            let none : list_any (is_of client tid) labels ≡ false =
            subst (λ c. list_any (is_of c tid) labels ≡ false) (eqb-true label.client client both.0)
            (subst (λ t. list_any (is_of label.client t) labels ≡ false) (eqb-true label.tid tid both.1) is_new) in
            here ∙ cond-true (is_of client tid label) (Some number) (get key_cmp old (client, tid)) passes ∙ ap Some is
            ∙ sym (ap (option_map (λ n. n + 1)) (position_first (is_of client tid) labels label none passes))
        | inr fails ↦
            here ∙ cond-false (is_of client tid label) (Some number) (get key_cmp old (client, tid)) fails ∙ indexed client tid
            ∙ sym (ap (option_map (λ n. n + 1)) (position_other (is_of client tid) labels label fails))
      ]

-- ---- a loop over labels

-- the index has the labels up to a place, no two of which are of one transaction
pub record IndexOnWay (labels : List Label) (i : ℕ) (numbers : BTreeMap (ℕ × ℕ) ℕ) : Type 0 where
  pub index : IsIndex numbers (take i labels)
  pub apart : AreApart (take i labels)

module _ (labels : List Label) (i : ℕ) (numbers : BTreeMap (ℕ × ℕ) ℕ) (way : IndexOnWay labels i numbers) where
  module _ (label : Label) (within : i < length labels) (is : label ≡ get_or labels i label) where
    abbrev here : Option ℕ
    here = get key_cmp numbers (label.client, label.tid)

    one_more : take (i + 1) labels ≡ take i labels ++ label ∷ []
    one_more = take_more labels i label within ∙ ap (λ (l : Label). take i labels ++ l ∷ []) (sym is)

    split_here : labels ≡ take i labels ++ label ∷ drop (i + 1) labels
    split_here =
        sym (take-append-drop i labels)
        ∙ ap (λ (rest : List Label). take i labels ++ rest)
        (drop_more labels i label within ∙ ap (λ (l : Label). l ∷ drop (i + 1) labels) (sym is))

    -- its transaction has another label before it
    pub label_twice : is_some here ≡ true → AreApart labels → ⊥
    label_twice some apart = by here refl some
      where
        by : (o : Option ℕ) → here ≡ o → is_some o ≡ true → ⊥
        by None found some = absurd cc
        by (Some n) found some =
            is_old_from (take i labels) label.client label.tid n (sym (way.index.finds label.client label.tid) ∙ found)
            (apart (take i labels) label (drop (i + 1) labels) split_here)

    -- or none, and the label is put into the index
    module _ (none : is_some here ≡ false) (new : BTreeMap (ℕ × ℕ) ℕ) (number : ℕ) (number_is : number ≡ i + 1) where
      is_new_here : list_any (is_of label.client label.tid) (take i labels) ≡ false
      is_new_here = is_new_from (take i labels) label.client label.tid (sym (way.index.finds label.client label.tid) ∙ by here none)
        where
          by : (o : Option ℕ) → is_some o ≡ false → o ≡ None
          by None is = refl
          by (Some n) is = absurd cc

      pub label_put : ((key : ℕ × ℕ) → get key_cmp new key
          ≡ cond (is_eq (key_cmp (label.client, label.tid) key)) (Some number) (get key_cmp numbers key)) → IndexOnWay labels (i + 1) new
      label_put puts = record {
        index = record {
          finds = λ client tid.
              indexed_push numbers new (take i labels) label number is_new_here
              (number_is ∙ ap (λ (n : ℕ). n + 1) (sym (length-take-le i labels (omega arith)))) puts way.index.finds client tid
              ∙ ap (λ (ls : List Label). number_in ls client tid) (sym one_more);
        };
        apart = subst AreApart (sym one_more) (apart_push (take i labels) label way.apart is_new_here);
      }

  module _ (past : length labels ≤ i) where
    pub all_indexed : IsIndex numbers labels
    all_indexed = subst (IsIndex numbers) (take_all i labels past) way.index

    pub all_apart : AreApart labels
    all_apart = subst AreApart (take_all i labels past) way.apart
