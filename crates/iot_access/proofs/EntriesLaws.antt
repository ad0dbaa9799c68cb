-- What entries tell: how a look-up finds it, and how it follows an update.
use Rattle.std.proofs.Common.{◌≡◌, ◌≢◌, ℕ, List, [], ◌∷◌, ◌++◌, Option, Some, None, take, drop, get_or, length, ◌+◌, ◌-◌, ◌<◌, ◌≤◌}
use Rattle.std.proofs.Common.{refl, sym, ap, ◌∙◌, append_assoc, arith}
use Rattle.std.proofs.lemmas.List.{append-nil, take_more, drop_more, take_all}
use Rattle.std.specs.Option.{option_map}
use Rattle.iot_text.specs.Paths.{last_of}
use Rattle.iot_text.proofs.PathsLaws.{last_of-push}
use Rattle.iot_tree.specs.Tree.{Path}
use Rattle.iot_tree.proofs.AncestorLaws.{ends, at_root, in_name, below_not_root}
use Rattle.iot_tree.proofs.UpdateLaws.{front_outside, same_front_of}
use Rattle.iot_tree.proofs.WithinLaws.{IsOutside, side, inside, outside, forked, at_itself}
use Rattle.iot_access.specs.Entries.{Entries, Tells, Sets, NoneBelow, Clears, Carries, AreApart}
use Rattle.iot_access.specs.Sources.{hidden, carried}
use Rattle.iot_access.proofs.TiedLaws.{Sources, hidden_inside, hidden_outside, carried_inside, carried_outside}

pub no_entry : (o : Option Path) → ◌≡◌ {A = Option (Option Path)} None (Some o) → ⊥
no_entry o is = cc

same_entry : (a b : Option Path) → Some a ≡ Some b → a ≡ b
same_entry a b is = cc

last_same : (front other : Path) (last name : List ℕ) → front ++ last ∷ [] ≡ other ++ name ∷ [] → last ≡ name
last_same front other last name is =
    let whole : Some last ≡ Some name = sym (last_of-push front last) ∙ ap last_of is ∙ last_of-push other name in
    cc

-- a path is not below itself
not_itself : (p : Path) (name : List ℕ) (rest : Path) → p ≢ p ++ name ∷ rest
not_itself [] name rest is = cc
not_itself (a ∷ p) name rest is = not_itself p name rest (tail_is a a p (p ++ name ∷ rest) is)
  where
    tail_is : (a b : List ℕ) (x y : Path) → a ∷ x ≡ b ∷ y → x ≡ y
    tail_is a b x y is = cc

-- ---- a look-up

-- where what is this far below a row comes from
abbrev pub grown : Path → Option Path → Option Path
grown rest found = option_map (λ o. o ++ rest) found

grown_none : (found : Option Path) → grown [] found ≡ found
grown_none None = refl
grown_none (Some o) = ap (λ (o : Path). Some o) (append-nil o)

grown_more : (found : Option Path) (name : List ℕ) (rest : Path) → grown rest (grown (name ∷ []) found) ≡ grown (name ∷ rest) found
grown_more None name rest = refl
grown_more (Some o) name rest = ap (λ (o : Path). Some o) (append_assoc o (name ∷ []) rest)

pub found_first : (s : Sources) (k : Path) → s k ≡ grown (drop (length k) k) (s (take (length k) k))
found_first s k =
    sym (grown_none (s k)) ∙ ap (λ (rest : Path). grown rest (s k)) (sym (drop_whole k))
    ∙ ap (λ (front : Path). grown (drop (length k) k) (s front)) (sym (take_all (length k) k (omega arith)))
  where
    drop_whole : (k : Path) → drop (length k) k ≡ []
    drop_whole [] = refl
    drop_whole (name ∷ k) = drop_whole k

module _ (e : Entries) (s : Sources) (tells : Tells e s) (k : Path) (above : ℕ)
    (so_far : s k ≡ grown (drop above k) (s (take above k))) where
  pub found_here : (o : Option Path) → e (take above k) ≡ Some o → s k ≡ grown (drop above k) o
  found_here o is = so_far ∙ ap (grown (drop above k)) (tells.own (take above k) o is)

  pub found_root : above ≡ 0 → e (take above k) ≡ None → s k ≡ Some k
  found_root start is =
      so_far ∙ ap (λ (n : ℕ). grown (drop n k) (s (take n k))) start
      ∙ ap (grown k) (tells.root (sym (ap (λ (n : ℕ). e (take n k)) start) ∙ is))

  pub found_above : 0 < above → above ≤ length k → e (take above k) ≡ None → s k ≡ grown (drop (above - 1) k) (s (take (above - 1) k))
  found_above some within is =
      let name : List ℕ = get_or k (above - 1) [] in
      let next : above - 1 + 1 ≡ above = omega (arith, some) in
      let front_is : take above k ≡ take (above - 1) k ++ name ∷ [] =
      ap (λ (n : ℕ). take n k) (sym next) ∙ take_more k (above - 1) [] (omega (arith, some, within)) in
      let rest_is : drop (above - 1) k ≡ name ∷ drop above k =
      drop_more k (above - 1) [] (omega (arith, some, within)) ∙ ap (λ (n : ℕ). name ∷ drop n k) next in
      so_far
      ∙ ap (grown (drop above k)) (ap s front_is ∙ tells.child (take (above - 1) k) name (sym (ap e front_is) ∙ is))
      ∙ grown_more (s (take (above - 1) k)) name (drop above k)
      ∙ ap (λ (rest : Path). grown rest (s (take (above - 1) k))) (sym rest_is)

-- ---- what is at or below a path is new, or gone

module _ (e new : Entries) (s : Sources) (tells : Tells e s) (p : Path) (here : new p ≡ Some None) (gone : NoneBelow new p)
    (Q : Path → Type 0) (others : (k : Path) → Q k → IsOutside p k → new k ≡ e k) where
  hides_own : (k : Path) (o : Option Path) → Q k → new k ≡ Some o → hidden p s k ≡ o
  hides_own k o q is = elim (side p k) [
    | inside rest at test ↦ hidden_inside p s k rest at ∙ none rest at
    | outside out test ↦ hidden_outside p s k out ∙ tells.own k o (sym (others k q out) ∙ is)
  ]
    where
      none : (rest : Path) → k ≡ p ++ rest → None ≡ o
      none [] at = same_entry None o (sym here ∙ sym (ap new (at ∙ append-nil p)) ∙ is)
      none (name ∷ rest) at = absurd (no_entry o (sym (gone k (name, rest, at)) ∙ is))

  hides_root : Q [] → new [] ≡ None → hidden p s [] ≡ Some []
  hides_root q is = elim (side p []) [
    | inside rest at test ↦ absurd (never rest at)
    | outside out test ↦ hidden_outside p s [] out ∙ tells.root (sym (others [] q out) ∙ is)
  ]
    where
      never : (rest : Path) → [] ≡ p ++ rest → ⊥
      never [] at = no_entry None (sym is ∙ ap new (at ∙ append-nil p) ∙ here)
      never (name ∷ rest) at = below_not_root p name rest (sym at)

  hides_child : (k : Path) (name : List ℕ) → Q (k ++ name ∷ []) → new (k ++ name ∷ []) ≡ None
      → hidden p s (k ++ name ∷ []) ≡ grown (name ∷ []) (hidden p s k)
  hides_child k name q is = elim (side p (k ++ name ∷ [])) [
    | inside rest at test ↦ elim (ends rest) [
      | at_root none ↦
          absurd (no_entry None (sym is ∙ ap new (at ∙ ap (λ (rest : Path). p ++ rest) none ∙ append-nil p) ∙ here))
      | in_name r last some ↦
          let front : k ≡ p ++ r =
          same_front_of k (p ++ r) name last
          (at ∙ ap (λ (rest : Path). p ++ rest) some ∙ sym (append_assoc p r (last ∷ []))) in
          hidden_inside p s (k ++ name ∷ []) rest at ∙ ap (grown (name ∷ [])) (sym (hidden_inside p s k r front))
    ]
    | outside out test ↦
        hidden_outside p s (k ++ name ∷ []) out ∙ tells.child k name (sym (others (k ++ name ∷ []) q out) ∙ is)
        ∙ ap (grown (name ∷ [])) (sym (hidden_outside p s k (front_outside p k name out)))
  ]

module _ (e mid new : Entries) (p : Path) (clears : Clears e mid p) (sets : Sets mid new p (Some None)) (s : Sources) (tells : Tells e s)
  where
    hides_gone : NoneBelow new p
    hides_gone k below =
        sets.others k (λ is. not_itself p below.0 below.1 (sym is ∙ below.2)) ∙ clears.gone k below

    hides_others : (k : Path) → Unit {0} → IsOutside p k → new k ≡ e k
    hides_others k q out = sets.others k (λ is. out [] (is ∙ at_itself p)) ∙ clears.others k (λ below. out (below.0 ∷ below.1) below.2)

    pub tells_hidden : Tells new (hidden p s)
    tells_hidden = record {
      own = λ k o is. hides_own e new s tells p sets.here hides_gone (λ k. Unit {0}) hides_others k o tt is;
      root = λ is. hides_root e new s tells p sets.here hides_gone (λ k. Unit {0}) hides_others tt is;
      child = λ k name is. hides_child e new s tells p sets.here hides_gone (λ k. Unit {0}) hides_others k name tt is;
    }

-- ---- what was at or below a path is at or below another

module _ (e one two three new : Entries) (p q : Path) (are_apart : AreApart p q) (clears : Clears e one q) (carries : Carries one two p q)
    (s : Sources) (tells : Tells e s) (sets : Sets two three q (Some (s p))) (ends_at : Sets three new p (Some None)) where
  carries_here : new q ≡ Some (s p)
  carries_here = ends_at.others q (λ is. are_apart.second [] (is ∙ at_itself p)) ∙ sets.here

  carries_moved : (name : List ℕ) (rest : Path) → new (q ++ name ∷ rest) ≡ e (p ++ name ∷ rest)
  carries_moved name rest =
      ends_at.others (q ++ name ∷ rest) (λ is. are_apart.first (name ∷ rest) (sym is))
      ∙ sets.others (q ++ name ∷ rest) (λ is. not_itself q name rest (sym is)) ∙ carries.moved name rest
      ∙ clears.others (p ++ name ∷ rest)
      (λ below. forked q p (below.0 ∷ below.1) (name ∷ rest) are_apart.second are_apart.first (sym below.2))

  carries_gone : NoneBelow new p
  carries_gone k below =
      ends_at.others k (λ is. not_itself p below.0 below.1 (sym is ∙ below.2))
      ∙ sets.others k (λ is. are_apart.second (below.0 ∷ below.1) (sym is ∙ below.2)) ∙ carries.gone k below

  carries_others : (k : Path) → IsOutside q k → IsOutside p k → new k ≡ e k
  carries_others k out_q out_p =
      ends_at.others k (λ is. out_p [] (is ∙ at_itself p)) ∙ sets.others k (λ is. out_q [] (is ∙ at_itself q))
      ∙ carries.others k (λ below. out_p (below.0 ∷ below.1) below.2) (λ below. out_q (below.0 ∷ below.1) below.2)
      ∙ clears.others k (λ below. out_q (below.0 ∷ below.1) below.2)

  carries_push : (r : Path) (name : List ℕ) → new (q ++ (r ++ name ∷ [])) ≡ e (p ++ (r ++ name ∷ []))
  carries_push [] name = carries_moved name []
  carries_push (n ∷ r) name = carries_moved n (r ++ name ∷ [])

  carries_own : (k : Path) (o : Option Path) → new k ≡ Some o → carried p q s k ≡ o
  carries_own k o is = elim (side q k) [
    | inside rest at test ↦ carried_inside p q s k rest at ∙ by rest at
    | outside out test ↦
        carried_outside p q s k out
        ∙ hides_own e new s tells p ends_at.here carries_gone (IsOutside q) carries_others k o out is
  ]
    where
      by : (rest : Path) → k ≡ q ++ rest → s (p ++ rest) ≡ o
      by [] at = ap s (append-nil p) ∙ same_entry (s p) o (sym carries_here ∙ sym (ap new (at ∙ append-nil q)) ∙ is)
      by (name ∷ rest) at = tells.own (p ++ name ∷ rest) o (sym (carries_moved name rest) ∙ sym (ap new at) ∙ is)

  carries_root : new [] ≡ None → carried p q s [] ≡ Some []
  carries_root is = elim (side q []) [
    | inside rest at test ↦ absurd (never rest at)
    | outside out test ↦
        carried_outside p q s [] out
        ∙ hides_root e new s tells p ends_at.here carries_gone (IsOutside q) carries_others out is
  ]
    where
      never : (rest : Path) → [] ≡ q ++ rest → ⊥
      never [] at = no_entry (s p) (sym is ∙ ap new (at ∙ append-nil q) ∙ carries_here)
      never (name ∷ rest) at = below_not_root q name rest (sym at)

  carries_child : (k : Path) (name : List ℕ) → new (k ++ name ∷ []) ≡ None
      → carried p q s (k ++ name ∷ []) ≡ grown (name ∷ []) (carried p q s k)
  carries_child k name is = elim (side q (k ++ name ∷ [])) [
    | inside rest at test ↦ elim (ends rest) [
      | at_root none ↦
          absurd (no_entry (s p) (sym is ∙ ap new (at ∙ ap (λ (rest : Path). q ++ rest) none ∙ append-nil q) ∙ carries_here))
      | in_name r last some ↦
          let whole : k ++ name ∷ [] ≡ (q ++ r) ++ last ∷ [] =
          at ∙ ap (λ (rest : Path). q ++ rest) some ∙ sym (append_assoc q r (last ∷ [])) in
          let front : k ≡ q ++ r = same_front_of k (q ++ r) name last whole in
          let named : last ≡ name = sym (last_same k (q ++ r) name last whole) in
          let rest_is : rest ≡ r ++ name ∷ [] = some ∙ ap (λ (name : List ℕ). r ++ name ∷ []) named in
          let none : e ((p ++ r) ++ name ∷ []) ≡ None =
          ap e (append_assoc p r (name ∷ [])) ∙ sym (carries_push r name)
          ∙ sym (ap new (at ∙ ap (λ (rest : Path). q ++ rest) rest_is)) ∙ is in
          carried_inside p q s (k ++ name ∷ []) rest at
          ∙ ap s (ap (λ (rest : Path). p ++ rest) rest_is ∙ sym (append_assoc p r (name ∷ [])))
          ∙ tells.child (p ++ r) name none ∙ ap (grown (name ∷ [])) (sym (carried_inside p q s k r front))
    ]
    | outside out test ↦
        carried_outside p q s (k ++ name ∷ []) out
        ∙ hides_child e new s tells p ends_at.here carries_gone (IsOutside q) carries_others k name out is
        ∙ ap (grown (name ∷ [])) (sym (carried_outside p q s k (front_outside q k name out)))
  ]

  pub tells_carried : Tells new (carried p q s)
  tells_carried = record { own = carries_own; root = carries_root; child = carries_child }

-- without an entry each row comes from its own path
pub tells_first : (e : Entries) → ((k : Path) → e k ≡ None) → Tells e (λ k. Some k)
tells_first e none = record {
  own = λ k o is. absurd (no_entry o (sym (none k) ∙ is));
  root = λ is. refl;
  child = λ k name is. refl;
}
