-- Two trees before a run, the trees after it, and where their rows come from.
use Rattle.std.proofs.Common.{◌≡◌, ◌↔◌, [], ◌∷◌, ◌++◌, Option, Some, None, option_map, length, drop, if◌then◌else◌}
use Rattle.std.proofs.Common.{sym, ap, subst, ◌∙◌, append_assoc}
use Rattle.std.proofs.lemmas.List.{append-nil}
use Rattle.std.proofs.Math.Seq.{drop-append_seam}
use Rattle.std.specs.FinMap.{get}
use Rattle.iot_tree.specs.Tree.{Nodes, Path}
use Rattle.iot_tree.proofs.AncestorLaws.{ends, at_root, in_name}
use Rattle.iot_tree.proofs.WithinLaws.{IsOutside, side, inside, outside, test_is}
use Rattle.iot_access.specs.Sources.{hidden, carried}
use Rattle.iot_access.proofs.ModelessLaws.{modeless, row_at, same_kind_of}
use Rattle.iot_tree.proofs.ChildKindLaws.{Name, SameKind, row_kind}
use Rattle.iot_tree.proofs.UpdateLaws.{front_outside, same_front_of}

-- where each row comes from
abbrev pub Sources : Type 0
Sources = Path → Option Path

-- but for their modes, rows with a source are those of the trees before, and the others are the same; and the kinds of a child are the
-- same after exactly if they were the same before
pub record Tied (s : Sources) (t1 u1 t2 u2 : Nodes) : Type 0 where
  pub first : (k o : Path) → s k ≡ Some o → row_at u1 k ≡ row_at t1 o
  pub second : (k o : Path) → s k ≡ Some o → row_at u2 k ≡ row_at t2 o
  pub own : (k : Path) → s k ≡ None → row_at u1 k ≡ row_at u2 k
  pub child : (x : Path) (n : Name) (o : Path) → s x ≡ Some o → SameKind u1 u2 (x ++ n ∷ []) ↔ SameKind t1 t2 (o ++ n ∷ [])
  pub own_child : (x : Path) (n : Name) → s x ≡ None → SameKind u1 u2 (x ++ n ∷ [])

pub same_some : (a b : Path) → Some a ≡ Some b → a ≡ b
same_some a b is = cc

-- before a run
pub tied_first : (t1 t2 : Nodes) → Tied (λ k. Some k) t1 t1 t2 t2
tied_first t1 t2 = record {
  first = λ k o is. ap (row_at t1) (same_some k o is);
  second = λ k o is. ap (row_at t2) (same_some k o is);
  own = λ k is. absurd cc;
  child =
      λ x n o is. subst (λ (o : Path). SameKind t1 t2 (x ++ n ∷ []) ↔ SameKind t1 t2 (o ++ n ∷ [])) (same_some x o is) ((λ h. h), (λ h. h));
  own_child = λ x n is. absurd cc;
}

-- ---- what the new sources are

pub hidden_inside : (p : Path) (s : Sources) (k rest : Path) → k ≡ p ++ rest → hidden p s k ≡ None
hidden_inside p s k rest is = ap (λ b. if b then None else s k) ((test_is p k).1 rest is)

pub hidden_outside : (p : Path) (s : Sources) (k : Path) → IsOutside p k → hidden p s k ≡ s k
hidden_outside p s k out = elim (side p k) [
  | inside rest is test ↦ absurd (out rest is)
  | outside away test ↦ ap (λ b. if b then None else s k) test
]

pub carried_inside : (p q : Path) (s : Sources) (k rest : Path) → k ≡ q ++ rest → carried p q s k ≡ s (p ++ rest)
carried_inside p q s k rest is =
    ap (λ b. if b then s (p ++ drop (length q) k) else hidden p s k) ((test_is q k).1 rest is)
    ∙ ap (λ (tail : Path). s (p ++ tail)) (ap (drop (length q)) is ∙ drop-append_seam q rest)

pub carried_outside : (p q : Path) (s : Sources) (k : Path) → IsOutside q k → carried p q s k ≡ hidden p s k
carried_outside p q s k out = elim (side q k) [
  | inside rest is test ↦ absurd (out rest is)
  | outside away test ↦ ap (λ b. if b then s (p ++ drop (length q) k) else hidden p s k) test
]

-- a path outside whose child is inside: the child is the path itself
at_edge : (p x : Path) (n : Name) (rest : Path) → IsOutside p x → x ++ n ∷ [] ≡ p ++ rest → x ++ n ∷ [] ≡ p
at_edge p x n rest out is = elim (ends rest) [
  | at_root none ↦ is ∙ ap (λ (rest : Path). p ++ rest) none ∙ append-nil p
  | in_name r m some ↦
      absurd (out r (same_front_of x (p ++ r) n m (is ∙ ap (λ (rest : Path). p ++ rest) some ∙ sym (append_assoc p r (m ∷ [])))))
]

pub no_source : (o : Path) → ◌≡◌ {A = Option Path} None (Some o) → ⊥
no_source o is = cc

-- a row, carried over, is the same without its mode
row_by : (a b : Nodes) (j k : Path) → get a j ≡ get b k → row_at a j ≡ row_at b k
row_by a b j k same = ap (option_map modeless) same

-- the same kind, carried over
same_by : (a b c d : Nodes) (j k : Path) → get c j ≡ get a k → get d j ≡ get b k → SameKind a b k → SameKind c d j
same_by a b c d j k left right same = ap row_kind left ∙ same ∙ sym (ap row_kind right)

iff_by : (a b c d : Nodes) (j k : Path) (G : Type 0) → get c j ≡ get a k → get d j ≡ get b k → SameKind a b k ↔ G → SameKind c d j ↔ G
iff_by a b c d j k G left right iff = (
  (λ same. iff.0 (same_by c d a b k j (sym left) (sym right) same)),
  (λ g. same_by a b c d j k left right (iff.1 g)),
)

module _ (s : Sources) (t1 u1 t2 u2 : Nodes) (tied : Tied s t1 u1 t2 u2) where
  -- ---- no row changes but for its mode
  pub tied_modeless : (v1 v2 : Nodes) → ((k : Path) → row_at v1 k ≡ row_at u1 k) → ((k : Path) → row_at v2 k ≡ row_at u2 k)
      → Tied s t1 v1 t2 v2
  tied_modeless v1 v2 same1 same2 =
      let left : (k : Path) → SameKind v1 u1 k = λ k. same_kind_of v1 u1 k (same1 k) in
      let right : (k : Path) → SameKind u2 v2 k = λ k. same_kind_of u2 v2 k (sym (same2 k)) in
      record {
        first = λ k o is. same1 k ∙ tied.first k o is;
        second = λ k o is. same2 k ∙ tied.second k o is;
        own = λ k is. same1 k ∙ tied.own k is ∙ sym (same2 k);
        child = λ x n o is. (
          (λ same. (tied.child x n o is).0 (sym (left (x ++ n ∷ [])) ∙ same ∙ sym (right (x ++ n ∷ [])))),
          (λ same. left (x ++ n ∷ []) ∙ (tied.child x n o is).1 same ∙ right (x ++ n ∷ [])),
        );
        own_child = λ x n is. left (x ++ n ∷ []) ∙ tied.own_child x n is ∙ right (x ++ n ∷ []);
      }

  -- ---- what is at or below a path is new, and the same in both trees
  module _ (p : Path) (v1 v2 : Nodes) (guard : SameKind u1 u2 p)
      (else1 : (k : Path) → IsOutside p k → get v1 k ≡ get u1 k) (else2 : (k : Path) → IsOutside p k → get v2 k ≡ get u2 k)
      (alike : (rest : Path) → row_at v1 (p ++ rest) ≡ row_at v2 (p ++ rest)) where
    hidden_first : (k o : Path) → hidden p s k ≡ Some o → row_at v1 k ≡ row_at t1 o
    hidden_first k o is = elim (side p k) [
      | inside rest at test ↦ absurd (no_source o (sym (hidden_inside p s k rest at) ∙ is))
      | outside out test ↦ row_by v1 u1 k k (else1 k out) ∙ tied.first k o (sym (hidden_outside p s k out) ∙ is)
    ]

    hidden_second : (k o : Path) → hidden p s k ≡ Some o → row_at v2 k ≡ row_at t2 o
    hidden_second k o is = elim (side p k) [
      | inside rest at test ↦ absurd (no_source o (sym (hidden_inside p s k rest at) ∙ is))
      | outside out test ↦ row_by v2 u2 k k (else2 k out) ∙ tied.second k o (sym (hidden_outside p s k out) ∙ is)
    ]

    alike_at : (k rest : Path) → k ≡ p ++ rest → row_at v1 k ≡ row_at v2 k
    alike_at k rest is = ap (row_at v1) is ∙ alike rest ∙ sym (ap (row_at v2) is)

    hidden_own : (k : Path) → hidden p s k ≡ None → row_at v1 k ≡ row_at v2 k
    hidden_own k is = elim (side p k) [
      | inside rest at test ↦ alike_at k rest at
      | outside out test ↦
          row_by v1 u1 k k (else1 k out) ∙ tied.own k (sym (hidden_outside p s k out) ∙ is) ∙ sym (row_by v2 u2 k k (else2 k out))
    ]

    hidden_child : (x : Path) (n : Name) (o : Path) → hidden p s x ≡ Some o → SameKind v1 v2 (x ++ n ∷ []) ↔ SameKind t1 t2 (o ++ n ∷ [])
    hidden_child x n o is = elim (side p x) [
      | inside rest at test ↦ absurd (no_source o (sym (hidden_inside p s x rest at) ∙ is))
      | outside out test ↦
          let old = tied.child x n o (sym (hidden_outside p s x out) ∙ is) in
          elim (side p (x ++ n ∷ [])) [
            | inside rest at test ↦ (
              (λ _. old.0 (subst (λ (path : Path). SameKind u1 u2 path) (sym (at_edge p x n rest out at)) guard)),
              (λ _. same_kind_of v1 v2 (x ++ n ∷ []) (alike_at (x ++ n ∷ []) rest at)),
            )
            | outside away test ↦
                iff_by u1 u2 v1 v2 (x ++ n ∷ []) (x ++ n ∷ []) (SameKind t1 t2 (o ++ n ∷ [])) (else1 (x ++ n ∷ []) away)
                (else2 (x ++ n ∷ []) away) old
          ]
    ]

    hidden_own_child : (x : Path) (n : Name) → hidden p s x ≡ None → SameKind v1 v2 (x ++ n ∷ [])
    hidden_own_child x n is = elim (side p (x ++ n ∷ [])) [
      | inside rest at test ↦ same_kind_of v1 v2 (x ++ n ∷ []) (alike_at (x ++ n ∷ []) rest at)
      | outside away test ↦
          same_by u1 u2 v1 v2 (x ++ n ∷ []) (x ++ n ∷ []) (else1 (x ++ n ∷ []) away) (else2 (x ++ n ∷ []) away)
          (tied.own_child x n (sym (hidden_outside p s x (front_outside p x n away)) ∙ is))
    ]

    pub tied_hidden : Tied (hidden p s) t1 v1 t2 v2
    tied_hidden =
        record { first = hidden_first; second = hidden_second; own = hidden_own; child = hidden_child; own_child = hidden_own_child }

  -- ---- what is at or below a path comes to another
  module _ (p q : Path) (v1 v2 : Nodes) (pq : IsOutside p q) (qp : IsOutside q p) (from : SameKind u1 u2 p) (to : SameKind u1 u2 q)
      (moved1 : (rest : Path) → get v1 (q ++ rest) ≡ get u1 (p ++ rest)) (moved2 : (rest : Path) → get v2 (q ++ rest) ≡ get u2 (p ++ rest))
      (gone1 : (rest : Path) → get v1 (p ++ rest) ≡ None) (gone2 : (rest : Path) → get v2 (p ++ rest) ≡ None)
      (else1 : (k : Path) → IsOutside p k → IsOutside q k → get v1 k ≡ get u1 k)
      (else2 : (k : Path) → IsOutside p k → IsOutside q k → get v2 k ≡ get u2 k) where
    -- where a path's row comes from
    data Place (k : Path) : Type 0 where
      came : (rest : Path) → k ≡ q ++ rest → carried p q s k ≡ s (p ++ rest) → Place k
      went : (rest : Path) → k ≡ p ++ rest → IsOutside q k → carried p q s k ≡ None → Place k
      stayed : IsOutside p k → IsOutside q k → carried p q s k ≡ s k → Place k

    place : (k : Path) → Place k
    place k = elim (side q k) [
      | inside rest is test ↦ came rest is (carried_inside p q s k rest is)
      | outside out_q test ↦ elim (side p k) [
        | inside rest is test ↦ went rest is out_q (carried_outside p q s k out_q ∙ hidden_inside p s k rest is)
        | outside out_p test ↦ stayed out_p out_q (carried_outside p q s k out_q ∙ hidden_outside p s k out_p)
      ]
    ]

    both_gone : (k rest : Path) → k ≡ p ++ rest → get v1 k ≡ get v2 k
    both_gone k rest is = ap (get v1) is ∙ gone1 rest ∙ sym (gone2 rest) ∙ sym (ap (get v2) is)

    came1 : (k rest : Path) → k ≡ q ++ rest → get v1 k ≡ get u1 (p ++ rest)
    came1 k rest is = ap (get v1) is ∙ moved1 rest

    came2 : (k rest : Path) → k ≡ q ++ rest → get v2 k ≡ get u2 (p ++ rest)
    came2 k rest is = ap (get v2) is ∙ moved2 rest

    carried_first : (k o : Path) → carried p q s k ≡ Some o → row_at v1 k ≡ row_at t1 o
    carried_first k o is = elim (place k) [
      | came rest at from ↦ row_by v1 u1 k (p ++ rest) (came1 k rest at) ∙ tied.first (p ++ rest) o (sym from ∙ is)
      | went rest at out none ↦ absurd (no_source o (sym none ∙ is))
      | stayed out_p out_q same ↦ row_by v1 u1 k k (else1 k out_p out_q) ∙ tied.first k o (sym same ∙ is)
    ]

    carried_second : (k o : Path) → carried p q s k ≡ Some o → row_at v2 k ≡ row_at t2 o
    carried_second k o is = elim (place k) [
      | came rest at from ↦ row_by v2 u2 k (p ++ rest) (came2 k rest at) ∙ tied.second (p ++ rest) o (sym from ∙ is)
      | went rest at out none ↦ absurd (no_source o (sym none ∙ is))
      | stayed out_p out_q same ↦ row_by v2 u2 k k (else2 k out_p out_q) ∙ tied.second k o (sym same ∙ is)
    ]

    carried_own : (k : Path) → carried p q s k ≡ None → row_at v1 k ≡ row_at v2 k
    carried_own k is = elim (place k) [
      | came rest at from ↦
          row_by v1 u1 k (p ++ rest) (came1 k rest at) ∙ tied.own (p ++ rest) (sym from ∙ is)
          ∙ sym (row_by v2 u2 k (p ++ rest) (came2 k rest at))
      | went rest at out none ↦ row_by v1 v2 k k (both_gone k rest at)
      | stayed out_p out_q same ↦
          row_by v1 u1 k k (else1 k out_p out_q) ∙ tied.own k (sym same ∙ is) ∙ sym (row_by v2 u2 k k (else2 k out_p out_q))
    ]

    deeper : (x rest : Path) (n : Name) → x ≡ q ++ rest → x ++ n ∷ [] ≡ q ++ (rest ++ n ∷ [])
    deeper x rest n is = ap (λ (path : Path). path ++ n ∷ []) is ∙ append_assoc q rest (n ∷ [])

    deeper1 : (x rest : Path) (n : Name) → x ≡ q ++ rest → get v1 (x ++ n ∷ []) ≡ get u1 ((p ++ rest) ++ n ∷ [])
    deeper1 x rest n is = came1 (x ++ n ∷ []) (rest ++ n ∷ []) (deeper x rest n is) ∙ ap (get u1) (sym (append_assoc p rest (n ∷ [])))

    deeper2 : (x rest : Path) (n : Name) → x ≡ q ++ rest → get v2 (x ++ n ∷ []) ≡ get u2 ((p ++ rest) ++ n ∷ [])
    deeper2 x rest n is = came2 (x ++ n ∷ []) (rest ++ n ∷ []) (deeper x rest n is) ∙ ap (get u2) (sym (append_assoc p rest (n ∷ [])))

    -- the kinds of a child that came, went, or stayed, where its directory stayed
    stayed_child : (x : Path) (n : Name) (o : Path) → IsOutside p x → IsOutside q x → s x ≡ Some o → SameKind v1 v2 (x ++ n ∷ [])
        ↔ SameKind t1 t2 (o ++ n ∷ [])
    stayed_child x n o out_p out_q is =
        let old = tied.child x n o is in
        elim (place (x ++ n ∷ [])) [
          | came rest at _ ↦
              let edge : x ++ n ∷ [] ≡ q = at_edge q x n rest out_q at in
              let nothing : x ++ n ∷ [] ≡ q ++ [] = edge ∙ sym (append-nil q) in (
                (λ _. old.0 (subst (λ (path : Path). SameKind u1 u2 path) (sym edge) to)),
                (λ _. same_by u1 u2 v1 v2 (x ++ n ∷ []) p (came1 (x ++ n ∷ []) [] nothing ∙ ap (get u1) (append-nil p))
                    (came2 (x ++ n ∷ []) [] nothing ∙ ap (get u2) (append-nil p)) from),
              )
          | went rest at _ none ↦ (
            (λ _. old.0 (subst (λ (path : Path). SameKind u1 u2 path) (sym (at_edge p x n rest out_p at)) from)),
            (λ _. ap row_kind (both_gone (x ++ n ∷ []) rest at)),
          )
          | stayed away_p away_q same ↦
              iff_by u1 u2 v1 v2 (x ++ n ∷ []) (x ++ n ∷ []) (SameKind t1 t2 (o ++ n ∷ [])) (else1 (x ++ n ∷ []) away_p away_q)
              (else2 (x ++ n ∷ []) away_p away_q) old
        ]

    carried_child : (x : Path) (n : Name) (o : Path) → carried p q s x ≡ Some o → SameKind v1 v2 (x ++ n ∷ [])
        ↔ SameKind t1 t2 (o ++ n ∷ [])
    carried_child x n o is = elim (place x) [
      | came rest at from ↦
          iff_by u1 u2 v1 v2 (x ++ n ∷ []) ((p ++ rest) ++ n ∷ []) (SameKind t1 t2 (o ++ n ∷ [])) (deeper1 x rest n at)
          (deeper2 x rest n at) (tied.child (p ++ rest) n o (sym from ∙ is))
      | went rest at out none ↦ absurd (no_source o (sym none ∙ is))
      | stayed out_p out_q same ↦ stayed_child x n o out_p out_q (sym same ∙ is)
    ]

    -- the kinds are the same where those of a child that stayed were
    stayed_same : (x : Path) (n : Name) → IsOutside p x → IsOutside q x → SameKind u1 u2 (x ++ n ∷ []) → SameKind v1 v2 (x ++ n ∷ [])
    stayed_same x n out_p out_q old = elim (place (x ++ n ∷ [])) [
      | came rest at _ ↦
          let nothing : x ++ n ∷ [] ≡ q ++ [] = at_edge q x n rest out_q at ∙ sym (append-nil q) in
          same_by u1 u2 v1 v2 (x ++ n ∷ []) p (came1 (x ++ n ∷ []) [] nothing ∙ ap (get u1) (append-nil p))
          (came2 (x ++ n ∷ []) [] nothing ∙ ap (get u2) (append-nil p)) from
      | went rest at _ none ↦ ap row_kind (both_gone (x ++ n ∷ []) rest at)
      | stayed away_p away_q same ↦
          same_by u1 u2 v1 v2 (x ++ n ∷ []) (x ++ n ∷ []) (else1 (x ++ n ∷ []) away_p away_q) (else2 (x ++ n ∷ []) away_p away_q) old
    ]

    went_same : (x rest : Path) (n : Name) → x ≡ p ++ rest → SameKind v1 v2 (x ++ n ∷ [])
    went_same x rest n at =
        ap row_kind (both_gone (x ++ n ∷ []) (rest ++ n ∷ []) (ap (λ (path : Path). path ++ n ∷ []) at ∙ append_assoc p rest (n ∷ [])))

    carried_own_child : (x : Path) (n : Name) → carried p q s x ≡ None → SameKind v1 v2 (x ++ n ∷ [])
    carried_own_child x n is = elim (place x) [
      | came rest at from ↦
          same_by u1 u2 v1 v2 (x ++ n ∷ []) ((p ++ rest) ++ n ∷ []) (deeper1 x rest n at) (deeper2 x rest n at)
          (tied.own_child (p ++ rest) n (sym from ∙ is))
      | went rest at out none ↦ went_same x rest n at
      | stayed out_p out_q same ↦ stayed_same x n out_p out_q (tied.own_child x n (sym same ∙ is))
    ]

    pub tied_carried : Tied (carried p q s) t1 v1 t2 v2
    tied_carried =
        record { first = carried_first; second = carried_second; own = carried_own; child = carried_child; own_child = carried_own_child }
