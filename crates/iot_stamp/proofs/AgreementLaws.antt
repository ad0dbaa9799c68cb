-- What keeps a held tree and the server's tree in agreement.
use Rattle.std.proofs.Common.{◌≡◌, ◌≢◌, ◌⊎◌, ℕ, ◌<◌, ◌≤◌, Bool, true, false, cond, [], ◌∷◌, ◌++◌, Option, Some, None}
use Rattle.std.proofs.Common.{option_map, refl, sym, ap, subst, ◌∙◌, inl, inr, arith, nat_eq}
use Rattle.std.proofs.lemmas.Bool.Decides.{eqb_tells}
use Rattle.std.specs.FinMap.{get}
use Rattle.iot_tree.specs.Tree.{Nodes, IsWhole, Path}
use Rattle.iot_tree.specs.declared.nodes.Node.{Node}
use Rattle.iot_stamp.proofs.PrunedLaws.{whole_known, reached_push, get_kept, get_far, get_reached, row_reached}
use Rattle.iot_stamp.proofs.StampsLaws.{with_row, node_some, nodes_with, with_far_zero}
use Rattle.iot_tree.specs.Snapshots.{is_known, is_reached, far, seen, prune}
use Rattle.iot_stamp.specs.Stamps.{Stamps, nodes_of, stamp_at, with_stamps, FarZero, stamp_in, pruned}
use Rattle.iot_stamp.specs.Agreement.{SameInside, Agrees, IsPositive, UpTo, Keeps}
use Rattle.iot_tree.specs.declared.nodes.Node.TheVariants.{Dir, File, FarDir, FarFile}
use Rattle.iot_stamp.proofs.RefreshLaws.{far_unknown, no_false, is_some_of, some_one}

pub same_self : (t : Nodes) (p : Path) → SameInside t t p
same_self t p = record { row = refl; names = λ name. refl }

pub same_then : (t u v : Nodes) (p : Path) → SameInside t u p → SameInside u v p → SameInside t v p
same_then t u v p one two = record { row = one.row ∙ two.row; names = λ name. one.names name ∙ two.names name }

pub same_back : (t u : Nodes) (p : Path) → SameInside t u p → SameInside u t p
same_back t u p one = record { row = sym one.row; names = λ name. sym (one.names name) }

-- nothing done keeps all
pub keeps_none : (t : Stamps) (stamp : ℕ) → Keeps t t stamp
keeps_none t stamp p a n is known other = (is, same_self (nodes_of t) p)

-- one change after the other
pub keeps_then : (t u v : Stamps) (stamp : ℕ) → Keeps t u stamp → Keeps u v stamp → Keeps t v stamp
keeps_then t u v stamp one two p a n is known other =
    let later = two p a n is known other in
    let first = one p a n later.0 known other in
    (first.0, same_then (nodes_of t) (nodes_of u) (nodes_of v) p first.1 later.1)

-- a commit: its stamp is above all that the held tree has
pub agrees_commit : (held s new : Stamps) (bound stamp : ℕ) → Agrees held s → UpTo held bound → bound < stamp → IsWhole (nodes_of new)
    → Keeps s new stamp → Agrees held new
agrees_commit held s new bound stamp agrees up above whole keeps p a b n here there =
    let other : n ≢ stamp = λ is. absurd (omega (arith, up p a n here, above, is)) in
    let before = keeps p b n there (whole_known (nodes_of new) whole p b (node_some new p b n there)) other in
    same_then (nodes_of held) (nodes_of s) (nodes_of new) p (agrees p a b n here before.0) before.1

-- a client's own updates, whose stamp is 0
pub agrees_own : (held new s : Stamps) → Agrees held s → IsPositive s → FarZero new → Keeps held new 0 → Agrees new s
agrees_own held new s agrees positive far keeps p a b n here there =
    let some : 0 < n = positive p b n there in
    let other : n ≢ 0 = λ is. absurd (omega (arith, some, is)) in
    let known : is_known a ≡ true = by (is_known a) refl in
    let before = keeps p a n here known other in
    same_then (nodes_of new) (nodes_of held) (nodes_of s) p (same_back (nodes_of held) (nodes_of new) p before.1)
    (agrees p a b n before.0 there)
  where
    by : (c : Bool) → is_known a ≡ c → is_known a ≡ true
    by true is = is
    by false is = absurd (omega (arith, positive p b n there, far p a n here is))

-- a restart, after which each held row has stamp 0
pub agrees_zero : (t : Nodes) (s : Stamps) → IsPositive s → Agrees (with_stamps (λ p. 0) t) s
agrees_zero t s positive p a b n here there =
    let row = with_row (λ q. 0) t p a n here in absurd (omega (arith, positive p b n there, row.stamp ∙ zero_either (is_known a)))
  where
    zero_either : (c : Bool) → ◌≡◌ {A = ℕ} (cond c 0 0) 0
    zero_either true = refl
    zero_either false = refl

-- a whole tree with one stamp on all rows, as a server begins
pub positive_with : (t : Nodes) (stamp : ℕ) → IsWhole t → 0 < stamp → IsPositive (with_stamps (λ p. stamp) t)
positive_with t stamp whole some p a n is =
    let row = with_row (λ q. stamp) t p a n is in
    omega (arith, some, row.stamp ∙ ap (λ (b : Bool). cond b stamp 0) (whole_known t whole p a row.node))

pub up_with : (t : Nodes) (stamp : ℕ) → UpTo (with_stamps (λ p. stamp) t) stamp
up_with t stamp p a n is = by (is_known a) (with_row (λ q. stamp) t p a n is).stamp
  where
    by : (b : Bool) → n ≡ cond b stamp 0 → n ≤ stamp
    by true one = omega (arith, one)
    by false one = omega (arith, one)

-- stamps stay positive, and up to the new one
pub positive_commit : (s new : Stamps) (stamp : ℕ) → IsPositive s → 0 < stamp → IsWhole (nodes_of new) → Keeps s new stamp → IsPositive new
positive_commit s new stamp positive some whole keeps p a n is = elim (eqb_tells n stamp) [
  | inl same ↦ omega (arith, same.1, some)
  | inr other ↦ positive p a n (keeps p a n is (whole_known (nodes_of new) whole p a (node_some new p a n is)) other.1).0
]

pub up_commit : (s new : Stamps) (bound stamp : ℕ) → UpTo s bound → bound < stamp → IsWhole (nodes_of new) → Keeps s new stamp
    → UpTo new stamp
up_commit s new bound stamp up above whole keeps p a n is = elim (eqb_tells n stamp) [
  | inl same ↦ omega (arith, same.1)
  | inr other ↦ omega (arith, above, up p a n (keeps p a n is (whole_known (nodes_of new) whole p a (node_some new p a n is)) other.1).0)
]

-- a client's own updates leave no stamp above the bound
pub up_own : (held new : Stamps) (bound : ℕ) → UpTo held bound → FarZero new → Keeps held new 0 → UpTo new bound
up_own held new bound up far keeps p a n is = by (is_known a) refl (eqb_tells n 0)
  where
    by : (c : Bool) → is_known a ≡ c → ((nat_eq n 0 ≡ true) × (n ≡ 0)) ⊎ ((nat_eq n 0 ≡ false) × (n ≢ 0)) → n ≤ bound
    by c known (inl same) = omega (arith, same.1)
    by true known (inr other) = up p a n (keeps p a n is known other.1).0
    by false known (inr other) = absurd (other.1 (far p a n is known))

-- ---- a held tree that was refreshed

far_seen : (b : Bool) (node : Node) → far (seen b node) ≡ far node
far_seen true node = refl
far_seen false Dir = refl
far_seen false (File bytes mode) = refl
far_seen false FarDir = refl
far_seen false (FarFile mode) = refl

shown_seen : (b : Bool) (o : Option Node) → option_map far (option_map (λ node. seen b node) o) ≡ option_map far o
shown_seen b None = refl
shown_seen b (Some node) = ap (λ (node : Node). Some node) (far_seen b node)

far_not : (o : Option Node) (a : Node) → option_map far o ≡ Some a → is_known a ≡ true → ⊥
far_not None a is known = let none : ◌≡◌ {A = Option Node} None (Some a) = is in cc
far_not (Some b) a is known = no_false (sym known ∙ ap is_known (sym (some_one (far b) a is)) ∙ far_unknown b)

module _ (s : Stamps) (k : Path → Bool) where
  -- a path among k that is not cut off is the same in the pruned tree, also inside
  pub same_kept : (p : Path) → is_reached k p ≡ true → k p ≡ true → SameInside (prune (nodes_of s) k) (nodes_of s) p
  same_kept p uncut here = record {
    row = get_kept (nodes_of s) k p uncut here;
    names =
        λ name. ap (option_map far) (get_reached (nodes_of s) k (p ++ name ∷ []) (reached_push k p name uncut here))
        ∙ shown_seen (k (p ++ name ∷ [])) (get (nodes_of s) (p ++ name ∷ []));
  }

  pub agrees_pruned : IsPositive s → Agrees (pruned s k) s
  agrees_pruned positive p a b n here there =
      let row = with_row (stamp_at s) (prune (nodes_of s) k) p a n here in
      let uncut : is_reached k p ≡ true = row_reached (nodes_of s) k p (is_some_of _ a row.node) in
      let known : is_known a ≡ true = by (is_known a) refl row.stamp in
      subst (λ (nodes : Nodes). SameInside nodes (nodes_of s) p) (sym (nodes_with (stamp_at s) (prune (nodes_of s) k)))
      (same_kept p uncut (among (k p) refl uncut row.node known))
    where
      by : (c : Bool) → is_known a ≡ c → n ≡ cond (is_known a) (stamp_at s p) 0 → is_known a ≡ true
      by true is stamp = is
      by false is stamp = let none : n ≡ 0 = stamp ∙ ap (λ (c : Bool). cond c (stamp_at s p) 0) is in
          absurd (omega (arith, positive p b n there, none))

      among : (c : Bool) → k p ≡ c → is_reached k p ≡ true → get (prune (nodes_of s) k) p ≡ Some a → is_known a ≡ true → k p ≡ true
      among true is uncut found known = is
      among false is uncut found known = absurd (far_not (get (nodes_of s) p) a (sym (get_far (nodes_of s) k p uncut is) ∙ found) known)

  pub far_zero_pruned : FarZero (pruned s k)
  far_zero_pruned = with_far_zero (stamp_at s) (prune (nodes_of s) k)

  pub up_pruned : (bound : ℕ) → UpTo s bound → UpTo (pruned s k) bound
  up_pruned bound up p a n here = by (is_known a) (with_row (stamp_at s) (prune (nodes_of s) k) p a n here).stamp (stamp_up (get s p) refl)
    where
      stamp_up : (o : Option (Node × ℕ)) → get s p ≡ o → stamp_at s p ≤ bound
      stamp_up None is = omega (arith, ap stamp_in is)
      stamp_up (Some row) is = omega (arith, ap stamp_in is, up p row.0 row.1 is)

      by : (c : Bool) → n ≡ cond c (stamp_at s p) 0 → stamp_at s p ≤ bound → n ≤ bound
      by true is le = omega (arith, is, le)
      by false is le = omega (arith, is)
