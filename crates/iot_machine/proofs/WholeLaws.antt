-- The server's whole tree, as it is brought for a resolution.
use Rattle.std.proofs.Common.{◌≡◌, ℕ, List, [], ◌∷◌, ◌++◌, Bool, true, false, Option, Some, None, IsSome}
use Rattle.std.proofs.Common.{cond, option_map, refl, ◌∙◌, ◌&&◌, suc, nat_lt, length, is_some, arith}
use Rattle.std.proofs.lemmas.Bool.Decides.{nat_tests}
use Rattle.iot_text.proofs.PathsLaws.{path_total, path_same}
use Rattle.std.specs.FinMap.{get, same_map}
use Rattle.iot_tree.specs.Tree.{Nodes, Path, IsTree}
use Rattle.iot_tree.specs.Snapshots.{has, known, widen, is_reached, seen}
use Rattle.iot_tree.specs.declared.nodes.Node.{Node}
use Rattle.iot_tree.specs.declared.want.Want.TheVariants as wanted
use Rattle.iot_tree.proofs.AncestorLaws.{or_true}
use Rattle.iot_tree.proofs.TreeLaws.{ancestors}
use Rattle.iot_tree.proofs.SnapshotLaws.{by_names, all_push}
use Rattle.iot_tree.proofs.PruneLaws.{get_pruned}
use Rattle.iot_machine.specs.Clients.{new_client, snapshot}

module _ (t : Nodes) (tree : IsTree t) where
  abbrev among : Path → Bool
  among = widen (has (known new_client.held)) t (wanted.Below [])

  -- each path of the tree is wanted
  is_among : (q : Path) → IsSome (get t q) → among q ≡ true
  is_among [] mapped = or_true _ true refl
  is_among (name ∷ names) mapped = or_true _ _ (within (length names) (is_some (get t (name ∷ names))) mapped)
    where
      within : (n : ℕ) (b : Bool) → b ≡ true → (nat_lt 0 (suc n) && true && b) ≡ true
      within n b is = grind (arith, nat_tests)

  -- and is reached
  reached : (q : Path) → IsSome (get t q) → is_reached among q ≡ true
  reached q = by_names (λ q. IsSome (get t q) → is_reached among q ≡ true) (λ _. refl) push q
    where
      push : (q : Path) (name : List ℕ) → (IsSome (get t q) → is_reached among q ≡ true) → IsSome (get t (q ++ name ∷ []))
          → is_reached among (q ++ name ∷ []) ≡ true
      push q name before mapped =
          let above : IsSome (get t q) = rw (ancestors t tree q name [] mapped) refl in
          all_push among q name ∙ rw (before above, is_among q above) refl

  -- nothing is cut off
  pub whole_comes : snapshot new_client.held (wanted.Below []) t ≡ t
  whole_comes = same_map path_total path_same _ _ (λ q. get_pruned t among q ∙ left q (get t q) refl)
    where
      nothing : (b : Bool) (k : Bool) → cond b (option_map (seen k) None) None ≡ None
      nothing true k = refl
      nothing false k = refl

      left : (q : Path) (o : Option Node) → get t q ≡ o → cond (is_reached among q) (option_map (seen (among q)) o) None ≡ o
      left q None is = nothing (is_reached among q) (among q)
      left q (Some node) is =
          let mapped : IsSome (get t q) = rw is refl in
          rw (reached q mapped, is_among q mapped) refl
