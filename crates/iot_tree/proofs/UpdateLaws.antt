-- What an update leaves of a tree is a tree.
use Rattle.std.proofs.Common.{◌≡◌, ℕ, List, [], ◌∷◌, ◌++◌, refl, sym, ap, ◌∙◌, true, false, Some, None, length, drop, arith, ◌≢◌, map}
use Rattle.std.proofs.Common.{length-append, ◌⊎◌, cond, IsSome, option_and_then, append_assoc, subst, bytes_eq}
use Rattle.std.proofs.lemmas.Bool.{both_ways}
use Rattle.std.proofs.lemmas.List.{append-nil}
use Rattle.std.specs.Cmp.{tied_itself}
use Rattle.std.specs.FinMap.{find, get, entries, remove, get-remove, get-entries, get-from_entries}
use Rattle.std.specs.List.{starts_with}
use Rattle.std.specs.Ordering.{eq_by_cmp, is_eq}
use Rattle.iot_text.specs.Paths.{path_cmp, parent_of, IsBelow}
use Rattle.iot_text.proofs.PathsLaws.{parent_of-push, path_total}
use Rattle.iot_tree.specs.Tree.{Path, Row, Nodes, parent_node, IsTree}
use Rattle.iot_tree.specs.Updates.{IsLeaf, FitsRemove, FitsMove, FitsSetMode, Fits, renamed, renamed_row, moved, updated}
use Rattle.iot_tree.specs.declared.nodes.Mode.{Mode}
use Rattle.iot_tree.specs.declared.nodes.Node.TheVariants.{Dir, FarDir}
use Rattle.iot_tree.specs.declared.updates.Update.{Update}
use Rattle.iot_tree.specs.declared.updates.Update.TheVariants.{Put, MakeDir, Remove, Move, SetMode}
use Rattle.iot_tree.proofs.AncestorLaws.{ends, at_root, in_name}
use Rattle.iot_tree.proofs.FitsLaws.{file_there, mode_fits_put, mode_inserts}
use Rattle.iot_tree.proofs.RenamedLaws.{renamed_inside, renamed_outside}
use Rattle.iot_tree.proofs.TreeLaws.{apart, none_some, none_not_some, ancestors, tree_insert}
use Rattle.iot_tree.proofs.WithinLaws.{IsOutside, Outside, test_is, side, same_front, outside_found, forked, inside, outside}

-- nodes are a tree if the root is a directory, and each row's parent a directory whose names are known
tree_from : (u : Nodes) → (get u [] ≡ Some Dir) ⊎ (get u [] ≡ Some FarDir)
    → ((front : Path) (last : List ℕ) → IsSome (get u (front ++ last ∷ [])) → get u front ≡ Some Dir) → IsTree u
tree_from u root known = record {
  root = root;
  parents = λ p not_root mapped. elim (ends p) [
    | at_root is ↦ absurd (not_root is)
    | in_name front last is ↦
        ap (parent_node u) is ∙ ap (option_and_then (get u)) (parent_of-push front last)
        ∙ known front last (subst (λ (path : Path). IsSome (get u path)) is mapped)
  ];
}

below : (front : Path) (last : List ℕ) → IsBelow (front ++ last ∷ []) front
below front last = (last, [], refl)

-- a path with a name more is another one
pub longer : (q : Path) (name : List ℕ) (names : Path) → q ++ name ∷ names ≢ q
longer q name names is = absurd (omega (arith, length-append q (name ∷ names), ap length is))

pub longer_front : (front : Path) (last : List ℕ) (rest : Path) → front ≢ (front ++ last ∷ []) ++ rest
longer_front front last rest is =
    absurd (omega (arith, length-append (front ++ last ∷ []) rest, length-append front (last ∷ []), ap length is))

-- ---- a row goes

module _ (t : Nodes) (q : Path) where
  pub other_stays : (k : Path) → k ≢ q → get (remove t q) k ≡ get t k
  other_stays k differ = get-remove path_total t q k ∙ ap (λ b. cond b None (get t k)) (apart k q differ)

  pub is_gone : get (remove t q) q ≡ None
  is_gone = get-remove path_total t q q ∙ ap (λ r. cond (is_eq r) None (get t q)) (tied_itself path_total q)

pub tree_removed : (t : Nodes) → IsTree t → (p : Path) → FitsRemove t p → IsTree (remove t p)
tree_removed t tree p fits =
    tree_from (remove t p) (rw (other_stays t p [] (λ is. fits.below_root (sym is))) tree.root)
    (λ front last mapped.
    let k : Path = front ++ last ∷ [] in
    let differ : k ≢ p = λ is. none_some _ (is_gone t p) (subst (λ (path : Path). IsSome (get (remove t p) path)) is mapped) in
    let there : IsSome (get t k) = subst IsSome (other_stays t p k differ) mapped in
    let above : front ≢ p = λ is. none_some _ (fits.leaf k (subst (λ (path : Path). IsBelow k path) is (below front last))) there in
    other_stays t p front above ∙ ancestors t tree front last [] there)

-- ---- rows come to new paths

nil_outside : (p : Path) → p ≢ [] → IsOutside p []
nil_outside [] some rest is = some refl
nil_outside (name ∷ names) some rest is = cc

-- an outside path is not in front either
pub front_outside : (p front : Path) (last : List ℕ) → IsOutside p (front ++ last ∷ []) → IsOutside p front
front_outside p front last out rest is =
    out (rest ++ last ∷ []) (ap (λ (path : Path). path ++ last ∷ []) is ∙ append_assoc p rest (last ∷ []))

pub same_front_of : (front other : Path) (last name : List ℕ) → front ++ last ∷ [] ≡ other ++ name ∷ [] → front ≡ other
same_front_of front other last name is =
    let whole : Some front ≡ Some other = sym (parent_of-push front last) ∙ ap parent_of is ∙ parent_of-push other name in
    cc

module _ (p q : Path) where
  at_target : (rest : Path) (rows : List Row) → Outside q rows
      → find path_cmp (q ++ rest) (map (renamed_row p q) rows) ≡ find path_cmp (p ++ rest) rows
  at_target rest [] out = refl
  at_target rest (row ∷ rows) out = elim (side p row.0) [
    | inside tail is test ↦
        let new : renamed p q row.0 ≡ q ++ tail = renamed_inside p q row.0 tail is in
        let here : eq_by_cmp path_cmp (q ++ rest) (renamed p q row.0) ≡ eq_by_cmp path_cmp (p ++ rest) row.0 =
        ap (eq_by_cmp path_cmp (q ++ rest)) new ∙ ap is_eq (same_front q rest tail ∙ sym (same_front p rest tail))
        ∙ ap (eq_by_cmp path_cmp (p ++ rest)) (sym is) in
        ap (λ b. cond b (Some row.1) (find path_cmp (q ++ rest) (map (renamed_row p q) rows))) here
        ∙ ap (cond (eq_by_cmp path_cmp (p ++ rest) row.0) (Some row.1)) (at_target rest rows out.1)
    | outside apart_p test ↦
        let new : renamed p q row.0 ≡ row.0 = renamed_outside p q row.0 apart_p in
        let not_q : eq_by_cmp path_cmp (q ++ rest) (renamed p q row.0) ≡ false = ap (eq_by_cmp path_cmp (q ++ rest)) new
        ∙ apart (q ++ rest) row.0 (λ is. out.0 rest (sym is)) in
        let not_p : eq_by_cmp path_cmp (p ++ rest) row.0 ≡ false = apart (p ++ rest) row.0 (λ is. apart_p rest (sym is)) in
        ap (λ b. cond b (Some row.1) (find path_cmp (q ++ rest) (map (renamed_row p q) rows))) not_q
        ∙ at_target rest rows out.1
        ∙ sym (ap (λ b. cond b (Some row.1) (find path_cmp (p ++ rest) rows)) not_p)
  ]

  gone : (rest : Path) (rows : List Row) → IsOutside p q → IsOutside q p → find path_cmp (p ++ rest) (map (renamed_row p q) rows) ≡ None
  gone rest [] to_outside from_outside = refl
  gone rest (row ∷ rows) to_outside from_outside =
      let not_here : eq_by_cmp path_cmp (p ++ rest) (renamed p q row.0) ≡ false = elim (side p row.0) [
        | inside tail is test ↦
            apart (p ++ rest) _ (λ same. forked q p tail rest to_outside from_outside (sym (same ∙ renamed_inside p q row.0 tail is)))
        | outside apart_p test ↦ apart (p ++ rest) _ (λ same. apart_p rest (sym (same ∙ renamed_outside p q row.0 apart_p)))
      ] in
      ap (λ b. cond b (Some row.1) (find path_cmp (p ++ rest) (map (renamed_row p q) rows))) not_here
      ∙ gone rest rows to_outside from_outside

  elsewhere : (k : Path) (rows : List Row) → IsOutside p k → IsOutside q k
      → find path_cmp k (map (renamed_row p q) rows) ≡ find path_cmp k rows
  elsewhere k [] out_p out_q = refl
  elsewhere k (row ∷ rows) out_p out_q =
      let here : eq_by_cmp path_cmp k (renamed p q row.0) ≡ eq_by_cmp path_cmp k row.0 = elim (side p row.0) [
        | inside tail is test ↦
            apart k _ (λ same. out_q tail (same ∙ renamed_inside p q row.0 tail is)) ∙ sym (apart k row.0 (λ same. out_p tail (same ∙ is)))
        | outside apart_p test ↦ ap (eq_by_cmp path_cmp k) (renamed_outside p q row.0 apart_p)
      ] in
      ap (λ b. cond b (Some row.1) (find path_cmp k (map (renamed_row p q) rows))) here
      ∙ ap (cond (eq_by_cmp path_cmp k row.0) (Some row.1)) (elsewhere k rows out_p out_q)

module _ (t : Nodes) (tree : IsTree t) (p q : Path) (fits : FitsMove t p q) where
  abbrev rows : List Row
  rows = entries (remove t q)

  -- neither path is at or below the other
  pub to_outside : IsOutside p q
  to_outside [] is = fits.differ (sym (is ∙ append-nil p))
  to_outside (name ∷ names) is = fits.to_apart (name, names, is)

  pub from_outside : IsOutside q p
  from_outside [] is = fits.differ (is ∙ append-nil q)
  from_outside (name ∷ names) is = fits.from_apart (name, names, is)

  none_at : (rest : Path) → get (remove t q) (q ++ rest) ≡ None
  none_at [] = ap (get (remove t q)) (append-nil q) ∙ is_gone t q
  none_at (name ∷ names) =
      other_stays t q (q ++ name ∷ names) (λ is. longer q name names is) ∙ fits.leaf (q ++ name ∷ names) (name, names, refl)

  out_rows : Outside q rows
  out_rows = outside_found q rows (λ rest. sym (get-entries (remove t q) (q ++ rest)) ∙ none_at rest)

  new_at : (k : Path) → get (moved t p q) k ≡ find path_cmp k (map (renamed_row p q) rows)
  new_at k = get-from_entries path_total (map (renamed_row p q) rows) k

  old_at : (k : Path) → IsOutside q k → find path_cmp k rows ≡ get t k
  old_at k out = sym (get-entries (remove t q) k) ∙ other_stays t q k (λ is. out [] (is ∙ sym (append-nil q)))

  outside_q : (rest : Path) → IsOutside q (p ++ rest)
  outside_q rest tail is = forked q p tail rest to_outside from_outside (sym is)

  pub moved_at : (rest : Path) → get (moved t p q) (q ++ rest) ≡ get t (p ++ rest)
  moved_at rest = new_at (q ++ rest) ∙ at_target p q rest rows out_rows ∙ old_at (p ++ rest) (outside_q rest)

  pub moved_gone : (rest : Path) → get (moved t p q) (p ++ rest) ≡ None
  moved_gone rest = new_at (p ++ rest) ∙ gone p q rest rows to_outside from_outside

  pub moved_else : (k : Path) → IsOutside p k → IsOutside q k → get (moved t p q) k ≡ get t k
  moved_else k out_p out_q = new_at k ∙ elsewhere p q k rows out_p out_q ∙ old_at k out_q

  known : (front : Path) (last : List ℕ) → IsSome (get (moved t p q) (front ++ last ∷ [])) → get (moved t p q) front ≡ Some Dir
  known front last mapped = elim (side q (front ++ last ∷ [])) [
    | inside rest is test ↦ elim (ends rest) [
      | at_root none ↦
          let whole : front ++ last ∷ [] ≡ q = is ∙ ap (λ (rest : Path). q ++ rest) none ∙ append-nil q in
          let out_p : IsOutside p front = front_outside p front last (subst (λ (path : Path). IsOutside p path) (sym whole) to_outside) in
          let out_q : IsOutside q front =
          λ rest is. longer_front front last (rest) (subst (λ (path : Path). front ≡ path ++ rest) (sym whole) is) in
          let parent : get t front ≡ Some Dir = ap (option_and_then (get t)) (sym (parent_of-push front last)) ∙ ap (parent_node t) whole
          ∙ fits.parent in
          moved_else front out_p out_q ∙ parent
      | in_name r name some ↦
          let whole : front ++ last ∷ [] ≡ (q ++ r) ++ name ∷ [] = is ∙ ap (λ (rest : Path). q ++ rest) some
          ∙ sym (append_assoc q r (name ∷ [])) in
          let here : front ≡ q ++ r = same_front_of front (q ++ r) last name whole in
          let there : IsSome (get t ((p ++ r) ++ name ∷ [])) =
          subst IsSome
          (ap (get (moved t p q)) (is ∙ ap (λ (rest : Path). q ++ rest) some) ∙ moved_at (r ++ name ∷ [])
          ∙ ap (get t) (sym (append_assoc p r (name ∷ []))))
          mapped in
          ap (get (moved t p q)) here ∙ moved_at r ∙ ancestors t tree (p ++ r) name [] there
    ]
    | outside out_q test ↦ elim (side p (front ++ last ∷ [])) [
      | inside rest is test ↦ absurd (none_some _ (moved_gone rest) (subst (λ (path : Path). IsSome (get (moved t p q) path)) is mapped))
      | outside out_p test ↦
          let there : IsSome (get t (front ++ last ∷ [])) = subst IsSome (moved_else (front ++ last ∷ []) out_p out_q) mapped in
          moved_else front (front_outside p front last out_p) (front_outside q front last out_q) ∙ ancestors t tree front last [] there
    ]
  ]

  pub tree_moved : IsTree (moved t p q)
  tree_moved =
      tree_from (moved t p q)
      (rw (moved_else [] (nil_outside p fits.from_below_root) (nil_outside q fits.to_below_root)) tree.root)
      known

tree_set : (t : Nodes) → IsTree t → (p : Path) (mode : Mode) → FitsSetMode t p → IsTree (updated t (SetMode p mode))
tree_set t tree p mode fits =
    let there = file_there t p fits in
    let put = mode_fits_put t tree p fits in
    subst IsTree (sym (mode_inserts t p mode there.0 there.1)) (tree_insert t tree p _ put.parent put.no_dir)

-- the tree after an update that fits is a tree
pub tree_updated : (t : Nodes) (update : Update) → IsTree t → Fits t update → IsTree (updated t update)
tree_updated t (Put p bytes) tree fits = tree_insert t tree p _ fits.parent fits.no_dir
tree_updated t (MakeDir p) tree fits = tree_insert t tree p _ fits.parent (λ is. none_not_some _ Dir fits.absent is)
tree_updated t (Remove p) tree fits = tree_removed t tree p fits
tree_updated t (Move p q) tree fits = tree_moved t tree p q fits
tree_updated t (SetMode p mode) tree fits = tree_set t tree p mode fits

-- ---- which moves fit

-- a path is not moved to itself or above itself
pub no_move_up : (t : Nodes) (p q : Path) → starts_with bytes_eq p q ≡ true → FitsMove t p q → ⊥
no_move_up t p q test fits = by_rest (drop (length q) p) ((test_is q p).0 test)
  where
    by_rest : (rest : Path) → p ≡ q ++ rest → ⊥
    by_rest [] is = fits.differ (is ∙ append-nil q)
    by_rest (name ∷ rest) is = fits.from_apart (name, rest, is)

-- nor below itself
pub no_move_down : (t : Nodes) (p q : Path) → starts_with bytes_eq q p ≡ true → FitsMove t p q → ⊥
no_move_down t p q test fits = by_rest (drop (length p) q) ((test_is p q).0 test)
  where
    by_rest : (rest : Path) → q ≡ p ++ rest → ⊥
    by_rest [] is = fits.differ (sym (is ∙ append-nil p))
    by_rest (name ∷ rest) is = fits.to_apart (name, rest, is)

-- else it is, if it is there and the other path is free in a known directory
pub moves : (t : Nodes) (p q : Path) → starts_with bytes_eq p q ≡ false → starts_with bytes_eq q p ≡ false → IsSome (get t p)
    → parent_node t q ≡ Some Dir → IsLeaf t q → FitsMove t p q
moves t p q up down mapped parent leaf = record {
  mapped = mapped;
  from_below_root = λ is. both_ways _ down ((test_is p q).1 q (ap (λ (path : Path). path ++ q) (sym is)));
  to_below_root = λ is. both_ways _ up ((test_is q p).1 p (ap (λ (path : Path). path ++ p) (sym is)));
  differ = λ is. both_ways _ up ((test_is q p).1 [] (is ∙ sym (append-nil q)));
  from_apart = λ below. both_ways _ up ((test_is q p).1 (below.0 ∷ below.1) below.2);
  to_apart = λ below. both_ways _ down ((test_is p q).1 (below.0 ∷ below.1) below.2);
  parent = parent;
  leaf = leaf;
}
