-- What undoes an update that fits a tree: it can be done after the update, and brings the tree back.
use Rattle.std.proofs.Common.{◌≡◌, ◌≢◌, ℕ, List, [], ◌∷◌, ◌++◌, Option, Some, None, IsSome, refl, sym, ap, subst, ◌∙◌, cond, false}
use Rattle.std.proofs.Common.{inl, inr, option_and_then, ◌⊎◌}
use Rattle.std.proofs.lemmas.List.{append-nil}
use Rattle.std.specs.Prelude.{unwrap_or}
use Rattle.std.specs.FinMap.{get, insert, remove, get-remove, same_map}
use Rattle.std.specs.List.{cons_option}
use Rattle.std.specs.Ordering.{eq_by_cmp}
use Rattle.iot_text.specs.Paths.{path_cmp}
use Rattle.iot_text.proofs.PathsLaws.{parent_of-push, path_same, path_total}
use Rattle.iot_tree.specs.Tree.{Path, Nodes, parent_node, IsTree}
use Rattle.iot_tree.specs.Updates.{IsLeaf, FitsPut, FitsRemove, FitsMove, FitsSetMode, Fits, mode_in, with_mode, mode_set}
use Rattle.iot_tree.specs.Updates.{moved, updated}
use Rattle.iot_tree.specs.declared.nodes.Mode.{Mode}
use Rattle.iot_tree.specs.declared.nodes.Node.{Node}
use Rattle.iot_tree.specs.declared.nodes.Node.TheVariants.{Dir, File, FarDir}
use Rattle.iot_tree.specs.declared.updates.Update.{Update}
use Rattle.iot_tree.specs.declared.updates.Update.TheVariants.{Put, MakeDir, Remove, Move, SetMode}
use Rattle.iot_tree.proofs.AncestorLaws.{ends, at_root, in_name}
use Rattle.iot_tree.proofs.FitsLaws.{fits_here, is_no_dir, mode_fits_put, still_file}
use Rattle.iot_tree.proofs.TreeLaws.{apart, same_or_apart, get-insert_other, none_not_some, ancestors, tree_insert}
use Rattle.iot_tree.proofs.UpdateLaws.{longer, longer_front, other_stays, is_gone, front_outside, tree_moved}
use Rattle.iot_tree.proofs.UpdateLaws.{to_outside, from_outside, moved_at, moved_gone, moved_else}
use Rattle.iot_tree.proofs.WithinLaws.{IsOutside, side, inside, outside}
use Rattle.iot_access.proofs.StepLaws.{not_at, put_here, removed_inside}
use Rattle.iot_fitting.specs.Undoing.{undone_by, restoring, undoing, CanUndoInTurn, after_undoing, Undoes}
use Rattle.iot_fitting.specs.declared.undoing.Undo.{Undo}
use Rattle.iot_fitting.specs.declared.undoing.Undo.TheVariants.{Restore, Make}

-- ---- steps after others

can_join : (first next : List Undo) (t : Nodes) → CanUndoInTurn t first → CanUndoInTurn (after_undoing t first) next
    → CanUndoInTurn t (first ++ next)
can_join [] next t can more = more
can_join (step ∷ first) next t can more = (can.0, can_join first next (undone_by t step) can.1 more)

after_join : (first next : List Undo) (t : Nodes) → after_undoing t (first ++ next) ≡ after_undoing (after_undoing t first) next
after_join [] next t = refl
after_join (step ∷ first) next t = after_join first next (undone_by t step)

-- undone to a tree in the middle, and from there to the start
pub undoes_join : (first next : List Undo) (now mid start : Nodes) → Undoes first now mid → Undoes next mid start
    → Undoes (first ++ next) now start
undoes_join first next now mid start one two = record {
  can = can_join first next now one.can (subst (λ (t : Nodes). CanUndoInTurn t next) (sym one.back) two.can);
  back = after_join first next now ∙ ap (λ (t : Nodes). after_undoing t next) one.back ∙ two.back;
}

-- ---- nodes that differ at one path at most

same_but : (u v : Nodes) (p : Path) → get u p ≡ get v p → ((k : Path) → eq_by_cmp path_cmp k p ≡ false → get u k ≡ get v k) → u ≡ v
same_but u v p here else = same_map path_total path_same u v (λ k. elim (same_or_apart k p) [
  | inl same ↦ ap (get u) same ∙ here ∙ ap (get v) (sym same)
  | inr differ ↦ else k differ
])

removed_else : (t : Nodes) (p k : Path) → eq_by_cmp path_cmp k p ≡ false → get (remove t p) k ≡ get t k
removed_else t p k differ = get-remove path_total t p k ∙ ap (λ b. cond b None (get t k)) differ

put_removed : (t : Nodes) (p : Path) (node : Node) → get t p ≡ None → remove (insert t p node) p ≡ t
put_removed t p node none =
    same_but (remove (insert t p node) p) t p (is_gone (insert t p node) p ∙ sym none)
    (λ k differ. removed_else (insert t p node) p k differ ∙ get-insert_other t p node k differ)

put_back : (t : Nodes) (p : Path) (new old : Node) → get t p ≡ Some old → insert (insert t p new) p old ≡ t
put_back t p new old here =
    same_but (insert (insert t p new) p old) t p (put_here (insert t p new) p old ∙ sym here)
    (λ k differ. get-insert_other (insert t p new) p old k differ ∙ get-insert_other t p new k differ)

removed_back : (t : Nodes) (p : Path) (old : Node) → get t p ≡ Some old → insert (remove t p) p old ≡ t
removed_back t p old here =
    same_but (insert (remove t p) p old) t p (put_here (remove t p) p old ∙ sym here)
    (λ k differ. get-insert_other (remove t p) p old k differ ∙ removed_else t p k differ)

removed_none : (t : Nodes) (p : Path) → get t p ≡ None → remove t p ≡ t
removed_none t p none = same_but (remove t p) t p (is_gone t p ∙ sym none) (removed_else t p)

some_is : (t : Nodes) (p : Path) (node : Node) → get t p ≡ Some node → IsSome (get t p)
some_is t p node is = subst IsSome (sym is) refl

-- the root has no parent
not_root : (t : Nodes) (p : Path) → parent_node t p ≡ Some Dir → p ≢ []
not_root t p parent root = none_not_some _ Dir refl (subst (λ (path : Path). parent_node t path ≡ Some Dir) root parent)

-- the path above is not at or below the path
parent_outside : (p front : Path) (last : List ℕ) → p ≡ front ++ last ∷ [] → IsOutside p front
parent_outside p front last is rest same = longer_front front last rest (subst (λ (path : Path). front ≡ path ++ rest) is same)

module _ (t : Nodes) (tree : IsTree t) where
  -- no row lies below what has none
  none_below : (p : Path) → get t p ≡ None → IsLeaf t p
  none_below p none k below = by (get t k) refl
    where
      by : (o : Option Node) → get t k ≡ o → get t k ≡ None
      by None is = is
      by (Some node) is =
          absurd (none_not_some _ Dir none
          (ancestors t tree p below.0 below.1 (subst (λ (path : Path). IsSome (get t path)) below.2 (some_is t k node is))))

  -- the parent of a row is still there if the path above it is
  parent_left : (u : Nodes) (p : Path) → p ≢ [] → IsSome (get t p)
      → ((front : Path) (last : List ℕ) → p ≡ front ++ last ∷ [] → get u front ≡ get t front) → parent_node u p ≡ Some Dir
  parent_left u p below_root mapped left = elim (ends p) [
    | at_root is ↦ absurd (below_root is)
    | in_name front last is ↦
        ap (parent_node u) is ∙ ap (option_and_then (get u)) (parent_of-push front last) ∙ left front last is
        ∙ ancestors t tree front last [] (subst (λ (path : Path). IsSome (get t path)) is mapped)
  ]

  -- ---- what came to a free path goes

  put_goes : (p : Path) (node : Node) → get t p ≡ None → parent_node t p ≡ Some Dir → Undoes (Make (Remove p) ∷ []) (insert t p node) t
  put_goes p node none parent =
      let fits : FitsRemove (insert t p node) p = record {
        mapped = some_is (insert t p node) p node (put_here t p node);
        below_root = not_root t p parent;
        leaf = λ k below.
            get-insert_other t p node k (apart k p (λ is. longer p below.0 below.1 (sym below.2 ∙ is))) ∙ none_below p none k below;
      } in
      record { can = (fits, tt); back = put_removed t p node none }

  -- ---- what was put over comes back

  put_over : (p : Path) (bytes : List ℕ) (old : Node) → FitsPut t p → get t p ≡ Some old
      → Undoes (Restore p old ∷ []) (updated t (Put p bytes)) t
  put_over p bytes old fits here =
      let new : Node = File bytes (mode_in (get t p)) in
      let after : IsTree (insert t p new) = tree_insert t tree p new fits.parent fits.no_dir in
      let again : FitsPut (insert t p new) p = fits_here (insert t p new) after p new (put_here t p new) refl in
      record { can = (again, tt); back = put_back t p new old here }

  put_undone : (p : Path) (bytes : List ℕ) → FitsPut t p → Undoes (undoing t (Put p bytes)) (updated t (Put p bytes)) t
  put_undone p bytes fits = by (get t p) refl
    where
      by : (o : Option Node) → get t p ≡ o → Undoes (unwrap_or (restoring p o) (Make (Remove p)) ∷ []) (updated t (Put p bytes)) t
      by None is = put_goes p (File bytes (mode_in (get t p))) is fits.parent
      by (Some old) is = put_over p bytes old fits is

  -- ---- a file whose mode was set comes back

  set_undone : (p : Path) (mode : Mode) → FitsSetMode t p → Undoes (undoing t (SetMode p mode)) (updated t (SetMode p mode)) t
  set_undone p mode fits = by (get t p) refl
    where
      put : FitsPut t p
      put = mode_fits_put t tree p fits

      by : (o : Option Node) → get t p ≡ o → Undoes (cons_option (restoring p o) []) (mode_set t p mode o) t
      by None is = record { can = tt; back = refl }
      by (Some old) is =
          let new : Node = with_mode mode old in
          let after : IsTree (insert t p new) = tree_insert t tree p new put.parent put.no_dir in
          let again : FitsPut (insert t p new) p =
          fits_here (insert t p new) after p new (put_here t p new) (still_file mode old (is_no_dir t p old is put)) in
          record { can = (again, tt); back = put_back t p new old is }

  -- ---- what was removed comes back

  parent_of_removed : (p : Path) → p ≢ [] → IsSome (get t p) → parent_node (remove t p) p ≡ Some Dir
  parent_of_removed p below_root mapped =
      parent_left (remove t p) p below_root mapped
      (λ front last is. other_stays t p front (λ same. longer front last [] (sym is ∙ sym same)))

  -- whatever was there comes back
  restored : (p : Path) → p ≢ [] → Undoes (cons_option (restoring p (get t p)) []) (remove t p) t
  restored p below_root = by (get t p) refl
    where
      by : (o : Option Node) → get t p ≡ o → Undoes (cons_option (restoring p o) []) (remove t p) t
      by None is = record { can = tt; back = removed_none t p is }
      by (Some old) is =
          let fits : FitsPut (remove t p) p = record {
            parent = parent_of_removed p below_root (some_is t p old is);
            no_dir = λ dir. none_not_some _ Dir (is_gone t p) dir;
            no_far_dir = λ dir. none_not_some _ FarDir (is_gone t p) dir;
          } in
          record { can = (fits, tt); back = removed_back t p old is }

  -- ---- what was moved goes back

  module _ (p q : Path) (fits : FitsMove t p q) where
    abbrev there : Nodes
    there = moved t p q

    move_back : FitsMove there q p
    move_back = record {
      mapped =
          subst IsSome (sym (ap (get there) (sym (append-nil q)) ∙ moved_at t tree p q fits [] ∙ ap (get t) (append-nil p))) fits.mapped;
      from_below_root = fits.to_below_root;
      to_below_root = fits.from_below_root;
      differ = λ same. fits.differ (sym same);
      from_apart = fits.to_apart;
      to_apart = fits.from_apart;
      parent = parent_left there p fits.from_below_root fits.mapped (λ front last is.
          moved_else t tree p q fits front (parent_outside p front last is)
          (front_outside q front last (subst (λ (path : Path). IsOutside q path) is (from_outside t tree p q fits))));
      leaf = λ k below. ap (get there) below.2 ∙ moved_gone t tree p q fits (below.0 ∷ below.1);
    }

    after : IsTree there
    after = tree_moved t tree p q fits

    moved_back : moved there q p ≡ remove t q
    moved_back = same_map path_total path_same (moved there q p) (remove t q) (λ k. elim (side p k) [
      | inside rest is test ↦
          ap (get (moved there q p)) is ∙ moved_at there after q p move_back rest ∙ moved_at t tree p q fits rest
          ∙ sym (other_stays t q (p ++ rest) (λ same. to_outside t tree p q fits rest (sym same))) ∙ ap (get (remove t q)) (sym is)
      | outside out_p test ↦ elim (side q k) [
        | inside rest is test ↦
            ap (get (moved there q p)) is ∙ moved_gone there after q p move_back rest
            ∙ sym (removed_inside t q fits.leaf rest) ∙ ap (get (remove t q)) (sym is)
        | outside out_q test ↦
            moved_else there after q p move_back k out_q out_p ∙ moved_else t tree p q fits k out_p out_q
            ∙ sym (other_stays t q k (not_at q k out_q))
      ]
    ])

    move_undone : (back : List Undo) → Undoes back (remove t q) t → Undoes (Make (Move q p) ∷ back) there t
    move_undone back restored = record {
      can = (move_back, subst (λ (u : Nodes). CanUndoInTurn u back) (sym moved_back) restored.can);
      back = ap (λ (u : Nodes). after_undoing u back) moved_back ∙ restored.back;
    }

-- what is there comes back after it is removed, and after it gets a mode
pub restores : (t : Nodes) (update : Update) (p : Path) (rest : List Undo)
    → (update ≡ Remove p) ⊎ ((mode : Mode) × (update ≡ SetMode p mode))
    → cons_option (restoring p (get t p)) rest ≡ undoing t update ++ rest
restores t update p rest made =
    more (restoring p (get t p)) ∙ ap (λ (steps : List Undo). steps ++ rest) (by made)
  where
    more : (step : Option Undo) → cons_option step rest ≡ cons_option step [] ++ rest
    more None = refl
    more (Some step) = refl

    by : (update ≡ Remove p) ⊎ ((mode : Mode) × (update ≡ SetMode p mode)) → cons_option (restoring p (get t p)) [] ≡ undoing t update
    by (inl removed) = sym (ap (undoing t) removed)
    by (inr moded) = sym (ap (undoing t) moded.1)

-- an update that fits is undone
pub undone : (t : Nodes) (update : Update) → IsTree t → Fits t update → Undoes (undoing t update) (updated t update) t
undone t (Put p bytes) tree fits = put_undone t tree p bytes fits
undone t (MakeDir p) tree fits = put_goes t tree p Dir fits.absent fits.parent
undone t (Remove p) tree fits = restored t tree p fits.below_root
undone t (Move p q) tree fits = move_undone t tree p q fits (cons_option (restoring q (get t q)) []) (restored t tree q fits.to_below_root)
undone t (SetMode p mode) tree fits = set_undone t tree p mode fits
