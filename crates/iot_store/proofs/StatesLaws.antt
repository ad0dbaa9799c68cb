-- A server's state stays one with each commit.
use Rattle.std.proofs.Common.{◌≡◌, ◌⊎◌, inl, inr, ℕ, ◌+◌, ◌<◌, ◌≤◌, ◌^◌, Bool, true, false, Some, List, [], ◌∷◌, ◌++◌}
use Rattle.std.proofs.Common.{length, get_or, drop, refl, sym, ap, ◌∙◌, subst, arith, length-append}
use Rattle.std.specs.Prelude.{IfOk, OnOk, Result, Ok, Err}
use Rattle.std.proofs.lemmas.Option.{none-some}
use Rattle.std.specs.FinMap.{empty, get-empty}
use Rattle.std.specs.List.{list_any}
use Rattle.iot_text.specs.Paths.{path_cmp}
use Rattle.iot_tree.specs.Tree.{IsTree, IsWhole, Nodes, Path, root_alone}
use Rattle.iot_tree.specs.Snapshots.{is_known}
use Rattle.iot_tree.specs.Updates.{updated}
use Rattle.iot_tree.specs.declared.access.Access.{Access}
use Rattle.iot_tree.specs.declared.labels.Label.{Label}
use Rattle.iot_tree.specs.declared.nodes.Node.{Node}
use Rattle.iot_tree.specs.declared.nodes.Node.TheVariants.{Dir, FarDir, FarFile}
use Rattle.iot_tree.specs.declared.updates.Update.{Update}
use Rattle.iot_tree.proofs.EachLaws.{EachNode, each_inserted}
use Rattle.iot_access.specs.Access.{FitInTurn, after_updates}
use Rattle.iot_access.proofs.WholeLaws.{whole_after}
use Rattle.iot_acts.proofs.TraceLaws.{tree_after}
use Rattle.iot_views.specs.Rules.{IsAccess, IsLabel}
use Rattle.iot_stamp.specs.Agreement.{Keeps}
use Rattle.iot_stamp.specs.Stamping.{stamped}
use Rattle.iot_stamp.specs.Stamps.{Stamps, nodes_of}
use Rattle.iot_stamp.proofs.ActingLaws.{nodes_after_all, nodes_stamped}
use Rattle.iot_stamp.proofs.AgreementLaws.{keeps_none, keeps_then, positive_commit, positive_with, up_commit, up_with}
use Rattle.iot_stamp.proofs.EachLaws.{all_push}
use Rattle.iot_stamp.proofs.StampingLaws.{keeps_update}
use Rattle.iot_stamp.proofs.StampsLaws.{nodes_with}
use Rattle.iot_bodies.proofs.TreesLaws.{root_of_rows, rows_after}
use Rattle.iot_store.specs.Bodies.{AreApart, IsState}
use Rattle.iot_store.specs.Commits.{AddsIf}
use Rattle.iot_store.specs.Stamps.{next_stamp, stamped_all}
use Rattle.iot_store.specs.States.{State, opening, is_of, CanFollow, after_commit}

-- ---- labels of which no two are of one transaction

-- what comes before a label of a list with one label more: the whole list before that one, or less
push_split : (xs front later : List Label) (x y : Label) → xs ++ x ∷ [] ≡ front ++ y ∷ later
    → ((front ≡ xs) × (y ≡ x)) ⊎ ((rest : List Label) × (xs ≡ front ++ y ∷ rest))
push_split [] [] later x y is = inl (refl, sym (ap (λ (l : List Label). get_or l 0 y) is))
push_split [] (z ∷ front) later x y is = absurd (omega (arith, ap length is, length-append front (y ∷ later)))
push_split (z ∷ xs) [] later x y is =
    let same : z ≡ y = ap (λ (l : List Label). get_or l 0 y) is in
    inr (xs, ap (λ (l : Label). l ∷ xs) same)
push_split (z ∷ xs) (w ∷ front) later x y is =
    let same : z ≡ w = ap (λ (l : List Label). get_or l 0 w) is in
    joined (push_split xs front later x y (ap (drop 1) is)) same
  where
    joined : ((front ≡ xs) × (y ≡ x)) ⊎ ((rest : List Label) × (xs ≡ front ++ y ∷ rest)) → z ≡ w
        → ((w ∷ front ≡ z ∷ xs) × (y ≡ x)) ⊎ ((rest : List Label) × (z ∷ xs ≡ w ∷ (front ++ y ∷ rest)))
    joined (inl here) same = inl ((λ i. sym same i ∷ here.0 i), here.1)
    joined (inr there) same = inr (there.0, λ i. same i ∷ there.1 i)

pub apart_none : AreApart []
apart_none front label later is = absurd (omega (arith, ap length is, length-append front (label ∷ later)))

-- a new one after them
pub apart_push : (labels : List Label) (label : Label) → AreApart labels → list_any (is_of label.client label.tid) labels ≡ false
    → AreApart (labels ++ label ∷ [])
apart_push labels label apart new front other later is = elim (push_split labels front later label other is) [
  | inl here ↦ subst (λ (l : Label). list_any (is_of l.client l.tid) front ≡ false) (sym here.1)
      (subst (λ (ls : List Label). list_any (is_of label.client label.tid) ls ≡ false) (sym here.0) new)
  | inr there ↦ apart front other there.0 there.1
]

-- ---- the first state

abbrev IsNear : Path → Node → Type 0
IsNear path node = is_known node ≡ true

opening_whole : IsWhole opening.tree
opening_whole =
    let none : EachNode IsNear empty = λ path node is. absurd (none-some node (sym (get-empty path_cmp path) ∙ is)) in
    let near : EachNode IsNear (root_alone Dir) = each_inserted IsNear empty [] Dir none refl in
    record {
      no_far_dir = λ p is. let clash : false ≡ true = near p FarDir is in absurd cc;
      no_far_file = λ p mode is. let clash : false ≡ true = near p (FarFile mode) is in absurd cc;
    }

pub opening_is : IsState opening
opening_is = record {
  tree = root_of_rows Dir refl tt;
  whole = opening_whole;
  labels = tt;
  apart = apart_none;
  few = omega arith;
  nodes = nodes_with (λ k. 1) (root_alone Dir);
  positive = positive_with (root_alone Dir) 1 opening_whole (omega arith);
  within = up_with (root_alone Dir) 1;
}

-- ---- the next one

-- updates that fit leave a whole tree whole
after_whole : (t : Nodes) (updates : List Update) → IsTree t → IsWhole t → FitInTurn t updates → IsWhole (after_updates t updates)
after_whole t [] tree whole fit = whole
after_whole t (update ∷ updates) tree whole fit =
    after_whole (updated t update) updates (tree_after t (Some update) tree fit.0) (whole_after t tree whole (Some update) fit.0) fit.1

-- each known row without the new stamp stays as it was
keeps_all : (t : Stamps) (updates : List Update) (stamp : ℕ) → FitInTurn (nodes_of t) updates → Keeps t (stamped_all t updates stamp) stamp
keeps_all t [] stamp fit = keeps_none t stamp
keeps_all t (update ∷ updates) stamp fit =
    let next = stamped t update stamp in
    keeps_then t next (stamped_all next updates stamp) stamp (keeps_update t update stamp fit.0)
    (keeps_all next updates stamp (subst (λ (n : Nodes). FitInTurn n updates) (sym (nodes_stamped stamp t update)) fit.1))

pub state_after : (s : State) (label : Label) (access : Access) → IsState s → IsLabel label → IsAccess access → CanFollow s label access
    → length s.labels + 2 < 2 ^ 64 → IsState (after_commit s label access)
state_after s label access is is_label is_access follows few =
    let stamp : ℕ = next_stamp (length s.labels) in
    let new : Stamps = stamped_all s.stamps access.updates stamp in
    let fit : FitInTurn (nodes_of s.stamps) access.updates = subst (λ (t : Nodes). FitInTurn t access.updates) (sym is.nodes) follows.fit in
    let nodes : nodes_of new ≡ after_updates s.tree access.updates =
    nodes_after_all stamp s.stamps access.updates ∙ ap (λ (t : Nodes). after_updates t access.updates) is.nodes in
    let whole : IsWhole (after_updates s.tree access.updates) = after_whole s.tree access.updates is.tree.tree is.whole follows.fit in
    let keeps : Keeps s.stamps new stamp = keeps_all s.stamps access.updates stamp fit in
    let new_whole : IsWhole (nodes_of new) = subst IsWhole (sym nodes) whole in
    let more : length (s.labels ++ label ∷ []) ≡ length s.labels + 1 = length-append s.labels (label ∷ []) in
    record {
      tree = rows_after s.tree access.updates is_access.updates follows.fit is.tree;
      whole = whole;
      labels = all_push IsLabel s.labels label is_label is.labels;
      apart = apart_push s.labels label is.apart follows.is_new;
      few = omega (arith, more, few);
      nodes = nodes;
      positive = positive_commit s.stamps new stamp is.positive (omega arith) new_whole keeps;
      within =
          λ p a n here.
          let up : n ≤ stamp = up_commit s.stamps new (length s.labels + 1) stamp is.within (omega arith) new_whole keeps p a n here in
          omega (arith, more, up);
    }

-- ---- of calls on the commits in memory

-- a commit was added
pub added_is : {E : Type 0} (result : Result (Unit {0}) E) (old new : State) (label : Label) (access : Access) → IsState old → IsLabel label
    → IsAccess access → CanFollow old label access → OnOk result (new ≡ after_commit old label access)
    → OnOk result (length old.labels + 2 < 2 ^ 64) → OnOk result (IsState new)
added_is (Ok done) old new label access is is_label is_access follows made few =
    subst IsState (sym made) (state_after old label access is is_label is_access follows few)
added_is (Err fault) old new label access is is_label is_access follows made few = tt

-- a commit was added if it can follow
pub added_if_is : {E : Type 0} (result : Result Bool E) (old new : State) (label : Label) (access : Access) → IsState old → IsLabel label
    → IsAccess access → IfOk result (λ follows. AddsIf follows label access old new)
    → IfOk result (λ follows. follows ≡ true → length old.labels + 2 < 2 ^ 64) → IfOk result (λ follows. follows ≡ true → IsState new)
added_if_is (Ok true) old new label access is is_label is_access adds few =
    λ follows. subst IsState (sym adds.1) (state_after old label access is is_label is_access adds.0 (few follows))
added_if_is (Ok false) old new label access is is_label is_access adds few = λ follows. absurd cc
added_if_is (Err fault) old new label access is is_label is_access adds few = tt
