-- Held trees that follow a server's stamps: one without a stamp of a server, and one after a client's own changes.
use Rattle.std.proofs.Common.{◌≡◌, ◌≢◌, ◌⊎◌, ℕ, Bool, true, false, cond, nat_eq, List, [], ◌∷◌, map, Option, Some, None, if◌then◌else◌, inl}
use Rattle.std.proofs.Common.{inr, refl, sym, ap, subst, ◌∙◌, arith}
use Rattle.std.proofs.lemmas.Bool.Decides.{eqb_tells}
use Rattle.std.proofs.lemmas.Option.{same_Some, none-some}
use Rattle.std.specs.Cmp.{first_so, second_so}
use Rattle.std.specs.Cmp.Derive.{both_true}
use Rattle.std.specs.FinMap.{find, get, entries, get-entries}
use Rattle.std.specs.List.{list_all}
use Rattle.std.specs.Ordering.{eq_by_cmp}
use Rattle.iot_text.specs.Paths.{path_cmp}
use Rattle.iot_tree.specs.Snapshots.{is_known}
use Rattle.iot_tree.specs.Tree.{Path, Row, Nodes}
use Rattle.iot_tree.specs.declared.acts.Act.{Act}
use Rattle.iot_tree.specs.declared.nodes.Node.{Node}
use Rattle.iot_stamp.specs.Acting.{UpdatesFit, stamped_acts}
use Rattle.iot_stamp.specs.Agreement.{IsPositive}
use Rattle.iot_stamp.specs.Stamps.{Entry, Stamps, nodes_of, stamped_node, unstamped}
use Rattle.iot_stamp.proofs.ActingLaws.{far_after_acts, keeps_acts}
use Rattle.iot_stamp.proofs.AgreementLaws.{agrees_own, up_own}
use Rattle.iot_stamp.proofs.MappedLaws.{entries_of_mapped}
use Rattle.iot_stamp.specs.Trails.{KeepsTrail, Trails, is_own, lent_stamps}

-- ---- trees without a stamp of a server

own_node : (known : Bool) → nat_eq (cond known 0 0) 0 ≡ true
own_node true = refl
own_node false = refl

own_rows : (rows : List Row) → list_all is_own (map (λ (row : Row). (row.0, stamped_node row.1 0)) rows) ≡ true
own_rows [] = refl
own_rows (row ∷ rows) = both_true (own_node (is_known row.1)) (own_rows rows)

pub none_lent : (t : Nodes) → lent_stamps (unstamped t) ≡ None
none_lent t =
    let all : list_all is_own (entries (unstamped t)) ≡ true =
    ap (list_all is_own) (entries_of_mapped (λ p node. stamped_node node 0) t) ∙ own_rows (entries t) in
    ap (λ (own : Bool). if own then None else Some (unstamped t)) all

own_found : (es : List Entry) (p : Path) (row : Node × ℕ) → list_all is_own es ≡ true → find path_cmp p es ≡ Some row → row.1 ≡ 0
own_found [] p row all is = absurd (none-some row is)
own_found (e ∷ es) p row all is =
    by (eq_by_cmp path_cmp p e.0) is (own_found es p row (second_so (is_own e) (list_all is_own es) all))
  where
    zero : ((nat_eq e.1.1 0 ≡ true) × (e.1.1 ≡ 0)) ⊎ ((nat_eq e.1.1 0 ≡ false) × (e.1.1 ≢ 0)) → e.1.1 ≡ 0
    zero (inl is) = is.1
    zero (inr is) = let both : true ≡ false = sym (first_so (is_own e) (list_all is_own es) all) ∙ is.0 in absurd cc

    by : (here : Bool) → cond here (Some e.1) (find path_cmp p es) ≡ Some row → (find path_cmp p es ≡ Some row → row.1 ≡ 0) → row.1 ≡ 0
    by true is later = ap (λ (r : Node × ℕ). r.1) (sym (same_Some _ _ is)) ∙ zero (eqb_tells e.1.1 0)
    by false is later = later is

-- such a tree agrees with that of any server
own_trails : (held : Stamps) → list_all is_own (entries held) ≡ true → (server : Stamps) (bound : ℕ) → IsPositive server
    → Trails server bound held
own_trails held all server bound positive = record {
  far = λ p node n is far. zero p node n is;
  agrees = λ p a b n here there. absurd (omega (arith, zero p a n here, positive p b n there));
  within = λ p a n is. omega (arith, zero p a n is);
}
  where
    zero : (p : Path) (node : Node) (n : ℕ) → get held p ≡ Some (node, n) → n ≡ 0
    zero p node n is = own_found (entries held) p (node, n) all (sym (get-entries held p) ∙ is)

-- by whether one stamp is a server's
by_lent : (held : Stamps) (lent : Option Stamps) → lent_stamps held ≡ lent
    → ((lent ≡ None) × (list_all is_own (entries held) ≡ true)) ⊎ (lent ≡ Some held)
by_lent held lent is = by (list_all is_own (entries held)) refl is
  where
    by : (own : Bool) → list_all is_own (entries held) ≡ own → (if own then None else Some held) ≡ lent
        → ((lent ≡ None) × (list_all is_own (entries held) ≡ true)) ⊎ (lent ≡ Some held)
    by true all is = inl (sym is, all)
    by false all is = inr (sym is)

pub none_trails : (held : Stamps) → lent_stamps held ≡ None → (server : Stamps) (bound : ℕ) → IsPositive server → Trails server bound held
none_trails held is = elim (by_lent held None is) [
  | inl own ↦ own_trails held own.1
  | inr some ↦ absurd (none-some held some)
]

pub same_trails : (old new : Stamps) → lent_stamps new ≡ lent_stamps old → KeepsTrail old new
same_trails old new same = elim (by_lent new (lent_stamps new) refl) [
  | inl own ↦ (λ server bound positive it. own_trails new own.1 server bound positive)
  | inr one ↦ elim (by_lent old (lent_stamps new) (sym same)) [
    | inl own ↦ absurd (none-some new (sym own.0 ∙ one))
    | inr other ↦ (λ server bound positive it. subst (Trails server bound) (same_Some _ _ (sym other ∙ one)) it)
  ]
]

-- ---- a client's own changes

pub own_acts : (held : Stamps) (acts : List Act) → UpdatesFit (nodes_of held) acts → KeepsTrail held (stamped_acts held acts 0)
own_acts held acts fit = λ server bound positive it.
    let far = far_after_acts 0 held acts it.far in
    let keeps = keeps_acts 0 held acts fit in
    record {
      far = far;
      agrees = agrees_own held (stamped_acts held acts 0) server it.agrees positive far keeps;
      within = up_own held (stamped_acts held acts 0) bound it.within far keeps;
    }

pub same_stamps : (old new : Stamps) → new ≡ old → KeepsTrail old new
same_stamps old new same = λ server bound positive it. subst (Trails server bound) (sym same) it
