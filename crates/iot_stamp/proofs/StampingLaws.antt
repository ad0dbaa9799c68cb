-- An update leaves what it does not touch.
use Rattle.std.proofs.Common.{◌≡◌, ◌≢◌, ◌⊎◌, ℕ, Bool, true, false, cond, not, ◌||◌, ◌&&◌, List, [], ◌∷◌, ◌++◌, map, Option}
use Rattle.std.proofs.Common.{Some, None, is_some, option_map, bytes_eq, append_assoc, refl, sym, ap, subst, ◌∙◌, inl, inr}
use Rattle.std.proofs.lemmas.List.{append-nil}
use Rattle.std.specs.Ordering.{eq_by_cmp}
use Rattle.std.specs.List.{starts_with}
use Rattle.std.specs.FinMap.{get, find, entries, insert, remove, get-entries, get-insert, get-remove, get-from_entries}
use Rattle.iot_text.specs.Paths.{path_cmp, parent_of}
use Rattle.iot_tree.specs.Tree.{Nodes, Row, Path}
use Rattle.iot_tree.specs.Snapshots.{far}
use Rattle.iot_tree.specs.Updates.{Fits, FitsPut, FitsMove, mode_in, mode_set, with_mode, updated, moved, renamed_row, renamed}
use Rattle.iot_tree.specs.declared.nodes.Mode.{Mode}
use Rattle.iot_tree.specs.declared.nodes.Mode.TheVariants.{Off, On}
use Rattle.iot_tree.specs.declared.nodes.Node.{Node}
use Rattle.iot_tree.specs.declared.nodes.Node.TheVariants.{Dir, File, FarDir, FarFile}
use Rattle.iot_tree.specs.declared.updates.Update.{Update}
use Rattle.iot_tree.specs.declared.updates.Update.TheVariants.{Put, MakeDir, Remove, Move, SetMode}
use Rattle.iot_prune.proofs.WalkLaws.{tie}
use Rattle.iot_stamp.proofs.PrunedLaws.{or_first, or_second}
use Rattle.iot_stamp.proofs.StampsLaws.{with_row, nodes_with, row_back}
use Rattle.iot_text.proofs.PathsLaws.{path_total, parent_of-push}
use Rattle.iot_tree.proofs.AncestorLaws.{ends, at_root, in_name}
use Rattle.iot_tree.proofs.RenamedLaws.{renamed_inside, renamed_outside}
use Rattle.iot_tree.proofs.TreeLaws.{same_or_apart, apart, get-insert_other}
use Rattle.iot_tree.proofs.WithinLaws.{IsOutside, side, inside, outside, test_is}
use Rattle.iot_stamp.specs.Stamps.{Stamps, nodes_of, stamp_at}
use Rattle.iot_stamp.specs.Stamping.{is_at, is_parent, same_mode, shown_same, touches, stamp_after, stamped, stamped_all, FitAll}
use Rattle.iot_stamp.specs.Agreement.{shown_in, SameInside, Keeps}
use Rattle.iot_stamp.proofs.FoundLaws.{never, found_here}
use Rattle.iot_stamp.proofs.AgreementLaws.{keeps_none, keeps_then}

no_true : true ≡ false → ⊥
no_true is = cc

some_path : (a b : Path) → Some a ≡ Some b → a ≡ b
some_path a b is = cc

-- ---- paths with a name more

pub parent_is : (k : Path) (name : List ℕ) (p : Path) → k ++ name ∷ [] ≡ p → is_parent k p ≡ true
parent_is k name p is = subst (λ (path : Path). is_parent k path ≡ true) is (rw (parent_of-push k name) (tie k k refl))

-- a path that is outside has its children outside, but for the path itself
pub child_side : (q k : Path) (name : List ℕ) → IsOutside q k → (k ++ name ∷ [] ≡ q) ⊎ IsOutside q (k ++ name ∷ [])
child_side q k name out = elim (side q (k ++ name ∷ [])) [
  | inside rest is test ↦ inl (by rest is)
  | outside away test ↦ inr away
]
  where
    by : (rest : Path) → k ++ name ∷ [] ≡ q ++ rest → k ++ name ∷ [] ≡ q
    by rest is = elim (ends rest) [
      | at_root none ↦ is ∙ ap (λ (tail : Path). q ++ tail) none ∙ append-nil q
      | in_name r l end ↦
          let whole : k ++ name ∷ [] ≡ (q ++ r) ++ l ∷ [] = is ∙ ap (λ (tail : Path). q ++ tail) end ∙ sym (append_assoc q r (l ∷ [])) in
          absurd (out r (some_path k (q ++ r) (sym (parent_of-push k name) ∙ ap parent_of whole ∙ parent_of-push (q ++ r) l)))
    ]

outside_of : (q k : Path) → starts_with bytes_eq k q ≡ false → IsOutside q k
outside_of q k test rest is = no_true (sym ((test_is q k).1 rest is) ∙ test)

-- ---- maps

get_remove_other : (t : Nodes) (p k : Path) → eq_by_cmp path_cmp k p ≡ false → get (remove t p) k ≡ get t k
get_remove_other t p k away = get-remove path_total t p k ∙ ap (λ (b : Bool). cond b None (get t k)) away

get_remove_here : (t : Nodes) (p : Path) → get (remove t p) p ≡ None
get_remove_here t p = get-remove path_total t p p ∙ ap (λ (b : Bool). cond b None (get t p)) (tie p p refl)

get_insert_here : (t : Nodes) (p : Path) (node : Node) → get (insert t p node) p ≡ Some node
get_insert_here t p node = get-insert path_total t p node p ∙ ap (λ (b : Bool). cond b (Some node) (get t p)) (tie p p refl)

-- ---- moved rows

module _ (p q : Path) where
  renamed_other : (k : Path) → IsOutside q k → IsOutside p k → (rows : List Row)
      → find path_cmp k (map (renamed_row p q) rows) ≡ find path_cmp k rows
  renamed_other k out away [] = refl
  renamed_other k out away (row ∷ rows) = elim (side p row.0) [
    | inside rest is test ↦
        let new : eq_by_cmp path_cmp k (renamed p q row.0) ≡ false = ap (eq_by_cmp path_cmp k) (renamed_inside p q row.0 rest is)
        ∙ apart k (q ++ rest) (out rest) in
        let old : eq_by_cmp path_cmp k row.0 ≡ false = apart k row.0 (λ here. away rest (here ∙ is)) in
        rw (new, old) (renamed_other k out away rows)
    | outside apart_from test ↦
        λ i. cond (eq_by_cmp path_cmp k (renamed_outside p q row.0 apart_from i)) (Some row.1) (renamed_other k out away rows i)
  ]

  longer : (name : List ℕ) (rest : Path) (a : Path) → a ≢ a ++ name ∷ rest
  longer name rest [] is = cc
  longer name rest (x ∷ a) is = longer name rest a (tail is)
    where
      tail : x ∷ a ≡ x ∷ (a ++ name ∷ rest) → a ≡ a ++ name ∷ rest
      tail same = cc

  renamed_at : IsOutside p q → (rows : List Row) → find path_cmp q rows ≡ None
      → find path_cmp q (map (renamed_row p q) rows) ≡ find path_cmp p rows
  renamed_at out [] none = refl
  renamed_at out (row ∷ rows) none = elim (same_or_apart q row.0) [
    | inl here ↦ absurd (never row.1 (sym none ∙ found_here q row rows here))
    | inr other ↦ by (renamed_at out rows (rw other at none)) other
  ]
    where
      by : find path_cmp q (map (renamed_row p q) rows) ≡ find path_cmp p rows → eq_by_cmp path_cmp q row.0 ≡ false
          → find path_cmp q (map (renamed_row p q) (row ∷ rows)) ≡ find path_cmp p (row ∷ rows)
      by rest other = elim (side p row.0) [
        | inside [] is test ↦
            let old : p ≡ row.0 = sym (is ∙ append-nil p) in
            let new : q ≡ renamed p q row.0 = sym (renamed_inside p q row.0 [] is ∙ append-nil q) in
            found_here q (renamed_row p q row) (map (renamed_row p q) rows) new ∙ sym (found_here p row rows old)
        | inside (name ∷ more) is test ↦
            let old : eq_by_cmp path_cmp p row.0 ≡ false = apart p row.0 (λ here. longer name more p (here ∙ is)) in
            let new : eq_by_cmp path_cmp q (renamed p q row.0)
            ≡ false = ap (eq_by_cmp path_cmp q) (renamed_inside p q row.0 (name ∷ more) is)
            ∙ apart q (q ++ name ∷ more) (longer name more q) in
            rw (new, old) rest
        | outside apart_from test ↦
            let old : eq_by_cmp path_cmp p row.0 ≡ false = apart p row.0 (λ here. apart_from [] (sym here ∙ sym (append-nil p))) in
            let new : eq_by_cmp path_cmp q (renamed p q row.0) ≡ false = ap (eq_by_cmp path_cmp q) (renamed_outside p q row.0 apart_from)
            ∙ other in
            rw (new, old) rest
      ]

  module _ (t : Nodes) (fits : FitsMove t p q) where
    apart_to : IsOutside p q
    apart_to [] is = fits.differ (sym (is ∙ append-nil p))
    apart_to (name ∷ rest) is = fits.to_apart (name, rest, is)

    pub moved_other : (k : Path) → IsOutside q k → IsOutside p k → get (moved t p q) k ≡ get t k
    moved_other k out away =
        get-from_entries path_total (map (renamed_row p q) (entries (remove t q))) k ∙ renamed_other k out away (entries (remove t q))
        ∙ sym (get-entries (remove t q) k)
        ∙ get_remove_other t q k (apart k q (λ here. out [] (here ∙ sym (append-nil q))))

    pub moved_at : get (moved t p q) q ≡ get t p
    moved_at =
        get-from_entries path_total (map (renamed_row p q) (entries (remove t q))) q
        ∙ renamed_at apart_to (entries (remove t q)) (sym (get-entries (remove t q) q) ∙ get_remove_here t q)
        ∙ sym (get-entries (remove t q) p) ∙ get_remove_other t q p (apart p q fits.differ)

-- ---- what is not touched

file_shown : (o : Option Node) → o ≢ Some Dir → o ≢ Some FarDir → not (is_some o) ≡ false → option_map far o ≡ Some (FarFile (mode_in o))
file_shown None no_dir no_far there = absurd cc
file_shown (Some Dir) no_dir no_far there = absurd (no_dir refl)
file_shown (Some FarDir) no_dir no_far there = absurd (no_far refl)
file_shown (Some (File bytes mode)) no_dir no_far there = refl
file_shown (Some (FarFile mode)) no_dir no_far there = refl

one_mode : (a b : Mode) → not (same_mode a b) ≡ false → Some (FarFile b) ≡ Some (FarFile a)
one_mode Off Off is = refl
one_mode Off On is = absurd cc
one_mode On Off is = absurd cc
one_mode On On is = refl

alike_shown : (a b : Option Node) → not (shown_same a b) ≡ false → option_map far b ≡ option_map far a
alike_shown None None is = refl
alike_shown None (Some b) is = absurd cc
alike_shown (Some a) None is = absurd cc
alike_shown (Some Dir) (Some Dir) is = refl
alike_shown (Some Dir) (Some FarDir) is = refl
alike_shown (Some Dir) (Some (File bytes mode)) is = absurd cc
alike_shown (Some Dir) (Some (FarFile mode)) is = absurd cc
alike_shown (Some FarDir) (Some Dir) is = refl
alike_shown (Some FarDir) (Some FarDir) is = refl
alike_shown (Some FarDir) (Some (File bytes mode)) is = absurd cc
alike_shown (Some FarDir) (Some (FarFile mode)) is = absurd cc
alike_shown (Some (File bytes mode)) (Some Dir) is = absurd cc
alike_shown (Some (File bytes mode)) (Some FarDir) is = absurd cc
alike_shown (Some (File bytes mode)) (Some (File other new)) is = one_mode mode new is
alike_shown (Some (File bytes mode)) (Some (FarFile new)) is = one_mode mode new is
alike_shown (Some (FarFile mode)) (Some Dir) is = absurd cc
alike_shown (Some (FarFile mode)) (Some FarDir) is = absurd cc
alike_shown (Some (FarFile mode)) (Some (File bytes new)) is = one_mode mode new is
alike_shown (Some (FarFile mode)) (Some (FarFile new)) is = one_mode mode new is

and_given : (a b : Bool) → (a && b) ≡ false → a ≡ true → b ≡ false
and_given true b is a_is = is
and_given false b is a_is = absurd (no_true (sym a_is))

untouched_put : (t : Nodes) (p : Path) (bytes : List ℕ) (k : Path) → FitsPut t p → touches t (Put p bytes) k ≡ false
    → SameInside t (updated t (Put p bytes)) k
untouched_put t p bytes k fits not_touched =
    let new : Node = File bytes (mode_in (get t p)) in
    record {
      row = sym (get-insert_other t p new k (or_first (is_at k p) _ not_touched));
      names = λ name. elim (same_or_apart (k ++ name ∷ []) p) [
        | inl here ↦
            let there = and_given (is_parent k p) _ (or_second (is_at k p) _ not_touched) (parent_is k name p here) in
            ap (shown_in t) here ∙ file_shown (get t p) fits.no_dir fits.no_far_dir there
            ∙ sym (ap (shown_in (insert t p new)) here ∙ ap (option_map far) (get_insert_here t p new))
        | inr away ↦ ap (option_map far) (sym (get-insert_other t p new (k ++ name ∷ []) away))
      ];
    }

untouched_make : (t : Nodes) (p k : Path) → touches t (MakeDir p) k ≡ false → SameInside t (insert t p Dir) k
untouched_make t p k not_touched = record {
  row = sym (get-insert_other t p Dir k (or_first (is_at k p) _ not_touched));
  names = λ name. elim (same_or_apart (k ++ name ∷ []) p) [
    | inl here ↦ absurd (no_true (sym (parent_is k name p here) ∙ or_second (is_at k p) _ not_touched))
    | inr away ↦ ap (option_map far) (sym (get-insert_other t p Dir (k ++ name ∷ []) away))
  ];
}

untouched_remove : (t : Nodes) (p k : Path) → touches t (Remove p) k ≡ false → SameInside t (remove t p) k
untouched_remove t p k not_touched = record {
  row = sym (get_remove_other t p k (or_first (is_at k p) _ not_touched));
  names = λ name. elim (same_or_apart (k ++ name ∷ []) p) [
    | inl here ↦ absurd (no_true (sym (parent_is k name p here) ∙ or_second (is_at k p) _ not_touched))
    | inr away ↦ ap (option_map far) (sym (get_remove_other t p (k ++ name ∷ []) away))
  ];
}

untouched_move : (t : Nodes) (p q k : Path) → FitsMove t p q → touches t (Move p q) k ≡ false → SameInside t (moved t p q) k
untouched_move t p q k fits not_touched =
    let inside_none = or_first (starts_with bytes_eq k q || starts_with bytes_eq k p) _ not_touched in
    let one = or_first (starts_with bytes_eq k q) _ inside_none in
    let two = or_second (starts_with bytes_eq k q) _ inside_none in
    let parents_none = or_second (starts_with bytes_eq k q || starts_with bytes_eq k p) _ not_touched in
    let three = or_first (is_parent k p) _ parents_none in
    let four = or_second (is_parent k p) _ parents_none in
    let to = outside_of q k one in
    let from = outside_of p k two in
    record {
      row = sym (moved_other p q t fits k to from);
      names = λ name. elim (child_side q k name to) [
        | inl here ↦
            let same = and_given (is_parent k q) _ four (parent_is k name q here) in
            ap (shown_in t) here ∙ alike_shown (get t p) (get t q) same ∙ ap (option_map far) (sym (moved_at p q t fits))
            ∙ sym (ap (shown_in (moved t p q)) here)
        | inr out ↦ elim (child_side p k name from) [
          | inl here ↦ absurd (no_true (sym (parent_is k name p here) ∙ three))
          | inr away ↦ ap (option_map far) (sym (moved_other p q t fits (k ++ name ∷ []) out away))
        ]
      ];
    }

untouched_mode : (t : Nodes) (p : Path) (mode : Mode) (k : Path) (o : Option Node) → get t p ≡ o
    → (is_at k p || (is_parent k p && not (shown_same o (option_map (with_mode mode) o)))) ≡ false → SameInside t (mode_set t p mode o) k
untouched_mode t p mode k None is not_touched = record { row = refl; names = λ name. refl }
untouched_mode t p mode k (Some node) is not_touched =
    let new : Node = with_mode mode node in
    record {
      row = sym (get-insert_other t p new k (or_first (is_at k p) _ not_touched));
      names = λ name. elim (same_or_apart (k ++ name ∷ []) p) [
        | inl here ↦
            let same = and_given (is_parent k p) _ (or_second (is_at k p) _ not_touched) (parent_is k name p here) in
            ap (shown_in t) here ∙ ap (option_map far) is ∙ sym (alike_shown (Some node) (Some new) same)
            ∙ sym (ap (shown_in (insert t p new)) here ∙ ap (option_map far) (get_insert_here t p new))
        | inr away ↦ ap (option_map far) (sym (get-insert_other t p new (k ++ name ∷ []) away))
      ];
    }

-- a path that an update does not touch is the same after it, also inside
pub untouched : (t : Nodes) (u : Update) (k : Path) → Fits t u → touches t u k ≡ false → SameInside t (updated t u) k
untouched t (Put p bytes) k fits not_touched = untouched_put t p bytes k fits not_touched
untouched t (MakeDir p) k fits not_touched = untouched_make t p k not_touched
untouched t (Remove p) k fits not_touched = untouched_remove t p k not_touched
untouched t (Move p q) k fits not_touched = untouched_move t p q k fits not_touched
untouched t (SetMode p mode) k fits not_touched = untouched_mode t p mode k (get t p) refl not_touched

-- an update keeps each row that has not its stamp
pub keeps_update : (t : Stamps) (u : Update) (stamp : ℕ) → Fits (nodes_of t) u → Keeps t (stamped t u stamp) stamp
keeps_update t u stamp fits p a n is known other = by (touches (nodes_of t) u p) refl
  where
    f : Path → ℕ
    f = stamp_after t u stamp

    by : (c : Bool) → touches (nodes_of t) u p ≡ c → (get t p ≡ Some (a, n)) × SameInside (nodes_of t) (nodes_of (stamped t u stamp)) p
    by true touched =
        let row = with_row f (updated (nodes_of t) u) p a n is in
        absurd (other (row.stamp ∙ ap (λ (b : Bool). cond b (f p) 0) known ∙ ap (λ (b : Bool). cond b stamp (stamp_at t p)) touched))
    by false touched =
        let row = with_row f (updated (nodes_of t) u) p a n is in
        let same = untouched (nodes_of t) u p fits touched in
        let n_is : n ≡ stamp_at t p = row.stamp ∙ ap (λ (b : Bool). cond b (f p) 0) known
        ∙ ap (λ (b : Bool). cond b stamp (stamp_at t p)) touched in (
          row_back t p a (same.row ∙ row.node) ∙ ap (λ (m : ℕ). Some (a, m)) (sym n_is),
          subst (λ (nodes : Nodes). SameInside (nodes_of t) nodes p) (sym (nodes_with f (updated (nodes_of t) u))) same,
        )

-- updates one after the other
pub keeps_all : (t : Stamps) (us : List Update) (stamp : ℕ) → FitAll (nodes_of t) us → Keeps t (stamped_all t us stamp) stamp
keeps_all t [] stamp fits = keeps_none t stamp
keeps_all t (u ∷ us) stamp fits =
    keeps_then t (stamped t u stamp) (stamped_all (stamped t u stamp) us stamp) stamp (keeps_update t u stamp fits.0)
    (keeps_all (stamped t u stamp) us stamp
    (subst (λ (nodes : Nodes). FitAll nodes us) (sym (nodes_with (stamp_after t u stamp) (updated (nodes_of t) u))) fits.1))
