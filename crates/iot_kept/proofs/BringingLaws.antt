-- What becomes of the held tree by the changes that a reply brings.
use Rattle.std.proofs.Common.{◌≡◌, ℕ, Bool, true, false, cond, List, [], ◌∷◌, ◌++◌, map, Option, Some, None, option_map}
use Rattle.std.proofs.Common.{refl, sym, ap, subst, ◌∙◌}
use Rattle.std.proofs.lemmas.Option.{same_Some, none-some}
use Rattle.std.specs.List.{AllByRecursion, filter}
use Rattle.std.specs.Ordering.{eq_by_cmp}
use Rattle.std.specs.FinMap.{get, find, entries, get-from_entries}
use Rattle.iot_text.specs.Paths.{path_cmp}
use Rattle.iot_text.proofs.PathsLaws.{path_total}
use Rattle.iot_tree.specs.Tree.{Path, Nodes, IsTree, root_alone}
use Rattle.iot_tree.specs.declared.changes.Changes.{Changes}
use Rattle.iot_tree.specs.declared.nodes.Node.{Node}
use Rattle.iot_tree.specs.declared.nodes.Node.TheVariants.{FarDir}
use Rattle.iot_tree.proofs.EachLaws.{each_entry}
use Rattle.iot_tree.proofs.PathLaws.{tied}
use Rattle.iot_views.specs.Rules.{IsNumber, IsRow, IsStampedNode, AreChanges, IsTreeOfRows}
use Rattle.iot_text.specs.Paths.{IsPath}
use Rattle.iot_stamp.specs.Refresh.{zeroed, joined, merged, stays}
use Rattle.iot_stamp.specs.Stamps.{Entry, Stamps, nodes_of, nothing_held}
use Rattle.iot_stamp.proofs.MappedLaws.{entries_of_mapped, get_mapped}
use Rattle.iot_stamp.proofs.StampsLaws.{get_nodes, nodes_with}
use Rattle.iot_changes.specs.Rules.{IsChange}
use Rattle.iot_changes.specs.declared.changes.Change.{Change}
use Rattle.iot_kept.specs.Bringing.{base_for, brought, brought_for, bringing}
use Rattle.iot_kept.specs.Changes.{CanFollow, after}
use Rattle.iot_kept.specs.Memory.{classes_after}
use Rattle.iot_kept.specs.Spelled.{IsSpelledState}
use Rattle.iot_kept.specs.States.{State, Transaction}
use Rattle.iot_kept.specs.declared.bringing.Purpose.{Purpose}
use Rattle.iot_kept.specs.declared.bringing.Purpose.TheVariants.{Hold, Fetch, Walk}
use Rattle.iot_kept.proofs.SpelledLaws.{far_root_rows, numbers_spelled}
use Rattle.iot_kept.proofs.StatesLaws.{run_number}

-- ---- entries whose rows have spellings

abbrev IsSpelledEntry : Entry → Type 0
IsSpelledEntry e = IsRow (e.0, e.1.0)

all_both : (xs ys : List Entry) → AllByRecursion IsSpelledEntry xs → AllByRecursion IsSpelledEntry ys
    → AllByRecursion IsSpelledEntry (xs ++ ys)
all_both [] ys one two = two
all_both (x ∷ xs) ys one two = (one.0, all_both xs ys one.1 two)

all_left : (keep : Entry → Bool) (xs : List Entry) → AllByRecursion IsSpelledEntry xs → AllByRecursion IsSpelledEntry (filter keep xs)
all_left keep [] all = tt
all_left keep (x ∷ xs) all = by (keep x) refl (all_left keep xs all.1)
  where
    by : (b : Bool) → keep x ≡ b → AllByRecursion IsSpelledEntry (filter keep xs) → AllByRecursion IsSpelledEntry (filter keep (x ∷ xs))
    by true is rest = rw is (all.0, rest)
    by false is rest = rw is rest

new_rows : (rows : List Entry) → AllByRecursion (λ (e : Entry). IsPath e.0 × IsStampedNode e.1) rows → AllByRecursion IsSpelledEntry rows
new_rows [] all = tt
new_rows (row ∷ rows) all = ((all.0.0, all.0.1.0), new_rows rows all.1)

held_rows : (es : List Entry) → AllByRecursion IsRow (map (λ (e : Entry). (e.0, e.1.0)) es) → AllByRecursion IsSpelledEntry es
held_rows [] all = tt
held_rows (e ∷ es) all = (all.0, held_rows es all.1)

found : (p : Path) (es : List Entry) (row : Node × ℕ) → AllByRecursion IsSpelledEntry es → find path_cmp p es ≡ Some row → IsRow (p, row.0)
found p [] row all is = absurd (none-some row is)
found p (e ∷ es) row all is = by (eq_by_cmp path_cmp p e.0) refl is (λ here. found p es row all.1 here)
  where
    by : (b : Bool) → eq_by_cmp path_cmp p e.0 ≡ b → cond b (Some e.1) (find path_cmp p es) ≡ Some row
        → (find path_cmp p es ≡ Some row → IsRow (p, row.0)) → IsRow (p, row.0)
    by true tie here later =
        subst (λ (x : Node × ℕ). IsRow (p, x.0)) (same_Some _ _ here)
        (subst (λ (q : Path). IsRow (q, e.1.0)) (sym (tied p e.0 tie)) all.0)
    by false tie here later = later here

-- ---- the change that brings a tree

-- what it is brought for has a number that has a spelling
abbrev pub IsSpelledPurpose : Purpose → Type 0
IsSpelledPurpose Hold = Unit {0}
IsSpelledPurpose (Fetch number) = IsNumber number
IsSpelledPurpose Walk = Unit {0}

-- one that runs has
pub purpose_spelled : (purpose : Purpose) (state : State) (t : Nodes) → IsSpelledState state → CanFollow state (brought_for purpose t)
    → IsSpelledPurpose purpose
purpose_spelled Hold state t spelled follows = tt
purpose_spelled (Fetch number) state t spelled follows =
    run_number IsNumber number state.running _ follows.0 (numbers_spelled state.running spelled.running)
purpose_spelled Walk state t spelled follows = tt

is_change : (purpose : Purpose) (t : Nodes) → IsSpelledPurpose purpose → IsTreeOfRows t → IsChange (brought_for purpose t)
is_change Hold t is rows = rows
is_change (Fetch number) t is rows = (is, rows)
is_change Walk t is rows = rows

-- whether it can follow does not depend on the tree
pub follows_with : (state : State) (purpose : Purpose) (t u : Nodes) → CanFollow state (brought_for purpose t)
    → CanFollow state (brought_for purpose u)
follows_with state Hold t u follows = follows
follows_with state (Fetch number) t u follows = follows
follows_with state Walk t u follows = follows

-- the tree is held after it
brought_held : (purpose : Purpose) (state : State) (t : Nodes) → (after state (brought_for purpose t)).held ≡ t
brought_held Hold state t = refl
brought_held (Fetch number) state t = refl
brought_held Walk state t = refl

-- whatever change it is that brings it
pub same_tree : (purpose : Purpose) (state now : State) (t u : Nodes) (change : Change) → t ≡ u → change ≡ brought_for purpose t
    → now ≡ after state change → u ≡ now.held
same_tree purpose state now t u change is made follows =
    sym is ∙ sym (brought_held purpose state t) ∙ ap (λ (ch : Change). (after state ch).held) (sym made)
    ∙ ap (λ (s : State). s.held) (sym follows)

-- nor does it change a class
brought_classes : (purpose : Purpose) (tree : Nodes) (running : List Transaction) (classes : List Bool) →
    classes_after (brought_for purpose tree) running classes ≡ classes
brought_classes Hold tree running classes = refl
brought_classes (Fetch number) tree running classes = refl
brought_classes Walk tree running classes = refl

pub same_classes : (purpose : Purpose) (tree : Nodes) (change : Change) (running : List Transaction) (classes : List Bool) →
    change ≡ brought_for purpose tree → classes_after change running classes ≡ classes
same_classes purpose tree change running classes is =
    ap (λ (ch : Change). classes_after ch running classes) is ∙ brought_classes purpose tree running classes

-- ---- what is brought

pub nothing_rows : IsTreeOfRows (nodes_of nothing_held)
nothing_rows = subst IsTreeOfRows (sym (nodes_with (λ p. 0) (root_alone FarDir))) far_root_rows

-- what the changes are merged into has a spelling
pub base_spelled : (purpose : Purpose) (held : Stamps) → IsTreeOfRows (nodes_of held) → IsTreeOfRows (nodes_of (base_for purpose held))
base_spelled Hold held spelled = spelled
base_spelled (Fetch number) held spelled = spelled
base_spelled Walk held spelled = nothing_rows

module _ (held : Stamps) (changes : Changes) (spelled : IsTreeOfRows (nodes_of held)) (are : AreChanges changes) where
  abbrev all_rows : List Entry
  all_rows = changes.rows ++ filter (stays changes.rows changes.gone) (entries held)

  each : AllByRecursion IsSpelledEntry all_rows
  each =
      all_both changes.rows _ (new_rows changes.rows are.rows.each)
      (all_left (stays changes.rows changes.gone) (entries held)
      (held_rows (entries held)
      (subst (AllByRecursion IsRow) (entries_of_mapped (λ p (row : Node × ℕ). row.0) held) spelled.each)))

  node_at : (p : Path) (node : Node) → get (nodes_of (brought held changes)) p ≡ Some node → IsRow (p, node)
  node_at p node is = by (find path_cmp p all_rows) refl
      (sym (get_nodes (brought held changes) p ∙ ap (option_map (λ (row : Node × ℕ). row.0))
      (get_mapped zeroed (joined held changes.rows changes.gone) p
      ∙ ap (option_map (zeroed p)) (get-from_entries path_total all_rows p))) ∙ is)
    where
      by : (o : Option (Node × ℕ)) → find path_cmp p all_rows ≡ o
          → option_map (λ (row : Node × ℕ). row.0) (option_map (zeroed p) o) ≡ Some node → IsRow (p, node)
      by None here made = absurd (none-some node made)
      by (Some row) here made =
          subst (λ (n : Node). IsRow (p, n)) (same_Some _ _ made) (found p all_rows row each here)

  pub brought_spelled : IsTree (nodes_of (brought held changes)) → IsTreeOfRows (nodes_of (brought held changes))
  brought_spelled tree = record { tree = tree; each = each_entry (λ p node. IsRow (p, node)) (nodes_of (brought held changes)) node_at }

-- the change that brings it has a spelling, ..
pub brings_spelled : (held : Stamps) (changes : Changes) → IsTreeOfRows (nodes_of held) → AreChanges changes → (purpose : Purpose)
    → IsSpelledPurpose purpose → IsTree (nodes_of (brought (base_for purpose held) changes)) → IsChange (bringing purpose held changes)
brings_spelled held changes spelled are purpose is tree =
    let base = base_for purpose held in
    is_change purpose (nodes_of (brought base changes)) is (brought_spelled base changes (base_spelled purpose held spelled) are tree)

-- .. also if it was merged into an equal tree
pub change_spelled : (state : State) (stamps base now : Stamps) (changes : Changes) (purpose : Purpose) (t u : Nodes) (change : Change)
    → base ≡ base_for purpose stamps → IsSpelledState state → CanFollow state (brought_for purpose u) → IsTreeOfRows (nodes_of stamps)
    → AreChanges changes → now ≡ brought base changes → IsTree (nodes_of now) → t ≡ nodes_of now → change ≡ brought_for purpose t
    → IsChange change
change_spelled state stamps base now changes purpose t u change same all follows spelled are merged tree is made =
    let whole : now ≡ brought (base_for purpose stamps) changes = merged ∙ ap (λ (s : Stamps). brought s changes) same in
    let outcome = subst (λ (s : Stamps). IsTree (nodes_of s)) whole tree in
    let known = purpose_spelled purpose state u all follows in
    subst IsChange (sym (made ∙ ap (brought_for purpose) (is ∙ ap nodes_of whole)))
    (brings_spelled stamps changes spelled are purpose known outcome)
