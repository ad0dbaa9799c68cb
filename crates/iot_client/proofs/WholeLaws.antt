-- A tree is whole if it has no far row, and only then.
use Rattle.std.proofs.Common.{◌≡◌, ℕ, Bool, true, false, ◌&&◌, cond, List, [], ◌∷◌, length, Option, Some, Ok, Err, refl, sym, ap}
use Rattle.std.proofs.Common.{subst, ◌∙◌}
use Rattle.std.specs.Cmp.Derive.{both_true}
use Rattle.std.specs.List.{AllByRecursion, list_all}
use Rattle.std.specs.FinMap.{find, get, entries, get-entries}
use Rattle.std.specs.Ordering.{eq_by_cmp}
use Rattle.iot_text.specs.Paths.{path_cmp}
use Rattle.iot_stamp.proofs.PrunedLaws.{whole_known}
use Rattle.iot_tree.proofs.EachLaws.{each_entry}
use Rattle.iot_tree.specs.Snapshots.{is_known}
use Rattle.iot_tree.specs.Tree.{Path, Row, Nodes, IsTree, IsWhole}
use Rattle.iot_tree.specs.declared.nodes.Node.{Node}
use Rattle.iot_tree.specs.declared.nodes.Node.TheVariants.{FarDir, FarFile}
use Rattle.iot_tree.specs.declared.changes.Changes.{Changes}
use Rattle.iot_stamp.specs.Stamps.{Stamps, nodes_of, nothing_held}
use Rattle.iot_wire.specs.Messages.{IsMessage}
use Rattle.iot_wire.specs.Rules.{IsReply}
use Rattle.iot_wire.specs.Spelling.{reply_spelling}
use Rattle.iot_wire.specs.declared.replies.Reply.TheVariants.{Objects}
use Rattle.iot_kept.specs.Bringing.{brought}
use Rattle.iot_client.specs.Messages.{objects_in, is_known_row, is_whole, MakesWhole, MakesOf, made, no_tree}

first_so : (a b : Bool) → (a && b) ≡ true → a ≡ true
first_so true b is = refl
first_so false b is = absurd cc

second_so : (a b : Bool) → (a && b) ≡ true → b ≡ true
second_so true b is = is
second_so false b is = absurd cc

found : (b : Bool) (e node : Node) (rest : Option Node) → cond b (Some e) rest ≡ Some node → is_known e ≡ true
    → (rest ≡ Some node → is_known node ≡ true) → is_known node ≡ true
found true e node rest is known later =
    let same : e ≡ node = cc in
    subst (λ (n : Node). is_known n ≡ true) same known
found false e node rest is known later = later is

-- what is found among known rows is known
find_known : (rows : List Row) (p : Path) (node : Node) → list_all is_known_row rows ≡ true → find path_cmp p rows ≡ Some node
    → is_known node ≡ true
find_known [] p node all is = absurd cc
find_known (row ∷ rows) p node all is =
    found (eq_by_cmp path_cmp p row.0) row.1 node (find path_cmp p rows) is (first_so (is_known row.1) (list_all is_known_row rows) all)
    (find_known rows p node (second_so (is_known row.1) (list_all is_known_row rows) all))

there : (t : Nodes) (p : Path) (node : Node) → is_whole t ≡ true → get t p ≡ Some node → is_known node ≡ true
there t p node whole is = find_known (entries t) p node whole (sym (get-entries t p) ∙ is)

no_both : ◌≡◌ {A = Bool} true false → ⊥
no_both same = cc

not_far : (node : Node) → is_known node ≡ false → is_known node ≡ true → ⊥
not_far node far known = absurd cc

pub whole : (t : Nodes) → is_whole t ≡ true → IsWhole t
whole t all = record {
  no_far_dir = λ p is. not_far FarDir refl (there t p FarDir all is);
  no_far_file = λ p mode is. not_far (FarFile mode) refl (there t p (FarFile mode) all is);
}

-- and a whole tree has none
all_known : (rows : List Row) → AllByRecursion (λ (row : Row). is_known row.1 ≡ true) rows → list_all is_known_row rows ≡ true
all_known [] all = refl
all_known (row ∷ rows) all = both_true all.0 (all_known rows all.1)

pub no_far : (t : Nodes) → IsWhole t → is_whole t ≡ true
no_far t whole = all_known (entries t) (each_entry (λ p node. is_known node ≡ true) t (λ p node is. whole_known t whole p node is))

-- ---- what a reply makes of nothing

module _ (reply : List ℕ) (changes : Changes) (read : objects_in reply ≡ Ok changes) (held : Stamps) (none : held ≡ nothing_held) where
  pub makes_no_tree : (IsTree (nodes_of (brought held changes)) → ⊥) → MakesWhole reply (Err (length reply))
  makes_no_tree refused =
      no_tree changes read (λ passes.
      refused (subst (λ (t : Stamps). IsTree (nodes_of (brought t changes))) (sym none) passes.0))

  module _ (now : Stamps) (made_is : now ≡ brought held changes) (t : Nodes) (t_is : t ≡ nodes_of now) where
    is_made : now ≡ brought nothing_held changes
    is_made = made_is ∙ ap (λ (t : Stamps). brought t changes) none

    pub makes_whole : IsTree (nodes_of now) → is_whole t ≡ true → MakesWhole reply (Ok now)
    makes_whole tree all =
        subst (λ (s : Stamps). MakesWhole reply (Ok s)) (sym is_made) (made changes read (
          subst (λ (s : Stamps). IsTree (nodes_of s)) is_made tree,
          subst IsWhole (t_is ∙ ap nodes_of is_made) (whole t all),
        ))

    pub makes_part : is_whole t ≡ false → MakesWhole reply (Err (length reply))
    makes_part far =
        no_tree changes read (λ passes.
        no_both (sym (no_far t (subst IsWhole (sym (t_is ∙ ap nodes_of is_made)) passes.1)) ∙ far))

    pub makes_of : IsMessage IsReply reply_spelling reply (Objects changes) → IsTree (nodes_of now) → is_whole t ≡ true
        → MakesOf reply now
    makes_of spelled tree all = record {
      changes = changes;
      read = read;
      spelled = spelled;
      is = is_made;
      tree = tree;
      whole = subst IsWhole t_is (whole t all);
    }
