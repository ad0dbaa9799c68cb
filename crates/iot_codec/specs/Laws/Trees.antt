-- The laws of nodes and trees.
use Rattle.std.proofs.Common.{◌≡◌, ◌⊎◌, inl, inr, ℕ, ◌<◌, ◌≤◌, ◌^◌, Bool, true, false, IsTrue, List, [], ◌∷◌, ◌++◌, length, Option}
use Rattle.std.proofs.Common.{Some, None, Ok, refl, sym, ap, ◌∙◌, subst, append_assoc, arith, length-append}
use Rattle.std.specs.Prelude.{◌||◌, nat_lt, nat_eq, MatchOption, IfOk, Result, Err}
use Rattle.std.specs.Cmp.{first_so, second_so}
use Rattle.std.specs.Cmp.Derive.{both_true}
use Rattle.std.specs.Cmp.Lexicographic.{pointwise}
use Rattle.std.specs.FinMap.{entries, entries_sorted, same_entries_map}
use Rattle.std.specs.List.{AllByRecursion, flat_map, starts_with}
use Rattle.std.specs.Ordering.{is_lt}
use Rattle.std.proofs.lemmas.Bool.{cases_lt, le-ltb, lt-ltb, ltb-true}
use Rattle.iot_text.specs.Paths.{IsPath, path_cmp, parent_of}
use Rattle.iot_tree.specs.declared.nodes.Node.{Node}
use Rattle.iot_tree.specs.declared.nodes.Node.TheVariants.{Dir, File, FarDir, FarFile}
use Rattle.iot_tree.specs.Follows.{HasDir, Follows}
use Rattle.iot_tree.specs.Questions.{is_dir, is_known_dir}
use Rattle.iot_tree.specs.Rows.{map_of, AreTreeRows}
use Rattle.iot_tree.specs.Tree.{Nodes, Path, Row, IsTree}
use Rattle.iot_tree.proofs.ChainLaws.{Chained, chained}
use Rattle.iot_tree.proofs.FollowLaws.{grown, not_begun, longer_has, same_has, empty_is}
use Rattle.iot_tree.proofs.PlaceLaws.{is_less, find_after, below_lower, back_after}
use Rattle.iot_tree.proofs.RowLaws.{is_tested, get_rows, entries_rows, get_middle, root_rows}
use Rattle.iot_codec.specs.Places.{LiesAt, IsSpelling}
use Rattle.iot_views.specs.Decoders.{◌>>=◌, done, tested, number_at}
use Rattle.iot_views.specs.Decoding.{path_at, contents_at, mode_at, node_table, node_at, row_at, at_least_one, rows_at, tree_at}
use Rattle.iot_views.specs.Rules.{IsNumber, IsContents, IsMode, IsNode, IsRow, IsTreeOfRows, has_dir, has_parent, path_follows}
use Rattle.iot_views.specs.Rules.{node_follows}
use Rattle.iot_codec.specs.Spelling.{number_spelling, pair_spelling, path_spelling, contents_spelling, mode_spelling, node_spelling}
use Rattle.iot_codec.specs.Spelling.{rows_spelling, tree_spelling}
use Rattle.iot_codec.specs.Laws.Bases.{made_laws}
use Rattle.iot_codec.specs.Laws.Fields.{last_field, next_field, all_fields}
use Rattle.iot_codec.specs.Laws.Lists.{Follow, counted_list_laws, items_some}
use Rattle.iot_codec.specs.Laws.Parts.{number_laws, tested_laws, without_count, same_rule}
use Rattle.iot_codec.specs.Laws.Modes.{mode_laws}
use Rattle.iot_codec.specs.Laws.Tags.{AreArms, empty_arm, single_arm, double_arm, tagged_found, tagged_again, empty_again, single_again}
use Rattle.iot_codec.specs.Laws.Tags.{double_again}
use Rattle.iot_codec.specs.Laws.Values.{path_laws, contents_laws}

-- ---- nodes

node_arms : AreArms IsNode node_spelling node_table
unfolding node_spelling
node_arms =
    let file =
    double_arm IsNode node_spelling 2 IsMode mode_spelling mode_at mode_laws IsContents contents_spelling contents_at contents_laws
    (λ mode contents. File contents mode) (λ mode contents has_mode has. has) (λ mode contents. refl) in
    let far_file =
    single_arm IsNode node_spelling 4 IsMode mode_spelling mode_at mode_laws FarFile (λ mode has. tt) (λ mode. refl) in (
      empty_arm IsNode node_spelling 1 Dir tt refl,
      (file, (empty_arm IsNode node_spelling 3 FarDir tt refl, (far_file, tt))),
    )

node_again : (n : Node) (bytes : List ℕ) (at end : ℕ) → length bytes < 2 ^ 64 → IsNode n → LiesAt bytes at (node_spelling n) end
    → node_at bytes at ≡ Ok (n, end)
unfolding node_at node_spelling
node_again Dir bytes at end short has p = tagged_again node_table bytes at end 1 [] p ∙ empty_again Dir bytes at end 1 p
node_again (File contents mode) bytes at end short has p =
    tagged_again node_table bytes at end 2 (mode_spelling mode ++ contents_spelling contents) p
    ∙ double_again IsMode mode_spelling mode_at mode_laws IsContents contents_spelling contents_at contents_laws
    (λ mode contents. File contents mode) mode contents bytes at end 2 short tt has p
node_again FarDir bytes at end short has p = tagged_again node_table bytes at end 3 [] p ∙ empty_again FarDir bytes at end 3 p
node_again (FarFile mode) bytes at end short has p =
    tagged_again node_table bytes at end 4 (mode_spelling mode) p
    ∙ single_again IsMode mode_spelling mode_at mode_laws FarFile mode bytes at end 4 short tt p

node_some : (n : Node) → 0 < length (node_spelling n)
unfolding node_spelling
node_some Dir = omega arith
node_some (File contents mode) = omega arith
node_some FarDir = omega arith
node_some (FarFile mode) = omega arith

pub node_laws : IsSpelling IsNode node_spelling node_at
unfolding node_at
node_laws = record {
  found = λ bytes at read fit e. tagged_found IsNode node_spelling node_table bytes at read node_arms fit e;
  only = λ bytes at read short p. node_again read.0 bytes at read.1 short p.value p.place;
  some = node_some;
}

-- ---- which row may follow

true_unless : (b : Bool) → (b ≡ false → ⊥) → b ≡ true
true_unless true never = refl
true_unless false never = absurd (never refl)

or_false : (a b : Bool) → a ≡ false → IsTrue (a || b) → b ≡ true
or_false a b is h = rw is at h

dir_is : (last : Row) (path : Path) → has_dir last path ≡ true → HasDir last path
dir_is last path h =
    let begins = starts_with (pointwise nat_eq) last.0 path in
    let front : begins ≡ true = first_so begins _ h in
    elim (cases_lt (length path) (length last.0)) [
      | inl longer ↦ longer_has last path begins refl front longer
      | inr short ↦
          (same_has last path begins refl front short).0
          (or_false (nat_lt (length path) (length last.0)) (is_known_dir last.1) (le-ltb _ _ short) (second_so begins _ h))
    ]

dir_so : (last : Row) (path : Path) → HasDir last path → has_dir last path ≡ true
dir_so last path has =
    let begins = starts_with (pointwise nat_eq) last.0 path in
    let front : begins ≡ true = true_unless begins (λ is. not_begun last path begins refl is has) in
    elim (cases_lt (length path) (length last.0)) [
      | inl longer ↦ rw (front, lt-ltb _ _ longer) refl
      | inr short ↦ rw (front, le-ltb _ _ short) ((same_has last path begins refl front short).1 has)
    ]

parent_is : (last : Row) (parent : Option Path) → has_parent last parent ≡ true → MatchOption parent ⊥ (HasDir last)
parent_is last None h = absurd cc
parent_is last (Some parent) h = dir_is last parent h

parent_so : (last : Row) (parent : Option Path) → MatchOption parent ⊥ (HasDir last) → has_parent last parent ≡ true
parent_so last None h = absurd h
parent_so last (Some parent) h = dir_so last parent h

follows_is : (last row : Row) → path_follows (Some last) row.0 ≡ true → Follows last row
follows_is last row h = record {
  rises = is_less (path_cmp last.0 row.0) (first_so _ _ h);
  parent = parent_is last (parent_of row.0) (second_so (is_lt (path_cmp last.0 row.0)) _ h);
}

follows_so : (last row : Row) → Follows last row → path_follows (Some last) row.0 ≡ true
follows_so last row f = both_true (ap is_lt f.rises) (parent_so last (parent_of row.0) f.parent)

-- ---- rows

-- the row may follow the one before it
May : Option Row → Row → Type 0
May previous row =
    ((path_follows previous row.0 ≡ true) × IsPath row.0) × ((node_follows previous row.1 ≡ true) × IsNode row.1)

row_laws : (previous : Option Row) → IsSpelling (May previous) (pair_spelling path_spelling node_spelling) (row_at previous)
unfolding row_at May
row_laws previous =
    let path = tested_laws (path_follows previous) IsPath path_spelling path_at path_laws in
    let node = tested_laws (node_follows previous) IsNode node_spelling node_at node_laws in
    all_fields (May previous) (pair_spelling path_spelling node_spelling)
    (λ f. tested (path_follows previous) path_at >>= λ path. tested (node_follows previous) node_at >>= λ node. done (path, node))
    (next_field (λ r. tt) (λ r. r.0) (λ path. (path_follows previous path ≡ true) × IsPath path) path_spelling
    (tested (path_follows previous) path_at) path (λ r. (node_follows previous r.1 ≡ true) × IsNode r.1)
    (λ r. node_spelling r.1) (λ f. tested (node_follows previous) node_at >>= λ node. done (f.1, node))
    (last_field (λ r. (tt, r.0)) (λ r. r.1) (λ node. (node_follows previous node ≡ true) × IsNode node) node_spelling
    (tested (node_follows previous) node_at) node (λ f node. (f.1, node))
    (record { whole = λ r. refl; front_is = λ f y. refl; last_is = λ f y. refl })))

-- rows of a tree whose files have such contents
pub record AreRows (rows : List Row) : Type 0 where
  pub tree : AreTreeRows rows
  pub each : AllByRecursion IsRow rows

grow : (front : List Row) (last : Row) (rows : List Row) → AreTreeRows (front ++ last ∷ []) → Follow May rows (Some last)
    → AreTreeRows (front ++ last ∷ rows)
unfolding May
grow front last [] so_far follow = so_far
grow front last (row ∷ rows) so_far follow =
    subst AreTreeRows (append_assoc front (last ∷ []) (row ∷ rows))
    (grow (front ++ last ∷ []) row rows (grown front last row so_far (follows_is last row follow.0.0.0)) follow.1)

tree_from_follow : (rows : List Row) → 0 < length rows → Follow May rows None → AreTreeRows rows
unfolding May
tree_from_follow [] some follow = absurd (omega arith)
tree_from_follow (row ∷ rows) some follow =
    let root : AreTreeRows (row ∷ []) =
    subst (λ (p : Path). AreTreeRows ((p, row.1) ∷ [])) (sym (empty_is row.0 follow.0.0.0)) (root_rows row.1 follow.0.1.0) in
    grow [] row rows root follow.1

each_from_follow : (rows : List Row) (previous : Option Row) → Follow May rows previous → AllByRecursion IsRow rows
unfolding May
each_from_follow [] previous follow = tt
each_from_follow (row ∷ rows) previous follow = ((follow.0.0.1, follow.0.1.1), each_from_follow rows (Some row) follow.1)

follow_more : (last : Row) (rows : List Row) → Chained last rows → AllByRecursion IsRow rows → Follow May rows (Some last)
unfolding May
follow_more last [] chain each = tt
follow_more last (row ∷ rows) chain each =
    (((follows_so last row chain.0, each.0.0), (refl, each.0.1)), follow_more row rows chain.1 each.1)

some_dir : (node : Node) → (Some node ≡ Some Dir) ⊎ (Some node ≡ Some FarDir) → is_dir node ≡ true
some_dir Dir is = refl
some_dir (File bytes mode) (inl is) = absurd cc
some_dir (File bytes mode) (inr is) = absurd cc
some_dir FarDir is = refl
some_dir (FarFile mode) (inl is) = absurd cc
some_dir (FarFile mode) (inr is) = absurd cc

no_dir : (◌≡◌ {A = Option Node} None (Some Dir)) ⊎ (◌≡◌ {A = Option Node} None (Some FarDir)) → ⊥
no_dir (inl is) = cc
no_dir (inr is) = cc

-- the first row of a tree is the root's
root_first : (path : Path) (node : Node) (rows : List Row) → AreTreeRows ((path, node) ∷ rows)
    → (path_follows None path ≡ true) × (is_dir node ≡ true)
root_first [] node rows all = (
  refl,
  some_dir node (rw (get_middle [] ([], node) rows all.rising) at all.tree.root),
)
root_first (name ∷ path) node rows all =
    let after = both_true refl (below_lower [] (name ∷ path) rows refl (back_after [] (name ∷ path, node) rows all.rising)) in
    absurd
    (no_dir
    (rw (get_rows ((name ∷ path, node) ∷ rows) all.rising [], find_after [] ((name ∷ path, node) ∷ rows) after) at all.tree.root))

no_rows : AreTreeRows [] → ⊥
no_rows all = no_dir (rw (get_rows [] all.rising []) at all.tree.root)

some_rows : (rows : List Row) → AreTreeRows rows → nat_lt 0 (length rows) ≡ true
some_rows [] all = absurd (no_rows all)
some_rows (row ∷ rows) all = lt-ltb 0 (length (row ∷ rows)) (omega arith)

follow_from_rows : (rows : List Row) → AreTreeRows rows → AllByRecursion IsRow rows → Follow May rows None
unfolding May
follow_from_rows [] all each = tt
follow_from_rows (row ∷ rows) all each =
    let root = root_first row.0 row.1 rows all in
    (((root.0, each.0.0), (root.1, each.0.1)), follow_more row rows (chained [] row rows all) each.1)

pub rows_laws : IsSpelling AreRows rows_spelling rows_at
unfolding rows_at
rows_laws =
    let Some_ : ℕ → Type 0 = λ n. (nat_lt 0 n ≡ true) × IsNumber n in
    let Rows : List Row → Type 0 = λ rows. (nat_lt 0 (length rows) ≡ true) × Follow May rows None in
    let counted =
    counted_list_laws May (pair_spelling path_spelling node_spelling) row_at row_laws Some_ at_least_one
    (tested_laws (λ n. nat_lt 0 n) IsNumber number_spelling number_at number_laws) in
    let numbered =
    same_rule (λ rows. Some_ (length rows) × Follow May rows None) (λ rows. IsNumber (length rows) × Rows rows) rows_spelling rows_at
    (λ rows has. (has.0.1, (has.0.0, has.1))) (λ rows has. ((has.1.0, has.0), has.1.1)) counted in
    same_rule Rows AreRows rows_spelling rows_at
    (λ rows has.
    record { tree = tree_from_follow rows (ltb-true 0 (length rows) has.0) has.1; each = each_from_follow rows None has.1 })
    (λ rows has. (some_rows rows has.tree, follow_from_rows rows has.tree has.each))
    (without_count length Rows rows_spelling rows_at no_more numbered)
  where
    no_more : (rows : List Row) → length rows ≤ length (rows_spelling rows)
    no_more rows =
        omega (
          arith,
          length-append (number_spelling (length rows)) (flat_map (pair_spelling path_spelling node_spelling) rows),
          items_some May (pair_spelling path_spelling node_spelling) row_at row_laws rows,
        )

-- so rows that are read make a tree
pub rows_are_tree : {E : Type 0} (answer : Result (List Row × ℕ) E) → IfOk answer (λ read. AreRows read.0)
    → IfOk answer (λ read. AreTreeRows read.0)
rows_are_tree (Ok read) has = has.tree
rows_are_tree (Err fault) has = tt

-- ---- trees

map_entries : (tree : Nodes) → map_of (entries tree) ≡ tree
map_entries tree = same_entries_map _ _ (entries_rows (entries tree) (is_tested _ (entries_sorted tree)))

-- a tree is the map of its rows
of_rows : (tree : Nodes) (rows : List Row) → entries tree ≡ rows → tree ≡ map_of rows
of_rows tree rows is = sym (map_entries tree) ∙ ap map_of is

-- so rows that are read give the tree that has them
pub tree_read : (bytes : List ℕ) (at : ℕ) (tree : Nodes) (rows : List Row) (end : ℕ) → rows_at bytes at ≡ Ok (rows, end)
    → entries tree ≡ rows
    → tree_at bytes at ≡ Ok (tree, end)
unfolding tree_at
tree_read bytes at tree rows end e is = rw e (ap (λ (t : Nodes). Ok (t, end)) (sym (of_rows tree rows is)))

pub tree_laws : IsSpelling IsTreeOfRows tree_spelling tree_at
unfolding tree_at
tree_laws =
    made_laws AreRows IsTreeOfRows map_of entries rows_spelling rows_at
    (record {
      has = λ rows has. record {
        tree = has.tree.tree;
        each = subst (λ (rows : List Row). AllByRecursion IsRow rows) (sym (entries_rows rows has.tree.rising)) has.each;
      };
      had = λ tree has. record {
        tree = record { rising = is_tested _ (entries_sorted tree); tree = subst IsTree (sym (map_entries tree)) has.tree };
        each = has.each;
      };
      seen = λ rows has. entries_rows rows has.tree.rising;
      made = λ tree has. map_entries tree;
    })
    rows_laws
