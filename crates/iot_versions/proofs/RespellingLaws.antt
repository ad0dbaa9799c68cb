-- Trees that are spelled anew.
use Rattle.std.proofs.Common.{◌≡◌, ℕ, ◌<◌, ◌^◌, Bool, true, false, List, [], ◌∷◌, ◌++◌, length, drop, Ok, refl, sym, ap, ◌∙◌}
use Rattle.std.proofs.Common.{◌-◌, append_assoc, subst, take}
use Rattle.std.proofs.lemmas.List.{take_rest}
use Rattle.std.specs.Prelude.{None}
use Rattle.std.specs.Cmp.{first_so, second_so}
use Rattle.std.specs.FinMap.{entries, same_entries_map}
use Rattle.std.specs.List.{list_all, AllByRecursion}
use Rattle.iot_text.specs.Paths.{IsPath}
use Rattle.iot_tree.specs.Tree.{Nodes, Row}
use Rattle.iot_tree.specs.declared.nodes.Mode.{Mode}
use Rattle.iot_tree.specs.declared.nodes.Mode.TheVariants.{On, Off}
use Rattle.iot_tree.specs.declared.nodes.Node.{Node}
use Rattle.iot_tree.specs.declared.nodes.Node.TheVariants.{Dir, File, FarDir, FarFile}
use Rattle.iot_codec.specs.Laws.Fields.{last_field, next_field, all_fields}
use Rattle.iot_codec.specs.Laws.Lists.{list_laws}
use Rattle.iot_codec.specs.Laws.Trees.{node_laws}
use Rattle.iot_codec.specs.Laws.Values.{path_laws}
use Rattle.iot_codec.specs.Places.{AreBytes, IsSpelledAt, IsSpelling}
use Rattle.iot_codec.specs.Spelling.{list_spelling, node_spelling, pair_spelling, path_spelling, rows_spelling, tree_spelling}
use Rattle.iot_views.specs.Decoders.{Decoder, ◌>>=◌, done, list_at}
use Rattle.iot_views.specs.Decoding.{node_at, path_at}
use Rattle.iot_views.specs.Rules.{IsNode, IsRow, IsTreeOfRows}
use Rattle.iot_versions.specs.Decoding.{old_row_at}
use Rattle.iot_versions.specs.Laws.{old_row_laws}
use Rattle.iot_versions.specs.Respelling.{IsModeless, IsOldRow, IsTaken, Respells, RespellsIf}
use Rattle.iot_versions.specs.Spelling.{old_row_spelling, old_rows_spelling, old_tree_spelling}
use Rattle.iot_versions.specs.Values.{is_off, is_old_contents, is_old_node, is_old_row, is_old_tree}
use Rattle.iot_versions.proofs.FrontLaws.{front_one, read_front}

-- ---- rows of version 2

abbrev new_row_spelling : Row → List ℕ
new_row_spelling row = pair_spelling path_spelling node_spelling row

abbrev new_row_at : Decoder Row
new_row_at = path_at >>= λ path. node_at >>= λ node. done (path, node)

new_row_laws : IsSpelling IsRow new_row_spelling new_row_at
new_row_laws =
    all_fields IsRow new_row_spelling (λ f. path_at >>= λ path. node_at >>= λ node. done (path, node))
    (next_field (λ r. tt) (λ r. r.0) IsPath path_spelling path_at path_laws (λ r. IsNode r.1)
    (λ r. node_spelling r.1) (λ f. node_at >>= λ node. done (f.1, node))
    (last_field (λ r. (tt, r.0)) (λ r. r.1) IsNode node_spelling node_at node_laws (λ f node. (f.1, node))
    (record { whole = λ r. refl; front_is = λ f y. refl; last_is = λ f y. refl })))

-- ---- which rows version 1 has

node_from_old : (node : Node) → IsModeless node → IsNode node
node_from_old Dir is = tt
node_from_old (File contents mode) is = is.0
node_from_old FarDir is = tt
node_from_old (FarFile mode) is = tt

rows_from_old : (rows : List Row) → AllByRecursion IsOldRow rows → AllByRecursion IsRow rows
rows_from_old [] are = tt
rows_from_old (row ∷ rows) are = ((are.0.0, node_from_old row.1 are.0.1), rows_from_old rows are.1)

off_is : (mode : Mode) → is_off mode ≡ true → mode ≡ Off
off_is Off is = refl
off_is On is = absurd cc

old_node_is : (node : Node) → IsNode node → is_old_node node ≡ true → IsModeless node
old_node_is Dir has is = tt
old_node_is (File contents mode) has is = (has, off_is mode (first_so (is_off mode) (is_old_contents contents) is))
old_node_is FarDir has is = tt
old_node_is (FarFile mode) has is = off_is mode is

old_rows_are : (rows : List Row) → AllByRecursion IsRow rows → list_all is_old_row rows ≡ true → AllByRecursion IsOldRow rows
old_rows_are [] each is = tt
old_rows_are (row ∷ rows) each is = (
  (each.0.0, old_node_is row.1 each.0.1 (first_so (is_old_row row) (list_all is_old_row rows) is)),
  old_rows_are rows each.1 (second_so (is_old_row row) (list_all is_old_row rows) is),
)

-- ---- rows at the front

old_rows_laws : IsSpelling (AllByRecursion IsOldRow) (list_spelling old_row_spelling) (list_at old_row_at)
old_rows_laws = list_laws IsOldRow old_row_spelling old_row_at old_row_laws

new_rows_laws : IsSpelling (AllByRecursion IsRow) (list_spelling new_row_spelling) (list_at new_row_at)
new_rows_laws = list_laws IsRow new_row_spelling new_row_at new_row_laws

-- those that were taken off
pub taken : (bytes : List ℕ) (rows : List Row) (end : ℕ) → AreBytes bytes → list_at old_row_at bytes 0 ≡ Ok (rows, end)
    → IsSpelledAt (AllByRecursion IsOldRow) (list_spelling old_row_spelling) bytes 0 (rows, end)
taken bytes rows end fit is = old_rows_laws.found bytes 0 (rows, end) fit is

-- they were spelled anew, and what comes after them was copied
pub anew : (bytes before mid now : List ℕ) (rows seen : List Row) (end : ℕ) → AreBytes bytes
    → list_at old_row_at bytes 0 ≡ Ok (rows, end) → seen ≡ rows → mid ≡ before ++ rows_spelling seen
    → now ≡ mid ++ take (length bytes - end) (drop end bytes) → RespellsIf true bytes before now
anew bytes before mid now rows seen end fit is seen_is mid_is now_is =
    let front = taken bytes rows end fit is in
    let rest_is : take (length bytes - end) (drop end bytes) ≡ drop end bytes = take_rest bytes end in
    let mid_rows : mid ≡ before ++ rows_spelling rows = mid_is ∙ ap (λ (r : List Row). before ++ rows_spelling r) seen_is in (
      rows_spelling rows ++ drop end bytes,
      record { rows = rows; are = front.value; rest = drop end bytes; old_is = front.place.there; new_is = refl },
      now_is ∙ (λ i. mid_rows i ++ rest_is i) ∙ append_assoc before (rows_spelling rows) (drop end bytes),
    )

-- what is seen of the text then, if it was empty before
pub respelled_now : (is : Bool) (old before now seen : List ℕ) → is ≡ true → before ≡ [] → seen ≡ now → RespellsIf is old before now
    → Respells old seen
respelled_now true old before now seen is before_is seen_is r =
    let same : seen ≡ r.0 = seen_is ∙ r.2 ∙ ap (λ (b : List ℕ). b ++ r.0) before_is in
    subst (λ (new : List ℕ). Respells old new) (sym same) r.1
respelled_now false old before now seen is before_is seen_is r = absurd cc

-- there are none
pub none_first : (bytes before now : List ℕ) → length bytes < 2 ^ 64 → IsTaken (list_at old_row_at bytes 0) None
    → RespellsIf false bytes before now
none_first bytes before now short none tree rest has is_old is =
    none _
    (read_front (AllByRecursion IsOldRow) (list_spelling old_row_spelling) (list_at old_row_at) old_rows_laws bytes (entries tree) rest
    short (old_rows_are (entries tree) has.each is_old) is)

-- ---- a tree at the front

pub old_tree_one : (bytes : List ℕ) (one other : Nodes) (rest rest_too : List ℕ) → length bytes < 2 ^ 64 → IsTreeOfRows one
    → IsTreeOfRows other → is_old_tree one ≡ true → is_old_tree other ≡ true → bytes ≡ old_tree_spelling one ++ rest
    → bytes ≡ old_tree_spelling other ++ rest_too → (one ≡ other) × (rest ≡ rest_too)
old_tree_one bytes one other rest rest_too short has has_too old old_too is is_too =
    let same =
    front_one (AllByRecursion IsOldRow) (list_spelling old_row_spelling) (list_at old_row_at) old_rows_laws
    bytes (entries one) (entries other) rest rest_too short
    (old_rows_are (entries one) has.each old) (old_rows_are (entries other) has_too.each old_too) is is_too in
    (same_entries_map one other same.0, same.1)

-- a tree that comes first in version 1 does so in version 2 ..
pub respelled : (old new : List ℕ) (tree : Nodes) (rest : List ℕ) → length old < 2 ^ 64 → Respells old new → IsTreeOfRows tree
    → is_old_tree tree ≡ true → old ≡ old_tree_spelling tree ++ rest → new ≡ tree_spelling tree ++ rest
respelled old new tree rest short r has is_old is =
    let same =
    front_one (AllByRecursion IsOldRow) (list_spelling old_row_spelling) (list_at old_row_at) old_rows_laws
    old r.rows (entries tree) r.rest rest short
    r.are (old_rows_are (entries tree) has.each is_old) r.old_is is in
    r.new_is ∙ (λ i. rows_spelling (same.0 i) ++ same.1 i)

-- .. and the other way round
pub spelled_before : (old new : List ℕ) (tree : Nodes) (rest : List ℕ) → length new < 2 ^ 64 → Respells old new → IsTreeOfRows tree
    → new ≡ tree_spelling tree ++ rest → old ≡ old_tree_spelling tree ++ rest
spelled_before old new tree rest short r has is =
    let same =
    front_one (AllByRecursion IsRow) (list_spelling new_row_spelling) (list_at new_row_at) new_rows_laws
    new r.rows (entries tree) r.rest rest short
    (rows_from_old r.rows r.are) has.each r.new_is is in
    r.old_is ∙ (λ i. old_rows_spelling (same.0 i) ++ same.1 i)
