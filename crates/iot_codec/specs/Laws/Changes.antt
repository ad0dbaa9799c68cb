-- The laws of what a client knows, and of changes.
use Rattle.std.proofs.Common.{refl}
use Rattle.iot_text.specs.Paths.{IsPath, path_cmp}
use Rattle.iot_tree.specs.declared.changes.Changes.{Changes}
use Rattle.iot_codec.specs.Places.{IsSpelling}
use Rattle.iot_views.specs.Decoders.{◌>>=◌, done, number_at}
use Rattle.iot_views.specs.Decoding.{path_at, node_at, paths_at, known_at, stamped_node_at, stamped_rows_at, changes_at}
use Rattle.iot_views.specs.Rules.{IsNumber, IsNode, ArePaths, AreKnown, IsStampedNode, AreStampedRows, AreChanges}
use Rattle.iot_codec.specs.Spelling.{number_spelling, path_spelling, node_spelling, paths_spelling, known_spelling, stamped_node_spelling}
use Rattle.iot_codec.specs.Spelling.{stamped_rows_spelling, changes_spelling}
use Rattle.iot_codec.specs.Laws.Parts.{number_laws, same_rule}
use Rattle.iot_codec.specs.Laws.Lists.{table_laws}
use Rattle.iot_codec.specs.Laws.Fields.{last_field, next_field, all_fields}
use Rattle.iot_codec.specs.Laws.Rising.{paths_laws}
use Rattle.iot_codec.specs.Laws.Trees.{node_laws}
use Rattle.iot_codec.specs.Laws.Values.{path_laws}

pub known_laws : IsSpelling AreKnown known_spelling known_at
unfolding known_at
known_laws = table_laws path_cmp IsPath path_spelling path_at path_laws IsNumber number_spelling number_at number_laws

pub stamped_node_laws : IsSpelling IsStampedNode stamped_node_spelling stamped_node_at
unfolding stamped_node_at
stamped_node_laws =
    all_fields IsStampedNode stamped_node_spelling (λ f. node_at >>= λ node. number_at >>= λ stamp. done (node, stamp))
    (next_field (λ r. tt) (λ r. r.0) IsNode node_spelling node_at node_laws (λ r. IsNumber r.1)
    (λ r. number_spelling r.1) (λ f. number_at >>= λ stamp. done (f.1, stamp))
    (last_field (λ r. (tt, r.0)) (λ r. r.1) IsNumber number_spelling number_at number_laws
    (λ f stamp. (f.1, stamp))
    (record { whole = λ r. refl; front_is = λ f y. refl; last_is = λ f y. refl })))

pub stamped_rows_laws : IsSpelling AreStampedRows stamped_rows_spelling stamped_rows_at
unfolding stamped_rows_at
stamped_rows_laws =
    table_laws path_cmp IsPath path_spelling path_at path_laws IsStampedNode stamped_node_spelling stamped_node_at stamped_node_laws

pub changes_laws : IsSpelling AreChanges changes_spelling changes_at
unfolding changes_at changes_spelling
changes_laws =
    let Fields : Changes → Type 0 = λ c. AreStampedRows c.rows × ArePaths c.gone in
    let fields : IsSpelling Fields changes_spelling changes_at =
    all_fields Fields changes_spelling
    (λ f. stamped_rows_at >>= λ rows. paths_at >>= λ gone. done (record { rows = rows; gone = gone }))
    (next_field {Z = Changes} (λ c. tt) (λ c. c.rows) AreStampedRows stamped_rows_spelling stamped_rows_at stamped_rows_laws
    (λ c. ArePaths c.gone) (λ c. paths_spelling c.gone) (λ f. paths_at >>= λ gone. done (record { rows = f.1; gone = gone }))
    (last_field {Z = Changes} (λ c. (tt, c.rows)) (λ c. c.gone) ArePaths paths_spelling paths_at paths_laws
    (λ f gone. record { rows = f.1; gone = gone })
    (record { whole = λ c. refl; front_is = λ f y. refl; last_is = λ f y. refl }))) in
    same_rule Fields AreChanges changes_spelling changes_at (λ c has. record { rows = has.0; gone = has.1 })
    (λ c has. (has.rows, has.gone)) fields
