-- The law of servers' bodies: what is decoded is what is spelled.
use Rattle.std.proofs.Common.{ℕ, List, refl}
use Rattle.std.specs.List.{AllByRecursion}
use Rattle.iot_tree.specs.Tree.{Nodes}
use Rattle.iot_tree.specs.declared.labels.Label.{Label}
use Rattle.iot_codec.specs.Places.{IsSpelling}
use Rattle.iot_views.specs.Decoders.{number_at, list_at}
use Rattle.iot_views.specs.Decoding.{tree_at, label_at}
use Rattle.iot_views.specs.Rules.{IsNumber, IsLabel, IsTreeOfRows}
use Rattle.iot_codec.specs.Spelling.{number_spelling, label_spelling, list_spelling, tree_spelling}
use Rattle.iot_codec.specs.Laws.Fields.{last_field, next_field, all_fields}
use Rattle.iot_codec.specs.Laws.Labels.{label_laws}
use Rattle.iot_codec.specs.Laws.Lists.{list_laws}
use Rattle.iot_codec.specs.Laws.Parts.{number_laws, same_rule}
use Rattle.iot_codec.specs.Laws.Trees.{tree_laws}
use Rattle.iot_bodies.specs.Decoding.{server_at}
use Rattle.iot_bodies.specs.Rules.{IsServerBody}
use Rattle.iot_bodies.specs.Spelling.{server_spelling}
use Rattle.iot_bodies.specs.declared.server.ServerBody.{ServerBody}

labels_laws : IsSpelling (AllByRecursion IsLabel) (list_spelling label_spelling) (list_at label_at)
labels_laws = list_laws IsLabel label_spelling label_at label_laws

stamps_laws : IsSpelling (AllByRecursion IsNumber) (list_spelling number_spelling) (list_at number_at)
stamps_laws = list_laws IsNumber number_spelling number_at number_laws

-- the fields before the stamps
abbrev Two : Type 0
Two = (Unit {0} × Nodes) × List Label

made : Two → List ℕ → ServerBody
made f stamps = record { tree = f.0.1; labels = f.1; stamps = stamps }

pub server_laws : IsSpelling IsServerBody server_spelling server_at
unfolding server_at server_spelling made
server_laws =
    let stamps =
    last_field {F = Two} {Z = ServerBody} (λ b. ((tt, b.tree), b.labels)) (λ b. b.stamps) (AllByRecursion IsNumber)
    (list_spelling number_spelling) (list_at number_at) stamps_laws made
    (record { whole = λ b. refl; front_is = λ f y. refl; last_is = λ f y. refl }) in
    let labels =
    next_field {F = Unit {0} × Nodes} {Z = ServerBody} (λ b. (tt, b.tree)) (λ b. b.labels) (AllByRecursion IsLabel)
    (list_spelling label_spelling) (list_at label_at) labels_laws _ _ _ stamps in
    let tree =
    next_field {F = Unit {0}} {Z = ServerBody} (λ b. tt) (λ b. b.tree) IsTreeOfRows tree_spelling tree_at tree_laws _ _ _ labels in
    same_rule _ IsServerBody server_spelling server_at (λ b has. record { tree = has.0; labels = has.1.0; stamps = has.1.1 })
    (λ b has. (has.tree, (has.labels, has.stamps))) (all_fields _ _ _ tree)
