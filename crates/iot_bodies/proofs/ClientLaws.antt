-- The laws of clients' bodies: what is decoded is what is spelled.
use Rattle.std.proofs.Common.{ℕ, List, refl}
use Rattle.std.specs.List.{AllByRecursion}
use Rattle.iot_tree.specs.Tree.{Nodes}
use Rattle.iot_codec.specs.Places.{IsSpelling}
use Rattle.iot_views.specs.Decoders.{number_at, list_at}
use Rattle.iot_views.specs.Decoding.{tree_at}
use Rattle.iot_views.specs.Rules.{IsNumber, IsTreeOfRows}
use Rattle.iot_codec.specs.Spelling.{number_spelling, list_spelling, tree_spelling}
use Rattle.iot_codec.specs.Laws.Fields.{last_field, next_field, all_fields}
use Rattle.iot_codec.specs.Laws.Lists.{list_laws}
use Rattle.iot_codec.specs.Laws.Parts.{number_laws, same_rule}
use Rattle.iot_codec.specs.Laws.Trees.{tree_laws}
use Rattle.iot_bodies.specs.Decoding.{waiting_at, runs_at, client_at}
use Rattle.iot_bodies.specs.Laws.{waiting_laws, runs_laws}
use Rattle.iot_bodies.specs.Rules.{IsWaiting, AreRunning, IsClientBody}
use Rattle.iot_bodies.specs.Spelling.{waiting_spelling, running_spelling, client_spelling}
use Rattle.iot_bodies.specs.declared.client.ClientBody.{ClientBody}
use Rattle.iot_bodies.specs.declared.client.Running.{Running}
use Rattle.iot_bodies.specs.declared.client.Waiting.{Waiting}

items_laws : IsSpelling (AllByRecursion IsWaiting) (list_spelling waiting_spelling) (list_at waiting_at)
items_laws = list_laws IsWaiting waiting_spelling waiting_at waiting_laws

-- its fields before the last number
abbrev Parts : Type 0
Parts = ((Unit {0} × Nodes) × List Waiting) × List Running

made : Parts → ℕ → ClientBody
made f last = record { held = f.0.0.1; items = f.0.1; running = f.1; last = last }

pub client_laws : IsSpelling IsClientBody client_spelling client_at
unfolding client_at client_spelling made
client_laws =
    let last =
    last_field {F = Parts} {Z = ClientBody} (λ b. (((tt, b.held), b.items), b.running)) (λ b. b.last) IsNumber number_spelling number_at
    number_laws made (record { whole = λ b. refl; front_is = λ f y. refl; last_is = λ f y. refl }) in
    let running =
    next_field {F = (Unit {0} × Nodes) × List Waiting} {Z = ClientBody} (λ b. ((tt, b.held), b.items)) (λ b. b.running) AreRunning
    (list_spelling running_spelling) runs_at runs_laws _ _ _ last in
    let items =
    next_field {F = Unit {0} × Nodes} {Z = ClientBody} (λ b. (tt, b.held)) (λ b. b.items) (AllByRecursion IsWaiting)
    (list_spelling waiting_spelling) (list_at waiting_at) items_laws _ _ _ running in
    let held =
    next_field {F = Unit {0}} {Z = ClientBody} (λ b. tt) (λ b. b.held) IsTreeOfRows tree_spelling tree_at tree_laws _ _ _ items in
    same_rule _ IsClientBody client_spelling client_at
    (λ b has. record { held = has.0; items = has.1.0; running = has.1.1.0; last = has.1.1.1 })
    (λ b has. (has.held, (has.items, (has.running, has.last)))) (all_fields _ _ _ held)
