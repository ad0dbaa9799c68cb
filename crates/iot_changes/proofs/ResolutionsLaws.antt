-- The law of resolutions: what is decoded is what is spelled.
use Rattle.std.proofs.Common.{◌≡◌, ℕ, List, ◌++◌, refl, append_assoc}
use Rattle.iot_text.specs.Names.{IsName}
use Rattle.iot_tree.specs.declared.acts.Act.{Act}
use Rattle.iot_queue.specs.declared.items.Resolution.{Resolution}
use Rattle.iot_codec.specs.Places.{IsSpelling}
use Rattle.iot_views.specs.Decoding.{name_at, budget_at, files_at, acts_at}
use Rattle.iot_views.specs.Rules.{IsBudget, AreFiles, AreActs}
use Rattle.iot_codec.specs.Spelling.{number_spelling, name_spelling, files_spelling, acts_spelling}
use Rattle.iot_codec.specs.Laws.Fields.{last_field, next_field, all_fields}
use Rattle.iot_codec.specs.Laws.Options.{budget_laws}
use Rattle.iot_codec.specs.Laws.Parts.{same_rule, same_spelling}
use Rattle.iot_codec.specs.Laws.Updates.{acts_laws}
use Rattle.iot_codec.specs.Laws.Values.{name_laws, files_laws}
use Rattle.iot_changes.specs.Decoding.{resolution_at}
use Rattle.iot_changes.specs.Rules.{IsResolution}
use Rattle.iot_changes.specs.Spelling.{resolution_spelling}

-- the fields of a resolution before its last one
abbrev Three : Type 0
Three = ((Unit {0} × List ℕ) × ℕ) × List (List (List ℕ) × List ℕ)

made : Three → List Act → Resolution
made f acts = record { script = f.0.0.1; budget = f.0.1; kept = f.1; acts = acts }

-- the spellings of a resolution's fields, one after the other
in_turn : Resolution → List ℕ
in_turn r = name_spelling r.script ++ (number_spelling r.budget ++ (files_spelling r.kept ++ acts_spelling r.acts))

resolution_in_turn : (r : Resolution) → in_turn r ≡ resolution_spelling r
unfolding in_turn resolution_spelling
resolution_in_turn r = simp append_assoc

pub resolution_laws : IsSpelling IsResolution resolution_spelling resolution_at
unfolding resolution_at in_turn made
resolution_laws =
    let acts =
    last_field {F = Three} {Z = Resolution} (λ r. (((tt, r.script), r.budget), r.kept)) (λ r. r.acts) AreActs acts_spelling acts_at
    acts_laws made (record { whole = λ r. refl; front_is = λ f y. refl; last_is = λ f y. refl }) in
    let kept =
    next_field {F = (Unit {0} × List ℕ) × ℕ} {Z = Resolution} (λ r. ((tt, r.script), r.budget)) (λ r. r.kept) AreFiles files_spelling
    files_at files_laws _ _ _ acts in
    let budget =
    next_field {F = Unit {0} × List ℕ} {Z = Resolution} (λ r. (tt, r.script)) (λ r. r.budget) IsBudget number_spelling budget_at
    budget_laws _ _ _ kept in
    let script =
    next_field {F = Unit {0}} {Z = Resolution} (λ r. tt) (λ r. r.script) IsName name_spelling name_at name_laws _ _ _ budget in
    same_spelling IsResolution in_turn resolution_spelling resolution_at resolution_in_turn
    (same_rule _ IsResolution in_turn resolution_at
    (λ r has. record { script = has.0; budget = has.1.0; kept = has.1.1.0; acts = has.1.1.1 })
    (λ r has. (has.script, (has.budget, (has.kept, has.acts))))
    (all_fields _ _ _ script))
