-- The laws of ways and labels.
use Rattle.std.proofs.Common.{◌≡◌, ℕ, ◌<◌, ◌≤◌, List, [], ◌∷◌, ◌++◌, length, Ok, refl, ◌∙◌, append_assoc, arith}
use Rattle.iot_text.specs.Names.{IsName}
use Rattle.iot_tree.specs.declared.labels.Label.{Label}
use Rattle.iot_tree.specs.declared.labels.Way.{Way}
use Rattle.iot_tree.specs.declared.labels.Way.TheVariants.{Certified, Reexecuted, Resolved}
use Rattle.iot_tree.specs.declared.limits.TheConstants.{ACT_LIMIT}
use Rattle.iot_codec.specs.Places.{LiesAt, IsSpelling}
use Rattle.iot_views.specs.Decoders.{Decoder, done, number_at, at_most}
use Rattle.iot_views.specs.Decoding.{name_at, files_at, way_at, label_at}
use Rattle.iot_views.specs.Rules.{IsNumber, AreFiles, IsWay, IsLabel}
use Rattle.iot_codec.specs.Spelling.{number_spelling, name_spelling, files_spelling, way_spelling, label_spelling}
use Rattle.iot_codec.specs.Laws.Parts.{number_laws, at_most_laws, same_rule, same_spelling}
use Rattle.iot_codec.specs.Laws.Tags.{AreArms, empty_arm, tagged_found, tagged_again, empty_again}
use Rattle.iot_codec.specs.Laws.Fields.{last_field, next_field, all_fields}
use Rattle.iot_codec.specs.Laws.Values.{name_laws, files_laws}

way_table : List (ℕ × Decoder Way)
way_table = (1, done Certified) ∷ (2, done Reexecuted) ∷ (3, done Resolved) ∷ []

way_arms : AreArms IsWay way_spelling way_table
unfolding way_table way_spelling
way_arms = (
  empty_arm IsWay way_spelling 1 Certified tt refl,
  (
    empty_arm IsWay way_spelling 2 Reexecuted tt refl,
    (
      empty_arm IsWay way_spelling 3 Resolved tt refl,
      tt,
    ),
  ),
)

way_again : (w : Way) (bytes : List ℕ) (at end : ℕ) → LiesAt bytes at (way_spelling w) end → way_at bytes at ≡ Ok (w, end)
unfolding way_at way_table way_spelling
way_again Certified bytes at end p = tagged_again way_table bytes at end 1 [] p ∙ empty_again Certified bytes at end 1 p
way_again Reexecuted bytes at end p = tagged_again way_table bytes at end 2 [] p ∙ empty_again Reexecuted bytes at end 2 p
way_again Resolved bytes at end p = tagged_again way_table bytes at end 3 [] p ∙ empty_again Resolved bytes at end 3 p

way_some : (w : Way) → 0 < length (way_spelling w)
unfolding way_spelling
way_some Certified = omega arith
way_some Reexecuted = omega arith
way_some Resolved = omega arith

pub way_laws : IsSpelling IsWay way_spelling way_at
unfolding way_at way_table
way_laws = record {
  found = λ bytes at read fit e. tagged_found IsWay way_spelling way_table bytes at read way_arms fit e;
  only = λ bytes at read short p. way_again read.0 bytes at read.1 p.place;
  some = way_some;
}

-- the fields of a label before its last one
abbrev Five : Type 0
Five = ((((Unit {0} × ℕ) × ℕ) × List ℕ) × ℕ) × Way

made : Five → List (List (List ℕ) × List ℕ) → Label
made f kept = record { client = f.0.0.0.0.1; tid = f.0.0.0.1; script = f.0.0.1; budget = f.0.1; way = f.1; kept = kept }

-- the spellings of a label's fields, one after the other
in_turn : Label → List ℕ
in_turn l =
    number_spelling l.client
    ++ (number_spelling l.tid ++ (name_spelling l.script ++ (number_spelling l.budget ++ (way_spelling l.way ++ files_spelling l.kept))))

label_in_turn : (l : Label) → in_turn l ≡ label_spelling l
unfolding in_turn label_spelling
label_in_turn l = simp append_assoc

pub label_laws : IsSpelling IsLabel label_spelling label_at
unfolding label_at in_turn made
label_laws =
    let kept =
    last_field {F = Five} {Z = Label} (λ l. (((((tt, l.client), l.tid), l.script), l.budget), l.way)) (λ l. l.kept) AreFiles
    files_spelling files_at files_laws made (record { whole = λ l. refl; front_is = λ f y. refl; last_is = λ f y. refl }) in
    let way =
    next_field {F = (((Unit {0} × ℕ) × ℕ) × List ℕ) × ℕ} {Z = Label} (λ l. ((((tt, l.client), l.tid), l.script), l.budget)) (λ l. l.way)
    IsWay way_spelling way_at way_laws _ _ _ kept in
    let budget =
    next_field {F = ((Unit {0} × ℕ) × ℕ) × List ℕ} {Z = Label} (λ l. (((tt, l.client), l.tid), l.script)) (λ l. l.budget)
    (λ n. n ≤ ACT_LIMIT) number_spelling (at_most ACT_LIMIT) (at_most_laws ACT_LIMIT (omega arith)) _ _ _ way in
    let script =
    next_field {F = (Unit {0} × ℕ) × ℕ} {Z = Label} (λ l. ((tt, l.client), l.tid)) (λ l. l.script) IsName name_spelling name_at
    name_laws _ _ _ budget in
    let tid =
    next_field {F = Unit {0} × ℕ} {Z = Label} (λ l. (tt, l.client)) (λ l. l.tid) IsNumber number_spelling number_at number_laws _ _ _
    script in
    let client =
    next_field {F = Unit {0}} {Z = Label} (λ l. tt) (λ l. l.client) (λ n. n ≤ 7) number_spelling (at_most 7)
    (at_most_laws 7 (omega arith)) _ _ _ tid in
    same_spelling IsLabel in_turn label_spelling label_at label_in_turn
    (same_rule _ IsLabel in_turn label_at
    (λ l has. record { client = has.0; tid = has.1.0; script = has.1.1.0; budget = has.1.1.1.0; kept = has.1.1.1.1.1 })
    (λ l has. (has.client, (has.tid, (has.script, (has.budget, (tt, has.kept))))))
    (all_fields _ _ _ client))
