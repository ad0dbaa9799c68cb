use Rattle.std.proofs.Common.{◌≡◌, ℕ, List, [], ◌∷◌, ◌++◌, length, take, drop, refl, ◌∙◌, ap}
use Rattle.std.proofs.lemmas.List.{take_at, drop_at, append-nil}
use Rattle.iot_records.specs.Bytes.{number}
use Rattle.iot_slots.specs.Cells.{naming}
use Rattle.iot_slots.specs.declared.version.Version.TheVariants.{Two}
use Rattle.iot_slots.proofs.spelling.spell_cell.Goals as goal

zeros : List ℕ
zeros = 0 ∷ 0 ∷ 0 ∷ 0 ∷ 0 ∷ 0 ∷ 0 ∷ 0 ∷ []

two_parts : (a b : List ℕ) → length a ≡ 8
    → take 8 (a ++ (0 ∷ 0 ∷ 0 ∷ 0 ∷ 0 ∷ 0 ∷ 0 ∷ 0 ∷ [])) ++ (b ++ drop 8 (drop 8 (a ++ (0 ∷ 0 ∷ 0 ∷ 0 ∷ 0 ∷ 0 ∷ 0 ∷ 0 ∷ [])))) ≡ a ++ b
two_parts a b long =
    ap (λ (l : List ℕ). l ++ (b ++ drop 8 (drop 8 (a ++ (0 ∷ 0 ∷ 0 ∷ 0 ∷ 0 ∷ 0 ∷ 0 ∷ 0 ∷ [])))))
    (take_at a (0 ∷ 0 ∷ 0 ∷ 0 ∷ 0 ∷ 0 ∷ 0 ∷ 0 ∷ []) 8 long)
    ∙ ap (λ (l : List ℕ). a ++ (b ++ drop 8 l)) (drop_at a (0 ∷ 0 ∷ 0 ∷ 0 ∷ 0 ∷ 0 ∷ 0 ∷ 0 ∷ []) 8 long)
    ∙ ap (λ (l : List ℕ). a ++ l) (append-nil b)

pub returns : goal.returns
unfolding number
returns c =
    ap
    (λ (l : List ℕ). take 8 (l ++ (0 ∷ 0 ∷ 0 ∷ 0 ∷ 0 ∷ 0 ∷ 0 ∷ 0 ∷ []))
    ++ (c.copy_from_slice-2.new.self ++ drop 8 (drop 8 (l ++ (0 ∷ 0 ∷ 0 ∷ 0 ∷ 0 ∷ 0 ∷ 0 ∷ 0 ∷ [])))))
    (c.copy_from_slice.ensures.after ∙ c.to_be_bytes.ensures)
    ∙ ap
    (λ (b : List ℕ). take 8 (number c.args.generation ++ (0 ∷ 0 ∷ 0 ∷ 0 ∷ 0 ∷ 0 ∷ 0 ∷ 0 ∷ []))
    ++ (b ++ drop 8 (drop 8 (number c.args.generation ++ (0 ∷ 0 ∷ 0 ∷ 0 ∷ 0 ∷ 0 ∷ 0 ∷ 0 ∷ [])))))
    (c.copy_from_slice-2.ensures.after ∙ c.to_be_bytes-2.ensures ∙ ap number c.naming.ensures)
    ∙ two_parts (number c.args.generation) (number (naming Two c.args.place)) refl
