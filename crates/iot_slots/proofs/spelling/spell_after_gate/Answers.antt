use Rattle.std.proofs.Common.{◌≡◌, ℕ, List, ◌++◌, ◌∙◌, ap, append_assoc}
use Rattle.iot_records.specs.Bytes.{number}
use Rattle.iot_slots.specs.Cells.{naming}
use Rattle.iot_slots.specs.declared.version.Version.TheVariants.{Two}
use Rattle.iot_slots.proofs.spelling.spell_after_gate.Goals as goal

regrouped : (o n1 n43 z nl b n0 last : List ℕ)
    → (((((o ++ (n1 ++ n43)) ++ z) ++ nl) ++ b) ++ n0) ++ last ≡ o ++ (n1 ++ (n43 ++ (z ++ (nl ++ b ++ (n0 ++ last)))))
regrouped o n1 n43 z nl b n0 last = simp append_assoc

joined : (o v3 v4 v5 v6 v7 v8 d3 n1 n43 z d5 nl b d7 n0 last : List ℕ) → d3 ≡ n1 ++ n43 → v3 ≡ o ++ d3 → v4 ≡ v3 ++ z → d5 ≡ nl →
    v5 ≡ v4 ++ d5 → v6 ≡ v5 ++ b → d7 ≡ n0 → v7 ≡ v6 ++ d7 → v8 ≡ v7 ++ last
    → v8 ≡ o ++ (n1 ++ (n43 ++ (z ++ (nl ++ b ++ (n0 ++ last)))))
joined o v3 v4 v5 v6 v7 v8 d3 n1 n43 z d5 nl b d7 n0 last f3 e3 e4 f5 e5 e6 f7 e7 e8 =
    let g3 : v3 ≡ o ++ (n1 ++ n43) = e3 ∙ ap (λ (l : List ℕ). o ++ l) f3 in
    let g4 : v4 ≡ (o ++ (n1 ++ n43)) ++ z = e4 ∙ ap (λ (l : List ℕ). l ++ z) g3 in
    let g5 : v5 ≡ ((o ++ (n1 ++ n43)) ++ z) ++ nl = e5 ∙ ap (λ (l : List ℕ). l ++ d5) g4
    ∙ ap (λ (l : List ℕ). ((o ++ (n1 ++ n43)) ++ z) ++ l) f5 in
    let g6 : v6 ≡ (((o ++ (n1 ++ n43)) ++ z) ++ nl) ++ b = e6 ∙ ap (λ (l : List ℕ). l ++ b) g5 in
    let g7 : v7 ≡ ((((o ++ (n1 ++ n43)) ++ z) ++ nl) ++ b) ++ n0 = e7 ∙ ap (λ (l : List ℕ). l ++ d7) g6
    ∙ ap (λ (l : List ℕ). ((((o ++ (n1 ++ n43)) ++ z) ++ nl) ++ b) ++ l) f7 in
    e8 ∙ ap (λ (l : List ℕ). l ++ last) g7 ∙ regrouped o n1 n43 z nl b n0 last

pub returns : goal.returns
unfolding number
returns c =
    joined _ _ _ _ _ _ _ _ (number 1) (number (naming Two 43)) _ _ _ _ _ _ _ c.spell_cell.ensures c.in_ok-extend_from_slice.ensures.items
    c.in_ok-extend_from_slice-2.ensures.items c.to_be_bytes.ensures c.in_ok-extend_from_slice-3.ensures.items
    c.in_ok-extend_from_slice-4.ensures.items c.to_be_bytes-2.ensures c.in_ok-extend_from_slice-5.ensures.items c.in_ok-push.ensures.items
