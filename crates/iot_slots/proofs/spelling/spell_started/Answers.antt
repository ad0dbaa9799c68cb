use Rattle.std.proofs.Common.{◌≡◌, ℕ, List, [], ◌∷◌, ◌++◌, ◌∙◌, ap, append_assoc}
use Rattle.iot_slots.specs.Decoding.{decoded}
use Rattle.iot_slots.proofs.StartLaws.{started_encodes}
use Rattle.iot_slots.proofs.spelling.spell_started.Goals as goal

joined : (v0 v1 v2 v3 v4 h rest : List ℕ) → v0 ≡ [] → v1 ≡ v0 ++ 165 ∷ [] → v2 ≡ v1 ++ h → v3 ≡ v2 ++ 165 ∷ [] → v4 ≡ v3 ++ rest
    → v4 ≡ 165 ∷ (h ++ 165 ∷ rest)
joined v0 v1 v2 v3 v4 h rest e0 e1 e2 e3 e4 =
    let g1 : v1 ≡ 165 ∷ [] = e1 ∙ ap (λ (l : List ℕ). l ++ 165 ∷ []) e0 in
    let g2 : v2 ≡ 165 ∷ h = e2 ∙ ap (λ (l : List ℕ). l ++ h) g1 in
    e4 ∙ ap (λ (l : List ℕ). l ++ rest) (e3 ∙ ap (λ (l : List ℕ). l ++ 165 ∷ []) g2) ∙ append_assoc (165 ∷ h) (165 ∷ []) rest

pub returns-clause-spelled : goal.returns-clause-spelled
returns-clause-spelled c =
    joined _ _ _ _ _ _ _ c.new-out.ensures.items c.in_ok-push.ensures.items c.in_ok-extend_from_slice.ensures.items
    c.in_ok-push-2.ensures.items c.in_ok-spell_after_gate.ensures

pub returns-clause-encodes : goal.returns-clause-encodes
returns-clause-encodes c =
    ap (decoded c.args.header.now) (returns-clause-spelled c)
    ∙ started_encodes c.args.header.now c.args.body.now c.args.count c.told-header c.ranges.count.fits c.requires
