use Rattle.std.proofs.Common.{◌≡◌, ℕ, List, [], ◌∷◌, ◌++◌, ◌∙◌, ap, append_assoc}
use Rattle.std.proofs.lemmas.Result.{on_ok_weaker}
use Rattle.iot_slots.proofs.spelling.spell_fresh.Goals as goal

joined : (v0 v1 v2 v3 h rest : List ℕ) → v0 ≡ [] → v1 ≡ v0 ++ h → v2 ≡ v1 ++ 0 ∷ [] → v3 ≡ v2 ++ rest → v3 ≡ h ++ 0 ∷ rest
joined v0 v1 v2 v3 h rest e0 e1 e2 e3 =
    let g1 : v1 ≡ h = e1 ∙ ap (λ (l : List ℕ). l ++ h) e0 in
    e3 ∙ ap (λ (l : List ℕ). l ++ rest) (e2 ∙ ap (λ (l : List ℕ). l ++ 0 ∷ []) g1) ∙ append_assoc h (0 ∷ []) rest

pub returns : goal.returns
returns c =
    on_ok_weaker c.spell_after_gate.result
    (joined _ _ _ _ _ _ c.clear.ensures.items c.in_ok-extend_from_slice.ensures.items c.in_ok-push.ensures.items)
    c.spell_after_gate.ensures
