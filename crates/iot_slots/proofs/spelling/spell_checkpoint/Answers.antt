use Rattle.std.proofs.Common.{◌≡◌, ℕ, List, [], ◌++◌, ◌∙◌, ap, append_assoc}
use Rattle.iot_records.specs.Bytes.{number}
use Rattle.iot_slots.proofs.spelling.spell_checkpoint.Goals as goal

joined : (v1 v2 v3 v4 v5 d1 n1 body d2 n2 last : List ℕ) → v1 ≡ [] → d1 ≡ n1 → v2 ≡ v1 ++ d1 → v3 ≡ v2 ++ body → d2 ≡ n2 → v4 ≡ v3 ++ d2
    → v5 ≡ v4 ++ last → v5 ≡ n1 ++ body ++ (n2 ++ last)
joined v1 v2 v3 v4 v5 d1 n1 body d2 n2 last a t1 b d t2 e f =
    f
    ∙ ap (λ (l : List ℕ). l ++ last)
    (e ∙ ap (λ (l : List ℕ). l ++ d2) (d ∙ ap (λ (l : List ℕ). l ++ body) (b ∙ ap (λ (l : List ℕ). l ++ d1) a)))
    ∙ ap (λ (l : List ℕ). (d1 ++ body ++ l) ++ last) t2
    ∙ ap (λ (l : List ℕ). (l ++ body ++ n2) ++ last) t1
    ∙ append_assoc (n1 ++ body) n2 last

pub returns : goal.returns
unfolding number
returns c =
    joined _ _ _ _ _ _ _ _ _ _ _ c.clear.ensures.items c.to_be_bytes.ensures c.in_ok-extend_from_slice.ensures.items
    c.in_ok-extend_from_slice-2.ensures.items c.to_be_bytes-2.ensures c.in_ok-extend_from_slice-3.ensures.items c.in_ok-push.ensures.items
