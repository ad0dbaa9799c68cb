use Rattle.std.proofs.Common.{◌++◌, ◌∷◌, ◌-◌, ◌+◌, ℕ, List, length, take, drop, ◌∙◌, ap, sym, rules}
use Rattle.std.proofs.lemmas.List.{take_rest}
use Rattle.iot_records.specs.Records.{spelled, front_bodies}
use Rattle.iot_records.proofs.RecordsLaws.{front_step}
use Rattle.iot_records.proofs.views.first_record.Goals as goal

pub returns-clause-some : goal.returns-clause-some
returns-clause-some c =
    let after = c.in_ok-gate.after.now in
    let body = c.in_ok-body.body.now in
    c.in_ok-gate.ensures.cases.0
    ∙ ap (λ (gate : ℕ). gate ∷ after) c.if-gate.false
    ∙ ap (λ (l : List ℕ). 165 ∷ l)
    (c.in_ok-body.ensures.body ∙ ap (λ (l : List ℕ). spelled body ++ l) (sym (take_rest after (8 + length body))))

pub returns-clause-front : goal.returns-clause-front
returns-clause-front c =
    let after = c.in_ok-gate.after.now in
    let size = 8 + length c.in_ok-body.body.now in
    ap front_bodies (returns-clause-some c)
    ∙ front_step c.in_ok-body.body.now (take (length after - size) (drop size after)) c.in_ok-body.ensures.fits (search rules)
