use Rattle.iot_exchange.proofs.Common.{List, ap, line, refl, sym, ℕ, ◌++◌, ◌∙◌}
use Rattle.iot_exchange.proofs.DoesLaws.{by_client, goes_from, hands_on, notes}
use Rattle.iot_exchange.proofs.{FirstLaws.decides, FirstLaws.undecided, StepsLaws.says_from}
use Rattle.iot_machine.specs.{Clients.leave, Texts.discard_line}
use Rattle.iot_exchange.proofs.decisions.discard.Goals as goal

pub returns-in_err-discard-in-Ok : goal.returns-in_err-discard-in-Ok
returns-in_err-discard-in-Ok g c server ready scripts =
    let noted = by_client (notes leave) ready.keeps c.discard.ensures.keeps (c.discard.ensures.does scripts) in
    decides (sym c.decision.ensures ∙ c.in-Ok.is) noted.disks (λ names at mi named pair here.
    (hands_on c.in_err-discard-in-Ok.was c.from_residual.ensures.1 noted).step _ _ _ here)

pub returns-in_ok-say_of-in-Ok : goal.returns-in_ok-say_of-in-Ok
returns-in_ok-say_of-in-Ok g c server ready scripts =
    let noted = by_client (notes leave) ready.keeps c.discard.ensures.keeps (c.discard.ensures.does scripts) in
    decides (sym c.decision.ensures ∙ c.in-Ok.is) noted.disks (λ names at mi named pair here.
    goes_from c.in_ok-discard-in-Ok.was noted here (λ after there. says_from (c.in_ok-say_of-in-Ok.ensures
    ∙ ap (λ (n : List ℕ). c.discard.new.out ++ discard_line n) (sym (named after there))) there))

pub returns-in_ok-say-in-Err : goal.returns-in_ok-say-in-Err
returns-in_ok-say-in-Err g c server ready scripts = undecided _ refl (sym c.decision.ensures ∙ c.in-Err.is) ready.keeps
    (c.in_ok-say-in-Err.ensures ∙ ap (λ (word : List ℕ). c.args.out.now ++ line word) c.word.ensures)
