use Rattle.iot_exchange.proofs.Common.{List, ap, line, refl, sym, ℕ, ◌++◌, ◌∙◌}
use Rattle.iot_exchange.proofs.DoesLaws.{by_client, goes_from, hands_on, notes}
use Rattle.iot_exchange.proofs.{FirstLaws.decides, FirstLaws.undecided, StepsLaws.says_from}
use Rattle.iot_machine.specs.{Clients.repair, Texts.repair_line}
use Rattle.iot_exchange.proofs.decisions.repair.Goals as goal

pub returns-in_err-repair-in-Ok : goal.returns-in_err-repair-in-Ok
returns-in_err-repair-in-Ok g c server ready scripts declared named is =
    let noted = by_client (notes (repair declared)) ready.keeps c.repair.ensures.keeps (c.repair.ensures.does scripts declared named is) in
    decides (sym c.decision.ensures ∙ c.in-Ok.is) noted.disks (λ names at mi its_name pair here.
    (hands_on c.in_err-repair-in-Ok.was c.from_residual.ensures.1 noted).step _ _ _ here)

pub returns-in_ok-say_by-in-Ok : goal.returns-in_ok-say_by-in-Ok
returns-in_ok-say_by-in-Ok g c server ready scripts declared named is =
    let noted = by_client (notes (repair declared)) ready.keeps c.repair.ensures.keeps (c.repair.ensures.does scripts declared named is) in
    decides (sym c.decision.ensures ∙ c.in-Ok.is) noted.disks (λ names at mi its_name pair here.
    goes_from c.in_ok-repair-in-Ok.was noted here (λ after there. says_from (c.in_ok-say_by-in-Ok.ensures
    ∙ (λ i. c.repair.new.out ++ repair_line (sym (its_name after there) i) ((c.as_bytes.ensures.value ∙ sym is) i))) there))

pub returns-in_ok-say-in-Err : goal.returns-in_ok-say-in-Err
returns-in_ok-say-in-Err g c server ready scripts declared named is = undecided _ refl (sym c.decision.ensures ∙ c.in-Err.is) ready.keeps
    (c.in_ok-say-in-Err.ensures ∙ ap (λ (word : List ℕ). c.args.out.now ++ line word) c.word.ensures)
