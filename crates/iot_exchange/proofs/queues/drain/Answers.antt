use Rattle.iot_exchange.proofs.{Common.sym, Common.◌∙◌, DoesLaws.if_silent, DoesLaws.if_spoken, DoesLaws.or_says}
use Rattle.iot_exchange.proofs.queues.drain.Goals as goal

pub returns-then-len-before : goal.returns-then-len-before
returns-then-len-before g c =
    or_says (if_spoken _ _ _ (λ same. c.if-len-before.true (c.len.ensures ∙ same ∙ sym c.len-before.ensures)))
    c.drain_quietly-drained.ensures

pub returns : goal.returns
returns g c =
    or_says (if_silent _ _ _ _ (sym c.len.ensures ∙ c.if-len-before.false ∙ c.len-before.ensures) c.in_ok-say.ensures)
    c.drain_quietly-drained.ensures
