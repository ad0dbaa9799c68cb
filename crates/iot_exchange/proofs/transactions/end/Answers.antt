use Rattle.iot_exchange.proofs.Common.{Ok, ap, name_of, sym, ◌++◌, ◌∙◌}
use Rattle.iot_exchange.proofs.DoesLaws.{asks_then, by_client, certifies_one, hands_on, ready_after, refuses}
use Rattle.iot_exchange.proofs.TransactionsLaws.{certified_then, end_again, end_joined, none_meant, not_ended}
use Rattle.iot_laptop.specs.{Calls.compared_if, declared.needs.Certified.Certified}
use Rattle.{iot_machine.specs.Texts.again_line, iot_node.specs.declared.lines.Transaction.Transaction}
use Rattle.iot_exchange.proofs.transactions.end.Goals as goal

pub returns-in_default : goal.returns-in_default
returns-in_default g c =
    asks_then (none_meant c.args.which (sym c.meant.ensures ∙ c.in_default.is)) (refuses c.requires.ready.keeps c.in_ok-say.ensures)

pub returns-then-not-may_end : goal.returns-then-not-may_end
returns-then-not-may_end g c =
    not_ended c.args.which (sym c.meant.ensures ∙ c.in-Some.is) (sym c.may_end.ensures ∙ c.if-not-may_end.true) c.requires.ready.keeps
    c.in_ok-say-2.ensures

pub returns-in_err-gone : goal.returns-in_err-gone
returns-in_err-gone g c =
    let did = by_client (certifies_one c.in-Some.number) c.requires.ready.keeps c.end.ensures.keeps (c.end.ensures.does _) in
    certified_then c.args.which (sym c.meant.ensures ∙ c.in-Some.is) (sym c.may_end.ensures ∙ c.if-not-may_end.false) did.disks
    (λ names at pair it here found same.
    (hands_on (ap compared_if c.in_err-gone.was) c.from_residual-in_err-gone.ensures.1 did).step _ _ _ here)

pub join-requires : goal.join-requires
join-requires g c =
    ready_after (ap compared_if (c.in_ok-gone.was ∙ ap (λ (it : Certified). Ok it) c.in-Joined.is))
    (by_client (certifies_one c.in-Some.number) c.requires.ready.keeps c.end.ensures.keeps (c.end.ensures.does _)) c.requires.stands

pub returns-in-Joined : goal.returns-in-Joined
returns-in-Joined g c =
    end_joined c.args.which (sym c.meant.ensures ∙ c.in-Some.is) (sym c.may_end.ensures ∙ c.if-not-may_end.false) c.in-Joined.gone
    (ap compared_if (c.in_ok-gone.was ∙ ap (λ (it : Certified). Ok it) c.in-Joined.is)) (rw c.in-Joined.is at c.in_ok-gone.ensures.gone)
    (by_client (certifies_one c.in-Some.number) c.requires.ready.keeps c.end.ensures.keeps (c.end.ensures.does _)) c.join.ensures

pub returns-in_ok-say_read-in-Again : goal.returns-in_ok-say_read-in-Again
returns-in_ok-say_read-in-Again g c =
    end_again c.args.which (sym c.meant.ensures ∙ c.in-Some.is) (sym c.may_end.ensures ∙ c.if-not-may_end.false) c.in-Again.read
    c.in-Again.question (ap compared_if (c.in_ok-gone.was ∙ ap (λ (it : Certified). Ok it) c.in-Again.is))
    (by_client (certifies_one c.in-Some.number) c.requires.ready.keeps c.end.ensures.keeps (c.end.ensures.does _))
    (c.in_ok-say_read-in-Again.ensures
    ∙ ap (λ (t : Transaction). c.end.new.out ++ again_line (name_of t) c.in-Again.read c.in-Again.question) c.transaction.ensures)
