use Rattle.iot_exchange.proofs.Common.{ap, option_copied, refl, sym, transaction_name, ◌++◌, ◌∙◌}
use Rattle.iot_exchange.proofs.DoesLaws.{goes_then, hands_on, ready_after, tells}
use Rattle.iot_exchange.proofs.TransactionsLaws.{begun_said, lent_run, none_said}
use Rattle.{std.specs.Prelude.option_map, iot_machine.specs.Texts.begin_line, iot_node.specs.declared.lines.Transaction.Transaction}
use Rattle.iot_exchange.proofs.transactions.begin_aloud.Goals as goal

pub returns-in_err-number : goal.returns-in_err-number
returns-in_err-number g c scripts on_conflict means =
    hands_on c.in_err-number.was c.from_residual.ensures.1 (c.begin.ensures scripts on_conflict means)

pub run-requires : goal.run-requires
run-requires g c = (ready_after c.in_ok-number.was
    (c.begin.ensures c.requires.0 c.requires.2.on_conflict c.requires.2.means) c.requires.1.stands).ready.alive

pub returns-in_ok-say_begin-in-Some : goal.returns-in_ok-say_begin-in-Some
returns-in_ok-say_begin-in-Some g c scripts on_conflict means =
    goes_then c.in_ok-number.was (c.begin.ensures scripts on_conflict means)
    (tells (c.begin.ensures scripts on_conflict means).disks (λ names at pair here.
    begun_said here.client.is c.in_ok-number.number c.begin.new.out c.say_begin.new.out _
    (lent_run c.run.ensures.running c.in-Some.is) c.in-Some.running.now.first
    (ap (λ o. option_map (λ it. it.first) (option_copied o)) (sym c.in-Some.is) ∙ c.run.ensures.class) (c.in_ok-say_begin-in-Some.ensures
    ∙ ap (λ (t : Transaction). c.begin.new.out
    ++ begin_line (transaction_name t.client t.number) c.in-Some.running.now.script c.in-Some.running.now.first)
    c.transaction-transaction.ensures)))

pub returns-in-None : goal.returns-in-None
returns-in-None g c scripts on_conflict means =
    goes_then c.in_ok-number.was (c.begin.ensures scripts on_conflict means)
    (tells (c.begin.ensures scripts on_conflict means).disks (λ names at pair here.
    none_said here.client.is c.in_ok-number.number c.begin.new.out c.begin.new.out _ (lent_run c.run.ensures.running c.in-None.is) refl))
