use Rattle.iot_exchange.proofs.Common.{refl, sym, transaction_name, ◌++◌, ◌∙◌}
use Rattle.iot_exchange.proofs.DoesLaws.{asks_then, hands_on, no_memory, ready_after, refuses, then_tells}
use Rattle.iot_exchange.proofs.TransactionsLaws.{aloud_by, lent_run, none_meant, none_said, stepped_said}
use Rattle.{iot_exchange.specs.Saying.place_said, iot_machine.specs.Texts.step_line}
use Rattle.iot_exchange.proofs.transactions.step_aloud.Goals as goal

pub returns-in_default : goal.returns-in_default
returns-in_default g c scripts =
    asks_then (none_meant c.args.which (sym c.meant.ensures ∙ c.in_default.is)) (refuses c.requires.keeps c.in_ok-say.ensures)

pub returns-in_err-steps : goal.returns-in_err-steps
returns-in_err-steps g c scripts =
    aloud_by c.args.which c.args.most (sym c.meant.ensures ∙ c.in-Some.is)
    (hands_on c.in_err-steps.was c.from_residual-in_err-steps.ensures.1 (c.steps.ensures scripts))

pub run-requires : goal.run-requires
run-requires g c = (ready_after c.in_ok-steps.was (c.steps.ensures _) c.requires.stands).ready.alive

pub at_end-requires : goal.at_end-requires
at_end-requires g c = (ready_after c.in_ok-steps.was (c.steps.ensures _) c.requires.stands).ready.alive

pub returns-in_ok-say_step-in-Some-run : goal.returns-in_ok-say_step-in-Some-run
returns-in_ok-say_step-in-Some-run g c scripts =
    aloud_by c.args.which c.args.most (sym c.meant.ensures ∙ c.in-Some.is)
    (then_tells c.in_ok-steps.was (c.steps.ensures scripts) (λ names at pair here.
    stepped_said here.client.is c.in-Some.number c.steps.new.out c.say_step.new.out _ (lent_run c.run.ensures.running c.in-Some-run.is)
    (c.in_ok-say_step-in-Some-run.ensures ∙ (λ i. c.steps.new.out
    ++ step_line (transaction_name (c.transaction-transaction.ensures i).client (c.transaction-transaction.ensures i).number)
    (c.len-acts.ensures i) (place_said (c.at_end.ensures i) (c.len-acts.ensures i))))))

pub returns-in-None : goal.returns-in-None
returns-in-None g c scripts =
    aloud_by c.args.which c.args.most (sym c.meant.ensures ∙ c.in-Some.is)
    (then_tells c.in_ok-steps.was (c.steps.ensures scripts) (λ names at pair here.
    none_said here.client.is c.in-Some.number c.steps.new.out c.steps.new.out _ (lent_run c.run.ensures.running c.in-None.is) refl))

pub returns-in_err-say_step-in-Some-run : goal.returns-in_err-say_step-in-Some-run
returns-in_err-say_step-in-Some-run g c scripts = no_memory c.from_residual-in_err-say_step-in-Some-run.ensures.1
    (c.steps.ensures scripts).disks
