use Rattle.iot_exchange.proofs.Common.{Ok, Step, act_once, ap, refl, true, ◌∙◌}
use Rattle.iot_exchange.proofs.DoesLaws.{answers, by_client, goes_then, hands_on, keeps_more, keeps_then, no_memory, ready_by, then_answers}
use Rattle.iot_exchange.proofs.{DoesLaws.yields_then, TransactionsLaws.acts_by}
use Rattle.iot_exchange.proofs.TransactionsLaws.{fetched_loud, fetched_quiet, lent_run, step_halted, steps_by, steps_none, yields_there}
use Rattle.iot_exchange.proofs.transactions.step.Goals as goal

pub returns-in_default : goal.returns-in_default
returns-in_default g c scripts = steps_none c.args.number c.args.loud (lent_run c.run.ensures.running c.in_default.is) c.requires.keeps

pub returns-in_err-step : goal.returns-in_err-step
returns-in_err-step g c scripts =
    step_halted c.args.number c.args.loud (lent_run c.run.ensures.running c.in-Some.is) c.in_err-step.was
    c.step.ensures.next c.from_residual.ensures.1 c.requires.keeps c.step.ensures.keeps c.step.ensures.does

pub returns-in-Acted : goal.returns-in-Acted
returns-in-Acted g c scripts =
    let was = c.in_ok-step.was ∙ ap (λ (s : Step). Ok s) c.in-Acted.is in
    acts_by c.args.number c.args.loud (lent_run c.run.ensures.running c.in-Some.is) (rw was at c.step.ensures.next)
    (then_answers {f = λ _. true} refl refl (by_client (yields_then c.args.number (act_once c.args.number)) c.requires.keeps
    (rw was at c.step.ensures.keeps) ((rw was at c.step.ensures.does) scripts)))

pub returns-in-AtEnd : goal.returns-in-AtEnd
returns-in-AtEnd g c scripts =
    steps_by c.args.number c.args.loud (lent_run c.run.ensures.running c.in-Some.is) c.in_ok-step.was c.in-AtEnd.is c.step.ensures.next
    c.step.ensures.does (λ did. did) c.requires.keeps c.step.ensures.keeps.disk
    (answers (keeps_more c.requires.keeps c.step.ensures.keeps.disk))

pub returns-in-AtLimit : goal.returns-in-AtLimit
returns-in-AtLimit g c scripts =
    steps_by c.args.number c.args.loud (lent_run c.run.ensures.running c.in-Some.is) c.in_ok-step.was c.in-AtLimit.is c.step.ensures.next
    c.step.ensures.does (λ did. did) c.requires.keeps c.step.ensures.keeps.disk
    (answers (keeps_more c.requires.keeps c.step.ensures.keeps.disk))

pub send-requires-clause-ready : goal.send-requires-clause-ready
send-requires-clause-ready g c =
    let asks = rw (c.in_ok-step.was, c.in-Fetch.is) at c.step.ensures.does in
    (ready_by (yields_there c.args.number asks.0 c.requires.stands)).ready

pub returns-in_err-came-in-Fetch : goal.returns-in_err-came-in-Fetch
returns-in_err-came-in-Fetch g c scripts =
    steps_by c.args.number c.args.loud (lent_run c.run.ensures.running c.in-Some.is) c.in_ok-step.was c.in-Fetch.is c.step.ensures.next
    c.step.ensures.does (λ did. (did.0, did.1)) c.requires.keeps c.step.ensures.keeps.disk
    (hands_on c.in_err-came-in-Fetch.was c.from_residual-in_err-came-in-Fetch.ensures.1 (c.send.ensures.does scripts))

pub returns-then-not-loud : goal.returns-then-not-loud
returns-then-not-loud g c scripts =
    steps_by c.args.number c.args.loud (lent_run c.run.ensures.running c.in-Some.is) c.in_ok-step.was c.in-Fetch.is c.step.ensures.next
    c.step.ensures.does (λ did. (did.0, did.1)) c.requires.keeps c.step.ensures.keeps.disk
    (goes_then c.in_ok-came-in-Fetch.was (c.send.ensures.does scripts)
    (fetched_quiet c.in-Fetch.path (c.send.ensures.does scripts).disks c.in_ok-came-in-Fetch.came c.if-not-loud.true))

pub returns-in_ok-say_fetch-in-Fetch : goal.returns-in_ok-say_fetch-in-Fetch
returns-in_ok-say_fetch-in-Fetch g c scripts =
    steps_by c.args.number c.args.loud (lent_run c.run.ensures.running c.in-Some.is) c.in_ok-step.was c.in-Fetch.is c.step.ensures.next
    c.step.ensures.does (λ did. (did.0, did.1)) c.requires.keeps c.step.ensures.keeps.disk
    (goes_then c.in_ok-came-in-Fetch.was (c.send.ensures.does scripts)
    (fetched_loud c.in-Fetch.path (c.send.ensures.does scripts).disks _ c.if-not-loud.false c.in_ok-say_fetch-in-Fetch.ensures))

pub returns-in_err-say_fetch-in-Fetch : goal.returns-in_err-say_fetch-in-Fetch
returns-in_err-say_fetch-in-Fetch g c scripts = no_memory c.from_residual-in_err-say_fetch-in-Fetch.ensures.1
    (keeps_then (keeps_more c.requires.keeps c.step.ensures.keeps.disk) (c.send.ensures.does scripts).disks)
