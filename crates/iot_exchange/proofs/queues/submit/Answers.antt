use Rattle.iot_exchange.proofs.Common.{ap, done, name_of, same_Some, sym, told_synced, told_text, ◌++◌, ◌∙◌}
use Rattle.iot_exchange.proofs.DoesLaws.{hands_on, then_tells}
use Rattle.iot_exchange.proofs.FirstLaws.{submits_away, submits_told, synced_err, verdict_came}
use Rattle.iot_exchange.proofs.queues.submit.Goals as goal

pub take_verdict-requires-clause-told : goal.take_verdict-requires-clause-told
take_verdict-requires-clause-told g c =
    let came = rw c.in-Some.is at c.in_ok-reply.ensures.replied in
    rw (came.same, c.deref.ensures.value) (verdict_came c.args.submitted c.requires.first came)

pub returns-in_err-told-in-Some : goal.returns-in_err-told-in-Some
returns-in_err-told-in-Some g c scripts =
    submits_told c.args.submitted c.requires.first (rw c.in-Some.is at c.in_ok-reply.ensures.replied) c.in_ok-reply.ensures.disks
    c.take_verdict.ensures.keeps (rw c.deref.ensures.value at c.take_verdict.ensures.does)
    (λ verdict option spells has. hands_on (ap done c.in_err-told-in-Some.was)
    (synced_err c.in_err-told-in-Some.field-0.0 _ c.from_residual-in_err-told-in-Some.ensures.1))

pub returns-in-Some : goal.returns-in-Some
returns-in-Some g c scripts =
    let came = rw c.in-Some.is at c.in_ok-reply.ensures.replied in
    let is_told = rw (came.same, c.deref.ensures.value) at c.in_ok-told-in-Some.ensures.told in
    submits_told c.args.submitted c.requires.first came c.in_ok-reply.ensures.disks c.take_verdict.ensures.keeps
    (rw c.deref.ensures.value at c.take_verdict.ensures.does) (λ verdict option spells has did.
    let which = is_told.verdict verdict spells in
    let chosen = same_Some _ _ (sym is_told.option ∙ has) in
    rw (c.by.ensures ∙ (λ i. told_synced (which i) (chosen i))) (then_tells (ap done c.in_ok-told-in-Some.was) did
    (λ names at pair here. c.in_ok-say_told-in-Some.ensures
    ∙ (λ i. c.take_verdict.new.out ++ told_text (name_of c.args.transaction.now) (which i) (chosen i)))))

pub returns : goal.returns
returns g c scripts = submits_away c.args.submitted c.requires.first (rw c.in-None.is at c.in_ok-reply.ensures.replied)
    c.in_ok-reply.ensures.disks c.in_ok-say-in-None.ensures
