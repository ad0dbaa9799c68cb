use Rattle.{iot_client.proofs.TrailsLaws.noted_trails, iot_laptop.proofs.CallsLaws.as_is}
use Rattle.iot_laptop.proofs.{CallsLaws.called, CallsLaws.goes_trails, CallsLaws.resolves, Common.IfOk-weaker, Common.refl, Common.rules}
use Rattle.iot_laptop.proofs.laptop.Laptop.resolve.Goals as goal

pub returns : goal.returns
returns g c =
    let is = c.resolve-answer.ensures in
    let call = called c.client_mut.ensures.lent c.goes_on.ensures.goes c.records-count.ensures is.tied is.counts is.arms in
    let does = rw (as_is c.goes_on.result) at (resolves call c.args.reply.now c.args.script.value c.requires.script is.only is.resolves
    is.live is.stopped) in
    let trails = goes_trails call (IfOk-weaker c.resolve-answer.result _ _
    (λ _ it. noted_trails _ c.client_mut.result.now c.resolve-answer.new.self _ tt call.was_tied it.reruns.notes) is.resolves)
    c.goes_on.result refl in
    record { does = does; keeps = search rules }
