use Rattle.iot_client.proofs.TrailsLaws.{verdict_own}
use Rattle.iot_laptop.proofs.{CallsLaws.called, CallsLaws.noted_trails, CallsLaws.takes_verdict, Common.rules}
use Rattle.iot_laptop.proofs.laptop.Laptop.take_verdict.Goals as goal

pub returns-in-Ok : goal.returns-in-Ok
returns-in-Ok g c =
    let is = c.take_verdict-answer.ensures in
    let call = called c.client_mut.ensures.lent c.goes_on.ensures.goes c.records-count.ensures is.tied is.counts is.arms in
    let does = rw c.in-Ok.is at (takes_verdict call (λ noted. noted) c.args.reply.now is.only is.noted is.notes is.live is.stopped) in
    let trails = rw c.in-Ok.is at (noted_trails call _ is.notes verdict_own) in
    record { does = does; told = search rules; keeps = search rules }

pub returns-in-Err : goal.returns-in-Err
returns-in-Err g c =
    let is = c.take_verdict-answer.ensures in
    let call = called c.client_mut.ensures.lent c.goes_on.ensures.goes c.records-count.ensures is.tied is.counts is.arms in
    let does = rw c.in-Err.is at (takes_verdict call (λ noted. noted) c.args.reply.now is.only is.noted is.notes is.live is.stopped) in
    let trails = rw c.in-Err.is at (noted_trails call _ is.notes verdict_own) in
    record { does = does; told = search rules; keeps = search rules }
