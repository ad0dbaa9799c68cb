use Rattle.iot_laptop.proofs.{CallsLaws.called, Common.refl, Common.rules}
use Rattle.iot_laptop.proofs.RunningLaws.{next_by, step_trails, steps_by}
use Rattle.iot_laptop.proofs.laptop.Laptop.step.Goals as goal

pub returns : goal.returns
returns g c =
    let is = c.step-answer.ensures in
    let call = called c.client_mut.ensures.lent c.goes_on.ensures.goes c.records-count.ensures is.tied is.counts is.arms in
    let next = next_by _ c.args.number call is.step is.live is.stopped c.goes_on.result refl in
    let does = steps_by _ c.args.number call is.step is.live is.stopped c.goes_on.result refl in
    let trails = step_trails _ c.args.number call is.step is.live is.stopped in
    search rules
