use Rattle.iot_laptop.proofs.{CallsLaws.called, CallsLaws.noted_trails, Common.rules, RunningLaws.begins}
use Rattle.iot_laptop.proofs.laptop.Laptop.begin.Goals as goal

pub returns : goal.returns
returns g c =
    let is = c.begin-answer.ensures in
    let call = called c.client_mut.ensures.lent c.goes_on.ensures.goes c.records-count.ensures is.tied is.counts is.arms in
    let does =
    begins call (record { name = c.args.name.now; code = c.args.script.value }) c.args.option c.args.first c.requires.script is.number
    is.notes is.live is.stopped in
    let trails = noted_trails call _ is.notes (λ _. tt) in
    search rules
