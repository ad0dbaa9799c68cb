use Rattle.iot_laptop.proofs.{CallsLaws.called, Common.refl, Common.rules, Common.sym}
use Rattle.iot_laptop.proofs.RunningLaws.{end_trails, ends_by, is_gone}
use Rattle.iot_laptop.proofs.laptop.Laptop.end.Goals as goal

pub returns : goal.returns
returns g c =
    let is = c.end-answer.ensures in
    let out = c.in_ok-output.output in
    let call = called c.client_mut.ensures.lent c.goes_on.ensures.goes c.records-count.ensures is.tied is.counts is.arms in
    let told = sym c.certified.ensures in
    let does = rw told at (ends_by _ c.args.number call out is.ends is.live is.stopped c.goes_on.result refl) in
    let gone = rw told at (is_gone _ c.args.number call out is.ends is.live is.stopped c.in_ok-output.ensures c.goes_on.result refl) in
    let trails = rw told at (end_trails _ c.args.number call out is.ends is.live is.stopped) in
    record { does = does; gone = gone; keeps = search rules }
