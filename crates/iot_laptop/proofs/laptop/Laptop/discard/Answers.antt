use Rattle.iot_changes.specs.declared.changes.Change.TheVariants.{Left}
use Rattle.iot_laptop.proofs.{CallsLaws.alone, CallsLaws.as_is, CallsLaws.called, CallsLaws.noted_trails, Common.leave, Common.rules}
use Rattle.iot_standing.proofs.KeptLaws.{left_live}
use Rattle.iot_laptop.proofs.laptop.Laptop.discard.Goals as goal

pub returns : goal.returns
returns g c =
    let is = c.discard-answer.ensures in
    let call = called c.client_mut.ensures.lent c.goes_on.ensures.goes c.records-count.ensures is.tied is.counts is.arms in
    let trails = noted_trails call _ is.notes (λ _. tt) in
    record {
      does = λ scripts. rw (as_is c.goes_on.result) at (alone call scripts leave Left is.notes is.live is.stopped
          (λ m here. left_live here.kept));
      keeps = search rules;
    }
