use Rattle.iot_changes.specs.declared.changes.Change.TheVariants.{Repaired}
use Rattle.iot_laptop.proofs.{CallsLaws.alone, CallsLaws.as_is, CallsLaws.called, CallsLaws.noted_trails, Common.repair, Common.rules}
use Rattle.iot_standing.proofs.KeptLaws.{repaired_live}
use Rattle.iot_laptop.proofs.laptop.Laptop.repair.Goals as goal

pub returns : goal.returns
returns g c =
    let is = c.repair-answer.ensures in
    let name = c.args.script.now in
    let call = called c.client_mut.ensures.lent c.goes_on.ensures.goes c.records-count.ensures is.tied is.counts is.arms in
    let trails = noted_trails call _ is.notes (λ _. tt) in
    record {
      does = λ scripts script named same. rw (as_is c.goes_on.result) at (alone call scripts (repair script) (Repaired name) is.notes
          is.live is.stopped (λ m here _. repaired_live here.kept name script same named));
      keeps = search rules;
    }
