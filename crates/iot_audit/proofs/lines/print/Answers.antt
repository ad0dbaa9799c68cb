use Rattle.iot_audit.proofs.LinesLaws.{print_on, prints_other}
use Rattle.iot_audit.proofs.lines.print.Goals as goal

pub returns-in-None : goal.returns-in-None
returns-in-None c =
    prints_other c.args.acts.now c.acts.act-index c.act-item.result c.as_slice.result.now c.acts-test.true c.act-item.is c.as_slice.ensures
    c.args.lines.now c.acts.rest.now c.acts.invariant c.in-None.ensures.cases

pub acts-preserved : goal.acts-preserved
acts-preserved c =
    print_on c.args.acts.now c.acts.act-index c.act-item.result c.as_slice.result.now c.acts-test.true c.act-item.is c.as_slice.ensures
    c.args.lines.now c.acts.rest.now c.acts.invariant c.in-Some.after.now c.in-Some.ensures.cases.0 c.in-Some.ensures.cases.1
