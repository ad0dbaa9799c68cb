use Rattle.iot_exec.proofs.FindingLaws.{has_none, has_more, has_all}
use Rattle.iot_exec.proofs.finding.set_of.Goals as goal

pub paths-init : goal.paths-init
paths-init c = has_none c.new-set.result c.new-set.ensures.empty

pub paths-preserved : goal.paths-preserved
paths-preserved c =
    has_more c.args.paths.now c.paths.path-index c.path-item.result c.in_ok-copy.field-0 c.paths.set c.insert.new.self
    c.paths-test.true c.path-item.is c.in_ok-copy.ensures c.in_ok-insert.ensures.updates c.paths.invariant

pub returns : goal.returns
returns c = has_all c.args.paths.now c.paths.path-index c.paths.set c.paths-test.false c.paths.invariant
