use Rattle.std.proofs.Common.{ap, arith, length}
use Rattle.iot_prune.proofs.WishLaws.{one_more}
use Rattle.iot_prune.proofs.wishes.prefixes.Goals as goal

pub names-preserved : goal.names-preserved
names-preserved c =
    let is = rw c.names-name-items.ensures.value at c.name-item.is in
    let step =
    one_more c.args.path.now c.names.above c.in_ok-below.below c.names.paths c.push.new.self c.names.name-index c.name-item.result
    (omega (arith, c.names-test.true, ap length c.names-name-items.ensures.value)) is c.names.invariant.at c.names.invariant.so_far
    c.in_ok-below.ensures c.in_ok-push.ensures.ok in
    record { at = step.0; so_far = step.1 }
