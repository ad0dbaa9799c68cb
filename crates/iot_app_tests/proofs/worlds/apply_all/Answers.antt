use Rattle.iot_world.proofs.AllowedLaws.{next_allowed, rest_declared}
use Rattle.iot_app_tests.proofs.worlds.apply_all.Goals as goal

pub apply-requires-clause-allowed : goal.apply-requires-clause-allowed
apply-requires-clause-allowed g c =
    next_allowed c.args.events.now c.events.event-index c.event-item.result c.events.world
    c.events.invariant.declared c.events-test.true c.event-item.is

pub events-preserved : goal.events-preserved
events-preserved g c = record {
  stands = c.in_ok-apply.ensures.stands;
  declared =
      rest_declared c.args.events.now c.events.event-index c.event-item.result c.events.world
      c.events.invariant.declared c.events-test.true c.event-item.is c.apply.new.self c.in_ok-apply.ensures.declared;
  has = c.apply.ensures.disks.has c.events.invariant.has;
}
