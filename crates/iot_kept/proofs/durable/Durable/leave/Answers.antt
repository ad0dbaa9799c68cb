use Rattle.iot_kept.specs.Memory.{transactions}
use Rattle.iot_stamp.specs.Stamps.{nodes_of}
use Rattle.iot_kept.proofs.StatesLaws.{head_fits, left_made, stamps_made}
use Rattle.iot_kept.proofs.durable.Durable.leave.Goals as goal

pub pass_in_place-requires : goal.pass_in_place-requires
pass_in_place-requires c =
    let old = c.args.self.now in
    head_fits c.in-Some.head c.leave_head.new.self old.queue (nodes_of old.held) c.in-Some.ensures.rest c.requires.hold.items

pub returns-clause-state : goal.returns-clause-state
returns-clause-state c =
    let old = c.args.self.now in
    left_made old.held c.pass_in_place.new.self old.queue c.leave_head.new.self (transactions old.running.items) old.last old.access
    c.of_nothing.result c.in-Some.head c.in-Some.ensures.rest c.in_ok-pass_in_place.ensures c.of_nothing.ensures

pub returns-clause-stamps : goal.returns-clause-stamps
returns-clause-stamps c =
    let old = c.args.self.now in
    stamps_made old.held c.pass_in_place.new.self old.queue c.leave_head.new.self c.in-Some.head c.in-Some.ensures.rest
    c.in_ok-pass_in_place.ensures
