use Rattle.std.proofs.Common.{arith}
use Rattle.iot_tree.specs.Tree.{IsTree}
use Rattle.iot_client.specs.Calls.{pending}
use Rattle.iot_stamp.specs.Stamps.{nothing_held}
use Rattle.iot_client.specs.Ties.{state_of}
use Rattle.iot_client.proofs.RepliesLaws.{only_objects, refuses_on}
use Rattle.iot_client.proofs.client.Client.take_walk.Goals as goal

pub returns-in-Some-clause-only : goal.returns-in-Some-clause-only
returns-in-Some-clause-only g c = only_objects c.args.reply.now (omega arith)

pub returns-in_err-changes-in-None-clause-refuses : goal.returns-in_err-changes-in-None-clause-refuses
returns-in_err-changes-in-None-clause-refuses g c =
    refuses_on IsTree nothing_held c.args.reply.now c.in_err-changes-in-None.field-0.0
    c.in_err-changes-in-None.ensures.reads c.args.self.now (pending (state_of c.args.self.now).items)
    c.from_residual.result c.in-None.ensures.cause c.from_residual.ensures.1
