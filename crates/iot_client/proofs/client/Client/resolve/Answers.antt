use Rattle.std.proofs.Common.{arith, sym, subst, Option}
use Rattle.iot_views.specs.Rules.{IsTreeOfRows}
use Rattle.iot_client.specs.Calls.{RefusesReply}
use Rattle.iot_client.specs.Messages.{MakesWhole}
use Rattle.iot_client.specs.declared.fault.ClientFault.{ClientFault}
use Rattle.iot_client.proofs.RepliesLaws.{only_objects, ends_read, whole_rows}
use Rattle.iot_client.proofs.client.Client.resolve.Goals as goal

pub returns-in-Some-clause-only : goal.returns-in-Some-clause-only
returns-in-Some-clause-only g c = only_objects c.args.reply.now (omega arith)

pub run_again-requires-clause-spelled : goal.run_again-requires-clause-spelled
run_again-requires-clause-spelled g c =
    subst IsTreeOfRows (sym c.tree.ensures.value) (whole_rows c.in_ok-server-in-None.ensures.found)

pub returns-in_ok-server-in-None-clause-refuses : goal.returns-in_ok-server-in-None-clause-refuses
returns-in_ok-server-in-None-clause-refuses g c =
    subst
    (λ (refusal : Option ClientFault).
    RefusesReply refusal (MakesWhole c.args.reply.now) c.args.self.now c.run_again.new.self c.run_again.result) c.in-None.ensures.cause
    (ends_read (MakesWhole c.args.reply.now) c.args.self.now c.run_again.new.self c.in_ok-server-in-None.server c.run_again.result
    c.in_ok-server-in-None.ensures.makes c.run_again.ensures.fails)
