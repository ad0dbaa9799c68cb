use Rattle.std.proofs.Common.{arith}
use Rattle.iot_client.proofs.RepliesLaws.{only_noted}
use Rattle.iot_client.proofs.client.Client.take_verdict.Goals as goal

pub returns-in-Some-clause-only : goal.returns-in-Some-clause-only
returns-in-Some-clause-only g c = only_noted c.args.reply.now (omega arith)
