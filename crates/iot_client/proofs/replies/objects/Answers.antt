use Rattle.std.proofs.Common.{arith}
use Rattle.iot_client.proofs.RepliesLaws.{only_objects}
use Rattle.iot_client.proofs.replies.objects.Goals as goal

pub returns-in_err-changes-clause-only : goal.returns-in_err-changes-clause-only
returns-in_err-changes-clause-only c = only_objects c.args.reply.now (omega arith)
