use Rattle.std.proofs.Common.{arith}
use Rattle.iot_client.proofs.RepliesLaws.{only_noted}
use Rattle.iot_client.proofs.replies.noted.Goals as goal

pub returns-in_err-read_reply-clause-only : goal.returns-in_err-read_reply-clause-only
returns-in_err-read_reply-clause-only c = only_noted c.args.reply.now (omega arith)
