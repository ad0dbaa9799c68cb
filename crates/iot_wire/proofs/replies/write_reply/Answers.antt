use Rattle.std.proofs.Common.{◌≡◌, sym, arith, rules}
use Rattle.iot_wire.proofs.SpellingLaws.{reply_laws}
use Rattle.iot_wire.specs.Spelling.{reply_spelling}
use Rattle.iot_wire.proofs.MessagesLaws.{whole_again}
use Rattle.iot_wire.proofs.replies.write_reply.Goals as goal

pub returns-clause-back : goal.returns-clause-back
returns-clause-back c =
    let is : c.into_bytes.result.items ≡ reply_spelling c.args.reply.now = search rules in
    whole_again _ _ _ reply_laws c.into_bytes.result.items c.args.reply.now
    (omega (arith, c.into_bytes.result.ok, c.into_bytes.result.small))
    (record { value = c.requires; spelled = sym is })
