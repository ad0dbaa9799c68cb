use Rattle.std.proofs.Common.{◌≡◌, sym, arith, rules}
use Rattle.iot_wire.proofs.SpellingLaws.{request_laws}
use Rattle.iot_wire.specs.Spelling.{request_spelling}
use Rattle.iot_wire.proofs.MessagesLaws.{whole_again}
use Rattle.iot_wire.proofs.requests.write_request.Goals as goal

pub returns-clause-back : goal.returns-clause-back
returns-clause-back c =
    let is : c.into_bytes.result.items ≡ request_spelling c.args.request.now = search rules in
    whole_again _ _ _ request_laws c.into_bytes.result.items c.args.request.now
    (omega (arith, c.into_bytes.result.ok, c.into_bytes.result.small))
    (record { value = c.requires; spelled = sym is })
