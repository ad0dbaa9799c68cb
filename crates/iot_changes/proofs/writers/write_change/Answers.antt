use Rattle.std.proofs.Common.{◌≡◌, sym, arith, rules}
use Rattle.iot_changes.proofs.ChangesLaws.{change_laws}
use Rattle.iot_changes.specs.Spelling.{change_spelling}
use Rattle.iot_wire.proofs.MessagesLaws.{whole_again}
use Rattle.iot_changes.proofs.writers.write_change.Goals as goal

pub returns-clause-back : goal.returns-clause-back
returns-clause-back c =
    let is : c.into_bytes.result.items ≡ change_spelling c.args.change.now = search rules in
    whole_again _ _ _ change_laws c.into_bytes.result.items c.args.change.now
    (omega (arith, c.into_bytes.result.ok, c.into_bytes.result.small))
    (record { value = c.requires; spelled = sym is })
