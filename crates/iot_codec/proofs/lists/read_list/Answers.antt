use Rattle.std.proofs.Common.{arith}
use Rattle.iot_codec.specs.Laws.Lists.{list_laws}
use Rattle.iot_codec.proofs.OutcomesLaws.{call_has}
use Rattle.iot_codec.proofs.lists.read_list.Goals as goal

pub returns-clause-each : goal.returns-clause-each
returns-clause-each g c =
    call_has _ _ _ (list_laws _ _ _ g.met.T.Spelled.laws) c.args.bytes.now c.args.at c.counted_items.result
    (λ i. omega (arith, c.type_inv.bytes i)) c.counted_items.ensures
