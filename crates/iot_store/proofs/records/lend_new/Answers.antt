use Rattle.std.proofs.Common.{arith, sym, subst}
use Rattle.iot_slots.specs.declared.version.Version.TheVariants.{Two}
use Rattle.iot_store.specs.Records.{IsDecodedAs}
use Rattle.iot_store.proofs.RecordsLaws.{lent_as}
use Rattle.iot_store.proofs.records.lend_new.Goals as goal

pub returns : goal.returns
returns c =
    subst (IsDecodedAs Two c.args.body.now) (sym c.ok.ensures.value)
    (lent_as c.args.body.now c.of.result (λ i. omega (arith, c.type_inv.body i)) (omega arith) c.of.ensures.commit c.of.ensures.other)
