use Rattle.std.proofs.Common.{arith, ◌∙◌, subst}
use Rattle.std.proofs.lemmas.Result.{IfOk-weaker}
use Rattle.iot_slots.specs.declared.version.Version.TheVariants.{Two}
use Rattle.iot_store.specs.Records.{IsDecodedAs}
use Rattle.iot_store.proofs.RecordsLaws.{lines_found}
use Rattle.iot_store.proofs.lines.lines_of.Goals as goal

pub returns-in-Some : goal.returns-in-Some
returns-in-Some c = λ version commit is.
    let found = subst (IsDecodedAs Two c.args.body.now) c.in-Some.is c.lend_new.ensures in
    let same = lines_found version c.args.body.now c.in-Some.commit commit (omega arith) found is in
    IfOk-weaker c.copied.result _ _ (λ lines copied. copied ∙ c.lines.ensures ∙ same) c.copied.ensures
