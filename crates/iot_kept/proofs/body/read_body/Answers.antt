use Rattle.std.proofs.Common.{subst, arith}
use Rattle.iot_kept.specs.Reading.{IsMadeIf}
use Rattle.iot_kept.specs.Versions.{ReadsAs, SpellsClient}
use Rattle.iot_kept.proofs.BodiesLaws.{read_found, read_only, read_sound, read_fresh, spells_parts, parts_suit}
use Rattle.iot_kept.proofs.body.read_body.Goals as goal

pub returns-in_default-clause-only : goal.returns-in_default-clause-only
returns-in_default-clause-only c = λ state is.
    spells_parts c.args.version c.args.body.now state is (subst
    (ReadsAs (SpellsClient c.args.version c.args.body.now)) c.in_default.is c.in_ok-parts.ensures)

pub returns-in_default-2-clause-only : goal.returns-in_default-2-clause-only
returns-in_default-2-clause-only c = λ state is.
    let m = subst (ReadsAs (SpellsClient c.args.version c.args.body.now)) c.in-Some.is c.in_ok-parts.ensures in
    let never = subst (IsMadeIf c.in-Some.parts) c.in_default-2.is c.in_ok-durable.ensures in
    never (parts_suit c.args.version c.args.body.now state is (omega arith) c.in-Some.parts m)

pub returns-clause-found : goal.returns-clause-found
returns-clause-found c =
    let m = subst (ReadsAs (SpellsClient c.args.version c.args.body.now)) c.in-Some.is c.in_ok-parts.ensures in
    let made = subst (IsMadeIf c.in-Some.parts) c.in-Some-2.is c.in_ok-durable.ensures in
    read_found c.args.version c.args.body.now c.in-Some.parts m c.in-Some-2.durable made c.checked.result c.checked.ensures

pub returns-clause-only : goal.returns-clause-only
returns-clause-only c = λ state is.
    let m = subst (ReadsAs (SpellsClient c.args.version c.args.body.now)) c.in-Some.is c.in_ok-parts.ensures in
    let made = subst (IsMadeIf c.in-Some.parts) c.in-Some-2.is c.in_ok-durable.ensures in
    read_only c.args.version c.args.body.now c.in-Some.parts m c.in-Some-2.durable made c.checked.result c.checked.ensures
    (omega arith) state is

pub returns-clause-sound : goal.returns-clause-sound
returns-clause-sound c =
    let m = subst (ReadsAs (SpellsClient c.args.version c.args.body.now)) c.in-Some.is c.in_ok-parts.ensures in
    let made = subst (IsMadeIf c.in-Some.parts) c.in-Some-2.is c.in_ok-durable.ensures in
    read_sound c.args.version c.args.body.now c.in-Some.parts m c.in-Some-2.durable made c.checked.result c.checked.ensures

pub returns-clause-fresh : goal.returns-clause-fresh
returns-clause-fresh c =
    let m = subst (ReadsAs (SpellsClient c.args.version c.args.body.now)) c.in-Some.is c.in_ok-parts.ensures in
    let made = subst (IsMadeIf c.in-Some.parts) c.in-Some-2.is c.in_ok-durable.ensures in
    read_fresh c.args.version c.args.body.now c.in-Some.parts m c.in-Some-2.durable made c.checked.result c.checked.ensures
