use Rattle.std.proofs.Common.{sym, subst}
use Rattle.iot_store.specs.Images.{SaysDamaged, TakesImage}
use Rattle.iot_store.proofs.ImagesLaws.{says_damaged, takes_image, upgraded_one}
use Rattle.iot_store.proofs.store.Store.upgrade.Goals as goal

pub returns-in_ok-spell_disk-in-Ok-clause-only : goal.returns-in_ok-spell_disk-in-Ok-clause-only
returns-in_ok-spell_disk-in-Ok-clause-only g c = λ disk other.
    upgraded_one c.args.bytes.now _ disk
    (record { state = _; count = _; stands = c.in-Ok.ensures.stands; new = c.in_ok-spell_disk-in-Ok.ensures.new }) other
    (c.in-Ok.ensures.only other.state other.stands.stands)

pub returns-in-Err-clause-never : goal.returns-in-Err-clause-never
returns-in-Err-clause-never g c = λ state stands.
    subst TakesImage (sym c.from.ensures) (takes_image c.in-Err.fault (c.in-Err.ensures.never state stands))

pub returns-in-Err-clause-damaged : goal.returns-in-Err-clause-damaged
returns-in-Err-clause-damaged g c = λ at damage.
    subst (SaysDamaged at) (sym c.from.ensures) (says_damaged at c.in-Err.fault (c.in-Err.ensures.damaged at damage))
