use Rattle.std.proofs.Common.{◌∙◌, ap, sym, subst, arith}
use Rattle.std.specs.List.{AllByRecursion}
use Rattle.iot_slots.specs.Decoding.{decoded}
use Rattle.iot_views.specs.Rules.{IsLabel}
use Rattle.iot_store.specs.Images.{HasRecorded, SaysDamaged, TakesImage}
use Rattle.iot_store.specs.Rules.{header}
use Rattle.iot_store.specs.States.{State}
use Rattle.iot_store.proofs.ImagesLaws.{says_damaged, takes_image}
use Rattle.iot_store.proofs.LinesLaws.{recorded_last, recorded_one}
use Rattle.iot_store.proofs.store.Store.image.Goals as goal

pub returns-in_ok-of-in-Ok-clause-stands : goal.returns-in_ok-of-in-Ok-clause-stands
returns-in_ok-of-in-Ok-clause-stands g c = record {
  state = c.in-Ok.found.state;
  stands = c.in-Ok.ensures.stands.stands;
  holds = c.in_ok-of-in-Ok.ensures.of;
  recorded = subst (HasRecorded (decoded header c.args.bytes.now)) (sym c.in_ok-of-in-Ok.ensures.recorded) c.in_ok-recorded-in-Ok.ensures;
}

pub returns-in_ok-of-in-Ok-clause-only : goal.returns-in_ok-of-in-Ok-clause-only
returns-in_ok-of-in-Ok-clause-only g c = λ state stands.
    let same = c.in-Ok.ensures.only state stands in
    record {
      tree = c.in_ok-of-in-Ok.ensures.of.tree ∙ ap (λ (s : State). s.tree) same;
      labels = c.in_ok-of-in-Ok.ensures.of.labels ∙ ap (λ (s : State). s.labels) same;
    }

pub returns-in_ok-of-in-Ok-clause-state : goal.returns-in_ok-of-in-Ok-clause-state
returns-in_ok-of-in-Ok-clause-state g c =
    subst (AllByRecursion IsLabel) (sym c.in_ok-of-in-Ok.ensures.of.labels) c.in-Ok.ensures.sound.labels

pub returns-in_ok-of-in-Ok-clause-last : goal.returns-in_ok-of-in-Ok-clause-last
returns-in_ok-of-in-Ok-clause-last g c =
    let last = recorded_last c.args.bytes.now c.in-Ok.found.state c.in_ok-recorded-in-Ok.recorded c.in-Ok.ensures.stands.stands
    c.in_ok-recorded-in-Ok.ensures in
    rw (c.in_ok-of-in-Ok.ensures.recorded, c.in_ok-of-in-Ok.ensures.of.labels) last

pub returns-in_ok-of-in-Ok-clause-recorded : goal.returns-in_ok-of-in-Ok-clause-recorded
returns-in_ok-of-in-Ok-clause-recorded g c = λ recorded has.
    c.in_ok-of-in-Ok.ensures.recorded
    ∙ recorded_one c.args.bytes.now c.in_ok-recorded-in-Ok.recorded recorded (omega arith) c.in_ok-recorded-in-Ok.ensures has

pub returns-in-Err-clause-never : goal.returns-in-Err-clause-never
returns-in-Err-clause-never g c = λ state stands.
    subst TakesImage (sym c.from.ensures) (takes_image c.in-Err.fault (c.in-Err.ensures.never state stands))

pub returns-in-Err-clause-damaged : goal.returns-in-Err-clause-damaged
returns-in-Err-clause-damaged g c = λ at damage.
    subst (SaysDamaged at) (sym c.from.ensures) (says_damaged at c.in-Err.fault (c.in-Err.ensures.damaged at damage))
