use Rattle.iot_laptop.proofs.Common.{State, StateKept, subst, sym, ◌∙◌}
use Rattle.iot_laptop.proofs.seated.SeatedKeeper.arm.Goals as goal

pub returns-clause-stands : goal.returns-clause-stands
returns-clause-stands g c = λ place n s here. record {
  place_is = c.arm.ensures.place ∙ here.place_is;
  tied = c.arm.ensures.tied here.tied;
  counted = c.arm.ensures.records ∙ here.counted;
  kept = subst (λ (state : State). StateKept state s) (sym c.arm.ensures.state) here.kept;
}
