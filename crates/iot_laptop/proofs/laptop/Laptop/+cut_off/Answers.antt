use Rattle.iot_laptop.proofs.Common.{IfOk-weaker}
use Rattle.iot_laptop.proofs.laptop.Laptop.+cut_off.Goals as goal

pub returns-in_ok-say_cut-in-Ok-Some-clause-cuts : goal.returns-in_ok-say_cut-in-Ok-Some-clause-cuts
returns-in_ok-say_cut-in-Ok-Some-clause-cuts g t c =
    let first = rw c.in-Ok-Some.field-0-is at c.in-Ok-Some.ensures.cuts in
    let said = rw c.transaction.ensures at c.in_ok-say_cut-in-Ok-Some.ensures in
    IfOk-weaker c.cut_off.result _ _ (λ _ all. first c.cut_off.new.self c.cut_off.new.out (rw said at all)) c.cut_off.ensures.cuts

pub returns-in_ok-say_cut-in-Ok-Some-clause-trails : goal.returns-in_ok-say_cut-in-Ok-Some-clause-trails
returns-in_ok-say_cut-in-Ok-Some-clause-trails g t c = IfOk-weaker c.cut_off.result _ _ (λ _ later server bound positive it.
    later server bound positive (c.in-Ok-Some.ensures.keeps.trails server bound positive it)) c.cut_off.ensures.trails
