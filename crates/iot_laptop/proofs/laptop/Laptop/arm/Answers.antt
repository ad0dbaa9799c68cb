use Rattle.iot_laptop.proofs.{CallsLaws.again_trails, Common.IfOk-weaker, Common.no_text, RestartLaws.arms, SeatsLaws.besides_again}
use Rattle.iot_laptop.proofs.laptop.Laptop.arm.Goals as goal

pub returns-clause-step : goal.returns-clause-step
returns-clause-step g c =
    IfOk-weaker c.arm.result _ _ (λ _ step.
    arms g.D.Disk.medium c.args.self.now c.arm.new.self c.args.calls c.args.pick
    (besides_again c.args.self.now.post c.arm.new.self c.arm.ensures.live) c.args.out.now c.arm.new.out
    (rw c.as_bytes.ensures.value at (step c.args.self.now.place no_text))) c.arm.ensures.step

pub returns-clause-trails : goal.returns-clause-trails
returns-clause-trails g c = again_trails c.args.self.now.post c.arm.new.self c.arm.ensures.live
