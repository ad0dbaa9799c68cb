use Rattle.iot_laptop.proofs.{CallsLaws.if_two, CallsLaws.off_trails, Common.IfOk-weaker, Common.no_text, RestartLaws.crashes}
use Rattle.iot_laptop.proofs.laptop.Laptop.crash.Goals as goal

pub returns-clause-step : goal.returns-clause-step
returns-clause-step g c =
    if_two c.crash.result c.crash.ensures.step c.crash.ensures.down (λ _ step off.
    crashes g.D.Disk.medium c.args.self.now c.crash.new.self c.args.out.now c.crash.new.out
    (rw c.as_bytes.ensures.value at (step c.args.self.now.place no_text)) off)

pub returns-clause-trails : goal.returns-clause-trails
returns-clause-trails g c =
    IfOk-weaker c.crash.result _ _ (λ _ off. off_trails c.args.self.now (record c.args.self.now { post = c.crash.new.self }) off)
    c.crash.ensures.down
