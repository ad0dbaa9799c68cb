use Rattle.iot_laptop.proofs.{CallsLaws.fresh_trails, Common.IfOk-weaker, Common.no_text, RestartLaws.opens}
use Rattle.iot_laptop.proofs.laptop.Laptop.open.Goals as goal

pub returns-clause-step : goal.returns-clause-step
returns-clause-step g c =
    IfOk-weaker c.open.result _ _ (λ on step scripts.
    opens g.D.Disk.medium c.args.self.now c.requires c.open.new.self c.args.out.now c.open.new.out on
    (rw c.as_bytes.ensures.value at (step no_text)) scripts) c.open.ensures.step

pub returns-clause-trails : goal.returns-clause-trails
returns-clause-trails g c = IfOk-weaker c.open.result _ _ (fresh_trails c.args.self.now c.open.new.self) c.open.ensures.live
