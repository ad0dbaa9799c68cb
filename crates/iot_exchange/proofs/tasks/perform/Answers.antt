use Rattle.iot_exchange.proofs.{Common.on_ok_weaker, DoesLaws.all_done, DoesLaws.all_over, DoesLaws.keeps_standing, DoesLaws.says_down}
use Rattle.iot_exchange.proofs.tasks.perform.Goals as goal

pub returns-then-not-is_alive-clause-step : goal.returns-then-not-is_alive-clause-step
returns-then-not-is_alive-clause-step g c =
    on_ok_weaker c.say.result (λ wrote names at. says_down names at (cc) wrote) c.say.ensures

pub returns-then-not-is_alive-clause-disks : goal.returns-then-not-is_alive-clause-disks
returns-then-not-is_alive-clause-disks g c = keeps_standing c.requires.stands.stands

pub returns-in-Ok-clause-step : goal.returns-in-Ok-clause-step
returns-in-Ok-clause-step g c names at = all_done names at (cc) c.carry_out.ensures c.in-Ok.is

pub returns-in-Err-Over-clause-step : goal.returns-in-Err-Over-clause-step
returns-in-Err-Over-clause-step g c names at = all_over names at (cc) c.carry_out.ensures (cc)
