use Rattle.iot_laptop.proofs.Common.{length, state_in}
use Rattle.iot_laptop.proofs.laptop.Laptop.+cut_off.Given as goal

-- one less runs each time
abbrev pub decreases-cut_off : goal.decreases-cut_off
decreases-cut_off g l = length (state_in l.self.now).running
