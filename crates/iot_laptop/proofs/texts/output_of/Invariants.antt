use Rattle.iot_laptop.proofs.Common.{acts_output, take, ◌≡◌}
use Rattle.iot_laptop.proofs.texts.output_of.Given as goal

-- it is what the acts so far have printed
abbrev pub invariant-loop-act : goal.invariant-loop-act
invariant-loop-act l = l.output ≡ acts_output (take l.act-index l.acts)
