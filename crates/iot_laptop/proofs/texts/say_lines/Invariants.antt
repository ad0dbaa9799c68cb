use Rattle.{iot_laptop.proofs.Common.take, iot_laptop.proofs.Common.◌++◌, iot_laptop.proofs.Common.◌≡◌, iot_machine.specs.Texts.output}
use Rattle.iot_laptop.proofs.texts.say_lines.Given as goal

-- the lines so far are said
abbrev pub invariant-loop-line : goal.invariant-loop-line
invariant-loop-line l = l.out ≡ l.initial.out ++ output (take l.line-index l.lines)
