use Rattle.std.proofs.Common.{◌≡◌, ◌++◌, take}
use Rattle.iot_inspect.specs.Texts.{others_text}
use Rattle.iot_inspect.proofs.reading.put_others.Given as goal

-- the names so far are told
abbrev pub invariant-loop-child : goal.invariant-loop-child
invariant-loop-child l = l.out ≡ l.initial.out ++ others_text (take l.child-index l.children)
