use Rattle.std.proofs.Common.{◌≡◌, ◌++◌, ◌-◌}
use Rattle.iot_gen.specs.Generated.{text_of, turn_lines}
use Rattle.iot_gen.specs.declared.generating.TheConstants.{TURNS}
use Rattle.iot_gen.proofs.generating.put_turns.Given as goal

-- the turns so far, and those that are left, are all of them
abbrev pub invariant-turns : goal.invariant-turns
invariant-turns l =
    l.out ++ text_of (turn_lines (TURNS - l.counter) l.draws) ≡ l.initial.out ++ text_of (turn_lines TURNS l.start)
