use Rattle.std.proofs.Common.{◌≡◌, ◌++◌, drop}
use Rattle.std.specs.List.{flat_map}
use Rattle.iot_gen.specs.Generated.{text_of, last_lines}
use Rattle.iot_gen.proofs.lines.put_lasts.Given as goal

-- the text so far, and what is left, are the whole
abbrev pub invariant-loop-client : goal.invariant-loop-client
invariant-loop-client l =
    l.out ++ text_of (flat_map last_lines (drop l.client-index l.clients)) ≡ l.initial.out ++ text_of (flat_map last_lines l.clients)
