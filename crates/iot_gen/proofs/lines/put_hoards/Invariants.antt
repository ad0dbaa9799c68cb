use Rattle.std.proofs.Common.{◌≡◌, ◌++◌, drop, map}
use Rattle.iot_gen.specs.Generated.{text_of, hoard_line}
use Rattle.iot_gen.proofs.lines.put_hoards.Given as goal

-- the text so far, and what is left, are the whole
abbrev pub invariant-loop-client : goal.invariant-loop-client
invariant-loop-client l =
    l.out ++ text_of (map hoard_line (drop l.client-index l.clients)) ≡ l.initial.out ++ text_of (map hoard_line l.clients)
