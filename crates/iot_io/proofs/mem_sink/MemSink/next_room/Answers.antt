use Rattle.std.proofs.Common.{ap, refl, ◌∙◌}
use Rattle.iot_io.specs.MemSink.{MemOutput}
use Rattle.iot_io.proofs.MemSinkLaws.{listed_same}
use Rattle.iot_io.proofs.mem_sink.MemSink.next_room.Goals as goal

pub returns-then-is_next_among-clause-room : goal.returns-then-is_next_among-clause-room
returns-then-is_next_among-clause-room c = λ not_listed.
    let lists = c.deref.ensures.value ∙ ap (λ (s : MemOutput). s.nothing) c.self.view_is in
    let counts = ap (λ (s : MemOutput). s.calls) c.self.view_is in
    absurd (not_listed (listed_same _ _ _ _ lists counts (c.if-is_next_among.ensures.0 refl)))
