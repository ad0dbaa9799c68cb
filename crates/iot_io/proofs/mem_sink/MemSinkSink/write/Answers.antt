use Rattle.std.proofs.Common.{ap, refl, ◌∙◌}
use Rattle.iot_io.specs.MemSink.{MemOutput}
use Rattle.iot_io.proofs.MemSinkLaws.{listed_same}
use Rattle.iot_io.proofs.mem_sink.MemSinkSink.write.Goals as goal

pub returns-then-fails-clause-fails : goal.returns-then-fails-clause-fails
returns-then-fails-clause-fails c =
    let lists = c.deref.ensures.value ∙ ap (λ (s : MemOutput). s.fails) c.self.view_is in
    let counts = ap (λ (s : MemOutput). s.calls) c.self.view_is in
    (λ _. listed_same _ _ _ _ lists counts (c.if-fails.ensures.0 refl), λ _. refl)
