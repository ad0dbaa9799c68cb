use Rattle.std.proofs.Common.{subst}
use Rattle.std.specs.Prelude.{Ok}
use Rattle.std.specs.Io.KnownBytes.{IsAtEnd}
use Rattle.iot_io.specs.ReadAll.{Took}
use Rattle.iot_keep_app.specs.Frames.{FrameEnds}
use Rattle.iot_keep_app.proofs.ServingLaws.{exchanged}
use Rattle.iot_keep_app.proofs.serving.serve_next.Goals as goal

pub returns-clause-ends : goal.returns-clause-ends
returns-clause-ends g c =
    let source = g.S.Source in
    exchanged _ _ _ c.in-Some.request.items c.deref.result.now c.deref.ensures.value
    (subst
    (λ found. FrameEnds (Took source.left source.taken c.args.source.now c.read_frame.new.source)
    (IsAtEnd (source.left c.read_frame.new.source)) (Ok found))
    c.in-Some.is c.in_ok-request.ensures.frame)
    c.in_ok-answer.ensures.ends
