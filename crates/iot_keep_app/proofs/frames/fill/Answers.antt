use Rattle.std.proofs.Common.{◌++◌, ◌∙◌, ap, length, take, arith}
use Rattle.std.proofs.lemmas.Result.{err_from_is_err_and}
use Rattle.iot_io.proofs.ReadAllLaws.{Took-more, length-with_front}
use Rattle.iot_keep_app.proofs.frames.fill.Goals as goal

pub returns-in_err-extend_from_slice-clause-prefix :
    goal.returns-in_err-extend_from_slice-clause-prefix
returns-in_err-extend_from_slice-clause-prefix g c =
    let p = err_from_is_err_and c.from_residual-in_err-extend_from_slice.result c.from_residual-in_err-extend_from_slice.ensures.1 in
    let bytes = c.loop-bytes.bytes in
    let chunk = c.read_front.new.chunk in
    let count = c.in_ok-count.count in
    let whole = c.read_front.auto.chunk ∙ ap length c.deref_mut.ensures.value in
    let more =
    length-with_front bytes.items chunk count
    (omega (arith, whole, c.loop-bytes.chunk.ok.0, c.in_ok-count.ensures.bound, c.loop-bytes.invariant.whole_chunk, c.min-room.ensures)) in
    rw (p.1, p.2) (
      bytes.items ++ take count chunk,
      Took-more _ _ _ _ _ _ _ c.loop-bytes.invariant.took c.in_ok-count.ensures.took,
      omega (arith, more, bytes.ok.0, c.in_ok-count.ensures.bound, c.min-room.ensures),
    )
