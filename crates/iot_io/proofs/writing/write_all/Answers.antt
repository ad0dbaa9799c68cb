use Rattle.std.proofs.Common.{◌∙◌, arith}
use Rattle.iot_io.proofs.WriteAllLaws.{written_more}
use Rattle.iot_io.proofs.writing.write_all.Goals as goal

pub loop-done-preserved : goal.loop-done-preserved
loop-done-preserved g c =
    let before = c.loop-done.invariant in
    let now = c.in_ok-count.ensures in
    record {
      within = omega arith;
      written = written_more _ _ _ c.args.bytes.now c.loop-done.done c.in_ok-count.count before.written now.bytes;
      steady = now.steady ∙ before.steady;
      none_empty = now.took (omega arith) ∙ before.none_empty;
    }
