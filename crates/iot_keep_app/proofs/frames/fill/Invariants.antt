-- The bytes so far were taken, and no read failed.
use Rattle.std.proofs.Common.{◌≡◌, ◌-◌, ◌≤◌, min, vec_len}
use Rattle.iot_io.specs.ReadAll.{Took}
use Rattle.iot_keep_app.proofs.frames.fill.Given as goal

abbrev pub invariant-loop-bytes : goal.invariant-loop-bytes
invariant-loop-bytes g l =
    let source = g.S.Source in
    record {
      took : Took source.left source.taken l.fn.source l.source l.bytes.items;
      within : vec_len l.bytes ≤ l.most;
      whole_chunk : vec_len l.chunk ≡ min l.most 65536;
      steady : source.faults l.source ≡ source.faults l.fn.source;
    }

abbrev pub decreases-loop-bytes : goal.decreases-loop-bytes
decreases-loop-bytes g l = l.most - vec_len l.bytes
