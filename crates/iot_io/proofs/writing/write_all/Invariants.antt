-- What is done was written, and no count rose.
use Rattle.std.proofs.Common.{◌≡◌, ◌-◌, ◌≤◌, length, take}
use Rattle.std.specs.Io.KnownBytes.{Appends}
use Rattle.iot_io.proofs.writing.write_all.Given as goal

abbrev pub invariant-loop-done : goal.invariant-loop-done
invariant-loop-done g l =
    let sink = g.K.Sink in
    record {
      within : l.done ≤ length l.bytes;
      written : Appends (sink.written l.fn.sink) (sink.written l.sink) (take l.done l.bytes);
      steady : sink.faults l.sink ≡ sink.faults l.fn.sink;
      none_empty : sink.empties l.sink ≡ sink.empties l.fn.sink;
    }

abbrev pub decreases-loop-done : goal.decreases-loop-done
decreases-loop-done g l = length l.bytes - l.done
