use Rattle.std.proofs.Common.{◌≡◌, ◌+◌, drop}
use Rattle.iot_text.proofs.TextsLaws.{Leaves}
use Rattle.iot_inspect.specs.Texts.{reads_from}
use Rattle.iot_inspect.proofs.reading.put_reads.Given as goal

-- the reads that are left are to come
abbrev pub invariant-loop-read : goal.invariant-loop-read
invariant-loop-read l = record {
  number : l.number ≡ l.first + l.read-index;
  left : Leaves l.initial.out l.out (reads_from l.number (drop l.read-index l.reads)) (reads_from l.first l.reads);
}
