use Rattle.std.proofs.Common.{drop}
use Rattle.iot_text.proofs.TextsLaws.{Leaves}
use Rattle.iot_inspect.specs.Texts.{reads_from, reads_of}
use Rattle.iot_inspect.proofs.reading.put_acts.Given as goal

-- the reads of the acts that are left are to come
abbrev pub invariant-loop-act : goal.invariant-loop-act
invariant-loop-act l =
    Leaves l.initial.out l.out (reads_from l.number (reads_of (drop l.act-index l.acts))) (reads_from 1 (reads_of l.acts))
