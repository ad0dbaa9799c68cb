use Rattle.iot_slots.specs.declared.version.Version.{Version}
use Rattle.iot_store.specs.Records.{AreRecords}
use Rattle.iot_store.proofs.LinesLaws.{LinesSo}
use Rattle.iot_store.proofs.lines.lines_of_all.Given as goal

abbrev pub invariant-loop-body : goal.invariant-loop-body
invariant-loop-body l =
    (version : Version) → AreRecords version l.fn.records → LinesSo version l.fn.records l.body-iterator l.recorded
