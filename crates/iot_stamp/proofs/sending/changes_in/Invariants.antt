use Rattle.std.specs.List.{AllByRecursion}
use Rattle.iot_text.specs.Paths.{IsPath}
use Rattle.iot_stamp.specs.Refresh.{IsStampedRow}
use Rattle.iot_stamp.proofs.SendingLaws.{SoFar}
use Rattle.iot_stamp.proofs.sending.changes_in.Given as goal

abbrev pub invariant-rows : goal.invariant-rows
invariant-rows l =
    SoFar l.rows l.stamps l.sent l.want l.listed l.rest l.left l.flags.items l.out l.gone l.at
    × (AllByRecursion IsStampedRow l.out × AllByRecursion IsPath l.gone)
