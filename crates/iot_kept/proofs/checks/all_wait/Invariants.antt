use Rattle.iot_kept.proofs.TurnsLaws.{OnWay, Waits, same_unit}
use Rattle.iot_kept.proofs.checks.all_wait.Given as goal

abbrev pub invariant-items : goal.invariant-items
invariant-items l = OnWay Waits same_unit l.items tt l.item-index tt
