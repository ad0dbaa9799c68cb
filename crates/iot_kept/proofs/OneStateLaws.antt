-- Bytes stand for one state at most.
use Rattle.iot_durable.proofs.OneLaws.{stands_one}
use Rattle.iot_kept.specs.Rules.{rules}
use Rattle.iot_kept.specs.Standing.{StandsForOne}
use Rattle.iot_kept.proofs.BodiesLaws.{body_alone}
use Rattle.iot_kept.proofs.VersionsLaws.{change_one}

pub stand_for_one : StandsForOne
stand_for_one = stands_one rules body_alone change_one
