use Rattle.std.proofs.Common.{◌≡◌, drop, unwrap_or}
use Rattle.iot_certify.proofs.LongestLaws.{Goes}
use Rattle.iot_certify.proofs.prefix.walk.Given as goal

abbrev pub invariant-acts : goal.invariant-acts
invariant-acts l = Goes l.t l.acts (unwrap_or l.changed l.t) (drop l.act-index l.acts) l.count × (l.count ≡ l.act-index)
