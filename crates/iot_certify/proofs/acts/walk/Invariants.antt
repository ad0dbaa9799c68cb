use Rattle.std.proofs.Common.{drop, unwrap_or}
use Rattle.iot_certify.proofs.WalkLaws.{Walked}
use Rattle.iot_certify.proofs.acts.walk.Given as goal

abbrev pub invariant-acts : goal.invariant-acts
invariant-acts l = Walked l.t l.acts (unwrap_or l.changed l.t) (drop l.turn l.acts) l.place
