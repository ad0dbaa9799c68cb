use Rattle.std.proofs.Common.{◌≡◌, ◌∷◌}
use Rattle.iot_exec.specs.Places.{Rest, reached}
use Rattle.iot_exec.specs.Positions.{here, around, weight, AreInnermost}
use Rattle.iot_exec.proofs.turns.reach.Given as goal

abbrev pub invariant-passing : goal.invariant-passing
invariant-passing l = record {
  block : AreInnermost l.script l.statements l.position;
  reaches : reached (Rest (here l.script l.position) ∷ around l.script l.position) l.env
      ≡ reached (Rest (here l.script l.initial.position) ∷ around l.script l.initial.position) l.initial.env;
}

abbrev pub decreases-passing : goal.decreases-passing
decreases-passing l = weight l.position
