use Rattle.std.proofs.Common.{ℕ, Some, None}
use Rattle.iot_kept.specs.Reading.{ComesNext}
use Rattle.iot_kept.proofs.TurnsLaws.{OnWay}
use Rattle.iot_kept.proofs.checks.do_rise.Given as goal

abbrev pub invariant-numbers : goal.invariant-numbers
invariant-numbers l = OnWay (ComesNext l.last) (λ previous (n : ℕ). Some n) l.numbers None l.number-index l.previous
