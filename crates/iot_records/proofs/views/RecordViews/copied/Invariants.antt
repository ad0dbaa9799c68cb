use Rattle.std.proofs.Common.{◌≡◌, ◌++◌}
use Rattle.iot_records.proofs.views.RecordViews.copied.Given as goal

-- the bodies so far
abbrev pub invariant-loop-body : goal.invariant-loop-body
invariant-loop-body l = l.bodies ++ l.body-iterator ≡ l.fn.self
