use Rattle.std.proofs.Common.{◌≡◌, drop}
use Rattle.iot_access.specs.Access.{lines_of}
use Rattle.iot_audit.specs.Audits.{are_same}
use Rattle.iot_audit.proofs.lines.print.Given as goal

abbrev pub invariant-acts : goal.invariant-acts
invariant-acts l = are_same l.fn.lines (lines_of l.fn.acts) ≡ are_same l.rest (lines_of (drop l.act-index l.acts))
