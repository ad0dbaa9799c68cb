use Rattle.std.proofs.Common.{◌≡◌, ◌+◌, ◌≤◌, ◌++◌, ◌∷◌, [], length, not}
use Rattle.std.specs.List.{position_from}
use Rattle.iot_lines.specs.Lines.{lines}
use Rattle.iot_event.specs.Bytes.{fits_line}
use Rattle.iot_event.specs.Scripts.{first_unfit}
use Rattle.iot_event.proofs.script.first_unfit.Given as goal

abbrev pub invariant-loop-line : goal.invariant-loop-line
invariant-loop-line l = record {
  same :
      first_unfit (lines l.inside ++ l.closing ∷ [])
      ≡ position_from (λ line. not (fits_line line)) l.place (l.line-iterator ++ l.closing ∷ []);
  few : l.place + length l.line-iterator ≤ length l.inside;
}
