use Rattle.std.proofs.Common.{◌≡◌, ◌++◌, take}
use Rattle.iot_inspect.specs.Texts.{rows_text}
use Rattle.iot_inspect.proofs.rows.show.Given as goal

-- the rows so far are shown
abbrev pub invariant-loop-path : goal.invariant-loop-path
invariant-loop-path l = l.out ≡ l.initial.out ++ rows_text (take l.path-index l.path-items)
