use Rattle.std.proofs.Common.{◌≡◌, length, reverse}
use Rattle.iot_fitting.specs.Undoing.{CanUndoInTurn, after_undoing}
use Rattle.iot_fitting.proofs.undoing.undo_all.Given as goal

abbrev pub invariant-left : goal.invariant-left
invariant-left l = record {
  can : CanUndoInTurn l.tree (reverse l.left.items);
  after : after_undoing l.tree (reverse l.left.items) ≡ after_undoing l.fn.tree (reverse l.fn.undo);
}

abbrev pub decreases-left : goal.decreases-left
decreases-left l = length l.left.items
