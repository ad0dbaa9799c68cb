use Rattle.std.proofs.Common.{◌≡◌, ◌++◌, length}
use Rattle.iot_held.proofs.joining.move_all.Given as goal

abbrev pub invariant-entries : goal.invariant-entries
invariant-entries l = l.out ++ l.left.items ≡ l.initial.out ++ l.fn.entries.items

abbrev pub decreases-entries : goal.decreases-entries
decreases-entries l = length l.left.items
