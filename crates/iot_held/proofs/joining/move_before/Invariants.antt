use Rattle.std.proofs.Common.{◌≡◌, ◌++◌, length}
use Rattle.iot_stamp.specs.Passes.{before_key, from_key}
use Rattle.iot_held.proofs.joining.move_before.Given as goal

abbrev pub invariant-entries : goal.invariant-entries
invariant-entries l =
    (l.out ++ before_key l.path l.entries.items ≡ l.initial.out ++ before_key l.path l.initial.entries.items)
    × (from_key l.path l.entries.items ≡ from_key l.path l.initial.entries.items)

abbrev pub decreases-entries : goal.decreases-entries
decreases-entries l = length l.entries.items
