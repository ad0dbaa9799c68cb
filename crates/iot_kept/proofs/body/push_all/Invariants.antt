use Rattle.std.proofs.Common.{◌≡◌, ◌++◌, length}
use Rattle.iot_kept.specs.Reading.{items_of}
use Rattle.iot_kept.proofs.body.push_all.Given as goal

abbrev pub invariant-waiting : goal.invariant-waiting
invariant-waiting l = l.queue ++ items_of l.left.items ≡ l.initial.queue ++ items_of l.fn.waiting.items

abbrev pub decreases-waiting : goal.decreases-waiting
decreases-waiting l = length l.left.items
