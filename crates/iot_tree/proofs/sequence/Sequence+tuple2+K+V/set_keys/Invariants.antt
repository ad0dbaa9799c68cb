use Rattle.std.proofs.Common.{◌≤◌, ◌+◌, length}
use Rattle.iot_tree.proofs.KeyLaws.{IsStage}
use Rattle.iot_tree.proofs.sequence.Sequence+tuple2+K+V.set_keys.Given as goal

abbrev pub invariant-keys : goal.invariant-keys
invariant-keys g l =
    IsStage l.initial.self-inside.items.items l.self-inside.items.items l.initial.keys.items l.keys.items l.at
    × (l.at + length l.keys.items ≤ length l.self-inside.items.items)

abbrev pub decreases-keys : goal.decreases-keys
decreases-keys g l = length l.keys.items
