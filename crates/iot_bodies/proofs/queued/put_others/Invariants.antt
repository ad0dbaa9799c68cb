use Rattle.std.proofs.Common.{◌≡◌, ◌++◌, take}
use Rattle.std.specs.List.{flat_map}
use Rattle.iot_bodies.specs.Spelling.{other_spelling}
use Rattle.iot_bodies.proofs.queued.put_others.Given as goal

abbrev pub invariant-items : goal.invariant-items
invariant-items l = l.out ≡ l.fn.out ++ flat_map other_spelling (take l.item-index l.items)
