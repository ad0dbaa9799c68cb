use Rattle.std.proofs.Common.{◌≡◌, ◌++◌, take}
use Rattle.std.specs.List.{flat_map}
use Rattle.iot_inspect.specs.Texts.{item_line}
use Rattle.iot_inspect.proofs.waiting.put_items.Given as goal

-- the transactions so far are told
abbrev pub invariant-loop-item : goal.invariant-loop-item
invariant-loop-item l = l.out ≡ l.initial.out ++ flat_map (item_line l.client) (take l.item-index l.items)
