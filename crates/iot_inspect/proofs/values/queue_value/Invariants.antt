use Rattle.std.proofs.Common.{◌≡◌, take, map}
use Rattle.serde_json.specs.View.{view}
use Rattle.iot_inspect.specs.Values.{item_data}
use Rattle.iot_inspect.proofs.values.queue_value.Given as goal

-- the transactions so far
abbrev pub invariant-loop-item : goal.invariant-loop-item
invariant-loop-item l = map view l.values.items ≡ map (item_data l.client) (take l.item-index l.items)
