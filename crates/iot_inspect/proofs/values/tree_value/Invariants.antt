use Rattle.std.proofs.Common.{◌≡◌, take, map}
use Rattle.serde_json.specs.View.{view}
use Rattle.iot_inspect.specs.Values.{row_data}
use Rattle.iot_inspect.proofs.values.tree_value.Given as goal

-- the rows so far
abbrev pub invariant-loop-path : goal.invariant-loop-path
invariant-loop-path l = map view l.rows.items ≡ map (λ row. row_data row.0 row.1) (take l.path-index l.path-items)
