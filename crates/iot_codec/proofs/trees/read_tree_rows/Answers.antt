use Rattle.std.proofs.Common.{arith}
use Rattle.iot_codec.specs.Laws.Trees.{rows_laws, rows_are_tree}
use Rattle.iot_codec.proofs.OutcomesLaws.{call_has}
use Rattle.iot_codec.proofs.trees.read_tree_rows.Goals as goal

pub returns-clause-tree : goal.returns-clause-tree
returns-clause-tree c =
    rows_are_tree c.counted_rows.result
    (call_has _ _ _ rows_laws c.args.bytes.now c.args.at c.counted_rows.result (λ i. omega (arith, c.type_inv.bytes i))
    c.counted_rows.ensures)
