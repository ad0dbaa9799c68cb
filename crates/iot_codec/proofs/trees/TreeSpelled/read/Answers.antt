use Rattle.iot_codec.specs.Laws.Trees.{tree_read}
use Rattle.iot_codec.proofs.trees.TreeSpelled.read.Goals as goal

pub returns : goal.returns
returns c =
    tree_read c.args.bytes.now c.args.at c.in_ok-tree.tree c.in_ok-rows.rows c.in_ok-rows.end c.in_ok-rows.ensures.exact
    c.in_ok-tree.ensures
