use Rattle.std.proofs.Common.{◌+◌, ◌-◌, ◌^◌, ◌∙◌, ℕ, Option, length, min, ap, arith}
use Rattle.std.specs.FinMap.{get}
use Rattle.iot_tree.specs.declared.nodes.Node.{Node}
use Rattle.iot_hoard.specs.Sizes.{bytes_in}
use Rattle.iot_hoard.proofs.SizeLaws.{size_more}
use Rattle.iot_hoard.proofs.sizes.size_of.Goals as goal

pub paths-preserved : goal.paths-preserved
paths-preserved c =
    let is = rw c.as_slice-path-items.ensures at c.path-item.is in
    let node = c.node.ensures ∙ ap (get c.args.s.now) c.names.ensures.value in
    let weighs = c.weight.ensures ∙ ap (λ (o : Option Node). 64 + bytes_in o) node in
    size_more c.args.s.now c.args.k.now c.paths.path-index c.path-item.result c.paths.size c.saturating_add-size.result
    (omega (arith, c.paths-test.true, ap length c.as_slice-path-items.ensures)) is c.paths.invariant
    (c.saturating_add-size.ensures ∙ ap (λ (w : ℕ). min (c.paths.size + w) (2 ^ 64 - 1)) weighs)
