use Rattle.std.proofs.Common.{◌≡◌, ap, ◌∙◌}
use Rattle.iot_tree.specs.Tree.{Nodes, root_alone}
use Rattle.iot_tree.specs.declared.nodes.Node.TheVariants.{Dir}
use Rattle.iot_stamp.specs.Stamps.{nodes_of, with_stamps}
use Rattle.iot_stamp.proofs.StampsLaws.{nodes_with}
use Rattle.iot_store.specs.Stamps.{opening_stamps}
use Rattle.iot_store.proofs.commits.Commits.new.Goals as goal

pub returns : goal.returns
returns c =
    let stamps : c.in_ok-with_stamp.field-0 ≡ opening_stamps =
    c.in_ok-with_stamp.ensures ∙ ap (λ (t : Nodes). with_stamps (λ k. 1) t) c.in_ok-whole_root.ensures in
    let tree = ap nodes_of stamps ∙ nodes_with (λ k. 1) (root_alone Dir) in
    λ i. record { tree = tree i; labels = c.new.ensures i; stamps = stamps i }
