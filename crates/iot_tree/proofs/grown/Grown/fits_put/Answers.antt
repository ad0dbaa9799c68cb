use Rattle.std.proofs.Common.{◌≡◌, sym, Some}
use Rattle.std.specs.FinMap.{get}
use Rattle.iot_tree.proofs.FitsLaws.{fits_here, is_no_dir}
use Rattle.iot_tree.proofs.grown.Grown.fits_put.Goals as goal

pub returns-in-Some : goal.returns-in-Some
returns-in-Some c =
    let here : get c.args.self.now c.args.path.now ≡ Some c.in-Some.node.now =
    sym (rw (c.in-Some.is, c.names.ensures.value) at c.node.ensures) in
    rw (c.is_dir.ensures) (
      λ free. fits_here c.args.self.now c.rows-tree.ensures.tree c.args.path.now c.in-Some.node.now here free,
      λ fits. is_no_dir c.args.self.now c.args.path.now c.in-Some.node.now here fits,
    )
