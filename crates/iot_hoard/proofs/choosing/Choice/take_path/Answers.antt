use Rattle.std.proofs.Common.{[], sym, subst}
use Rattle.iot_tree.specs.Place.{IsGap, IsRowAt}
use Rattle.iot_tree.specs.Rows.{map_of}
use Rattle.iot_tree.specs.Tree.{Path}
use Rattle.iot_tree.specs.declared.nodes.Node.TheVariants.{Dir}
use Rattle.iot_tree.proofs.RowLaws.{get_in_gap}
use Rattle.iot_hoard.specs.Choosing.{Taken, IsChoice, take_path}
use Rattle.iot_hoard.proofs.TakingLaws.{path_lacking}
use Rattle.iot_hoard.proofs.choosing.Choice.take_path.Goals as goal

pub returns-in-Ok-clause-takes : goal.returns-in-Ok-clause-takes
returns-in-Ok-clause-takes c = λ so_far is.
    let place : IsRowAt c.args.rows.now c.args.names.now c.in-Ok.at = c.in-Ok.ensures in
    subst (λ (path : Path). IsChoice c.args.rows.now (take_path (map_of c.args.rows.now) path so_far) c.take_row.new.self)
    (place.here ([], Dir)) (c.take_row.ensures.takes so_far ([], Dir) is)

pub returns-in-Err-clause-takes : goal.returns-in-Err-clause-takes
returns-in-Err-clause-takes c = λ so_far is.
    let gap : IsGap c.args.rows.now c.args.names.now c.in-Err.field-0 = c.in-Err.ensures in
    subst (λ (taken : Taken). IsChoice c.args.rows.now taken c.args.self.now)
    (sym
    (path_lacking (map_of c.args.rows.now) c.args.names.now so_far
    (get_in_gap c.args.rows.now c.requires.tree.rising c.args.names.now c.in-Err.field-0 gap)))
    is
