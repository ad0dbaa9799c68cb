use Rattle.std.proofs.Common.{sym}
use Rattle.iot_tree.specs.Place.{IsRowAt, IsGap}
use Rattle.iot_tree.proofs.RowLaws.{find_in_gap, find_here}
use Rattle.iot_tree.proofs.places.node_at.Goals as goal

pub returns-in-Ok : goal.returns-in-Ok
returns-in-Ok c =
    let stands : IsRowAt c.args.rows.now c.args.names.now c.in-Ok.at = rw c.in-Ok.is at c.place_of.ensures in
    sym (find_here c.args.rows.now c.requires c.args.names.now c.in-Ok.at stands c.index-rows-at.result)

pub returns-in-Err : goal.returns-in-Err
returns-in-Err c =
    let gap : IsGap c.args.rows.now c.args.names.now c.in-Err.field-0 = rw c.in-Err.is at c.place_of.ensures in
    sym (find_in_gap c.args.rows.now c.requires c.args.names.now c.in-Err.field-0 gap)
