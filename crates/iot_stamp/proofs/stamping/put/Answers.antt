use Rattle.std.proofs.Common.{sym, ap, ◌∙◌, cond}
use Rattle.iot_tree.specs.Tree.{Row}
use Rattle.iot_tree.specs.Snapshots.{is_known}
use Rattle.iot_stamp.proofs.CarriedLaws.{place_none, place_more, place_all}
use Rattle.iot_stamp.proofs.stamping.put.Goals as goal

pub rows-init : goal.rows-init
rows-init c = place_none c.args.at c.args.stamp c.args.rows.now c.args.stamps.now.items

pub rows-preserved : goal.rows-preserved
rows-preserved c =
    place_more c.args.at c.args.stamp c.args.rows.now c.args.stamps.now.items c.rows.stamps.items c.rows.place c.requires c.rows.invariant
    c.rows-test.true c.index-rows-place.result c.index-rows-place.is c.stamp_of.result
    (c.stamp_of.ensures ∙ ap (λ (row : Row). cond (is_known row.1) c.args.stamp 0) (sym c.index-rows-place.is))

pub returns : goal.returns
returns c =
    place_all c.args.at c.args.stamp c.args.rows.now c.args.stamps.now.items c.rows.stamps.items c.rows.place c.requires c.rows.invariant
    c.rows-test.false c.rows.auto.place-end
