use Rattle.iot_stamp.proofs.LiningLaws.{made_more, made_all}
use Rattle.iot_stamp.proofs.stamping.all_stamps.Goals as goal

pub rows-init : goal.rows-init
rows-init c = record { is = c.in_ok-stamps.ensures.items }

pub rows-preserved : goal.rows-preserved
rows-preserved c =
    made_more (λ k. c.args.stamp) c.args.rows.now c.rows.stamps.items c.push.new.self.items c.rows.row-index c.row-item.result
    c.stamp_of.result c.rows-test.true c.row-item.is c.stamp_of.ensures c.rows.invariant c.in_ok-push.ensures.items

pub returns : goal.returns
returns c =
    made_all (λ k. c.args.stamp) c.args.rows.now c.rows.stamps.items c.rows.row-index c.rows-test.false c.rows.auto.row-index-end
    c.rows.invariant
