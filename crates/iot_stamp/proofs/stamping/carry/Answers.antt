use Rattle.std.proofs.Common.{length, arith}
use Rattle.iot_stamp.specs.Lining.{stamps_by}
use Rattle.iot_stamp.proofs.CarriedLaws.{carried, stamps_len}
use Rattle.iot_stamp.proofs.stamping.carry.Goals as goal

pub returns : goal.returns
returns c =
    carried c.args.stamps.now.items c.rotate.new.stamps.items c.take_out.new.stamps.items c.rotate-2.new.stamps.items c.put.new.stamps.items
    (stamps_by (λ k. c.args.stamp) c.args.rows.now) c.args.at c.args.to (length c.args.rows.now) c.args.goes
    (stamps_len (λ k. c.args.stamp) c.args.rows.now) c.rotate.ensures.rotated c.take_out.ensures.taken
    (λ a b d whole from long. c.rotate-2.ensures.rotated a b d whole from (omega (arith, long, c.len.ensures, c.take_out.new.stamps.ok)))
    c.put.ensures
