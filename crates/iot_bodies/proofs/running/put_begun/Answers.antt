use Rattle.std.proofs.Common.{refl}
use Rattle.iot_text.proofs.TextsLaws.{on_err, part_after}
use Rattle.iot_bodies.proofs.running.put_begun.Goals as goal

pub returns-in_err-put-2-clause-err : goal.returns-in_err-put-2-clause-err
returns-in_err-put-2-clause-err c =
    on_err _
    (part_after c.args.out.now c.put.new.out c.put-2.new.out _ _ _ _ c.in_ok-put.ensures.ok c.in_err-put-2.ensures.err refl)
