use Rattle.std.proofs.Common.{length}
use Rattle.iot_codec.specs.Spelling.{number_spelling}
use Rattle.iot_text.proofs.TextsLaws.{on_err, part_of_list}
use Rattle.iot_codec.proofs.lists.put_list.Goals as goal

pub returns-in_err-put-2-clause-err : goal.returns-in_err-put-2-clause-err
returns-in_err-put-2-clause-err g c =
    on_err _
    (part_of_list g.T.Spelled.spelling c.args.items.now c.items.item-index c.item-item.result
    (number_spelling (length c.args.items.now)) c.args.out.now c.items.out c.put-in-items.new.out
    c.items-test.true c.item-item.is c.items.invariant c.in_err-put-2.ensures.err)
