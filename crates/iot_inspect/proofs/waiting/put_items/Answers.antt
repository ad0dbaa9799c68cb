use Rattle.std.proofs.Common.{[]}
use Rattle.iot_text.proofs.TextsLaws.{on_err, part_of_list}
use Rattle.iot_inspect.specs.Texts.{item_line}
use Rattle.iot_inspect.proofs.waiting.put_items.Goals as goal

pub returns-in_err-put_item-clause-err : goal.returns-in_err-put_item-clause-err
returns-in_err-put_item-clause-err c =
    on_err _
    (part_of_list (item_line c.args.client.now) c.args.items.now c.loop-item.item-index c.item-item.result [] c.args.out.now
    c.loop-item.out c.put_item.new.out c.loop-item-test.true c.item-item.is c.loop-item.invariant c.in_err-put_item.ensures.err)
