use Rattle.std.proofs.Common.{rules, tests}
use Rattle.std.proofs.lemmas.Iterator.{items_from_collect, YieldsList-from_map, YieldsList-from_slice}
use Rattle.iot_queue.specs.declared.items.Item.{Item}
use Rattle.iot_kept.proofs.checks.item_numbers.Goals as goal

pub returns : goal.returns
returns c =
    items_from_collect c.collect.result c.collect.ensures.ran
    (YieldsList-from_map _ (λ (it : Item). it.tid) (YieldsList-from_slice c.args.items.now cc) c.map.ensures.closure
    (λ x r q k. search (rules, tests)))
