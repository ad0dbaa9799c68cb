use Rattle.std.proofs.Common.{rules, tests}
use Rattle.std.proofs.lemmas.Iterator.{items_from_collect, YieldsList-from_map, YieldsList-from_slice}
use Rattle.iot_kept.specs.declared.running.Running.{Running}
use Rattle.iot_kept.proofs.checks.run_numbers.Goals as goal

pub returns : goal.returns
returns c =
    items_from_collect c.collect.result c.collect.ensures.ran
    (YieldsList-from_map _ (λ (it : Running). it.tid) (YieldsList-from_slice c.args.running.now cc) c.map.ensures.closure
    (λ x r q k. search (rules, tests)))
