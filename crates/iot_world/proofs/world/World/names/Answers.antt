use Rattle.std.proofs.{Common.tests, lemmas.Iterator.YieldsList-from_map, lemmas.Iterator.YieldsList-from_slice}
use Rattle.{std.proofs.lemmas.Iterator.items_from_collect, iot_world.proofs.Common.Laptop, iot_world.proofs.Common.rules}
use Rattle.iot_world.proofs.world.World.names.Goals as goal

pub returns : goal.returns
returns g c =
    items_from_collect c.collect.result c.collect.ensures.ran
    (YieldsList-from_map _ (λ (laptop : Laptop _). laptop.name) (YieldsList-from_slice c.args.self.now.clients.items cc)
    c.map.ensures.closure (λ x r q k. search (rules, tests)))
