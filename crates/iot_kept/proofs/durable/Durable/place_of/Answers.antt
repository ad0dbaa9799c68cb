use Rattle.std.proofs.Common.{◌≡◌, ◌≢◌, rules, tests}
use Rattle.std.proofs.lemmas.Iterator.{IsFirst-from_position, YieldsList-from_slice}
use Rattle.iot_kept.proofs.PlaceLaws.{place_found}
use Rattle.iot_kept.proofs.durable.Durable.place_of.Goals as goal

pub returns : goal.returns
returns c = record {
  place = place_found c.args.number c.args.self.now.running.items _
      (IsFirst-from_position _ _ _ (λ it. it.tid ≡ c.args.number) (λ it. it.tid ≢ c.args.number) c.position.ensures.ran
      (YieldsList-from_slice c.args.self.now.running.items cc) (λ x q k. search (rules, tests)) (λ x q k. search (rules, tests)));
}
