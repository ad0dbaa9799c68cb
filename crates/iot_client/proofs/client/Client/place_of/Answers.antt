use Rattle.std.proofs.Common.{◌≡◌, ◌≢◌, rules, tests}
use Rattle.std.proofs.lemmas.Iterator.{IsFirst-from_position, YieldsList-from_slice}
use Rattle.iot_client.specs.Ties.{state_of}
use Rattle.iot_client.proofs.PlaceLaws.{place_found}
use Rattle.iot_client.proofs.client.Client.place_of.Goals as goal

pub returns : goal.returns
returns g c =
    place_found c.args.number c.running.result.now (state_of c.args.self.now).running _ c.running.ensures.running
    (IsFirst-from_position _ _ _ (λ it. it.tid ≡ c.args.number) (λ it. it.tid ≢ c.args.number) c.position.ensures.ran
    (YieldsList-from_slice c.running.result.now cc) (λ x q k. search (rules, tests)) (λ x q k. search (rules, tests)))
