use Rattle.std.proofs.Common.{◌∙◌, Bool, List, refl, sym, ap}
use Rattle.std.specs.Option.{option_copied}
use Rattle.iot_queue.specs.Queues.{head_of}
use Rattle.iot_kept.specs.Kept as kept
use Rattle.iot_kept.specs.States.{State}
use Rattle.iot_client.specs.Ties.{state_of, classes_in, live_of, lives}
use Rattle.iot_client.proofs.LivesLaws.{map_some, one_second, yields_not, yields_to}
use Rattle.iot_client.proofs.TiesLaws.{carried}
use Rattle.iot_client.proofs.client.Client.yields.Goals as goal

pub returns-then-is_some-clause-live : goal.returns-then-is_some-clause-live
returns-then-is_some-clause-live g c =
    let old = c.args.self.now in
    yields_to (state_of old).items (option_copied c.head.result) c.args.number (state_of old).running (live_of old) _
    (c.head.ensures ∙ ap head_of c.queue.ensures) (map_some _ c.head.result ∙ sym c.is_some.ensures ∙ c.if-is_some.true)
    (ap (λ (classes : List Bool). lives classes old.interpreters.items) c.set_class.ensures.class
    ∙ one_second c.args.number (state_of old).running (classes_in old) old.interpreters.items)

pub returns-else-is_some-clause-live : goal.returns-else-is_some-clause-live
returns-else-is_some-clause-live g c =
    let old = c.args.self.now in
    yields_not (state_of old).items (option_copied c.head.result) c.args.number (state_of old).running (live_of old)
    (c.head.ensures ∙ ap head_of c.queue.ensures) (map_some _ c.head.result ∙ sym c.is_some.ensures ∙ c.if-is_some.false)

pub returns-then-is_some-clause-tied : goal.returns-then-is_some-clause-tied
returns-then-is_some-clause-tied g c =
    let old = c.args.self.now in
    record {
      synced = c.set_class.ensures.synced c.requires.synced;
      runs = carried (state_of old).running (kept.state_of c.set_class.new.self).running old.interpreters.items old.interpreters.items
          (ap (λ (state : State). state.running) c.set_class.ensures.state) refl c.requires.runs;
    }
