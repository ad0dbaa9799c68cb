use Rattle.std.proofs.Common.{◌∙◌, length, refl, sym, ap, subst}
use Rattle.iot_kept.specs.Kept as kept
use Rattle.iot_kept.specs.States.{State}
use Rattle.iot_client.specs.Ties.{AreBegun, state_of, classes_in, live_of}
use Rattle.iot_client.proofs.LivesLaws.{all_second, begun_second}
use Rattle.iot_client.proofs.PlaceLaws.{count_is}
use Rattle.iot_client.proofs.TiesLaws.{carried}
use Rattle.iot_client.proofs.client.Client.second.Goals as goal

pub returns-clause-live : goal.returns-clause-live
returns-clause-live g c =
    let old = c.args.self.now in
    let new = c.all_second.new.self in
    all_second (kept.classes_in new) (classes_in old) old.interpreters.items
    (count_is (record old { kept = new })
    ∙ ap (λ (state : State). length state.running) c.all_second.ensures.state ∙ sym (count_is old))
    c.all_second.ensures.class

pub returns-clause-begun : goal.returns-clause-begun
returns-clause-begun g c = λ begun.
    let old = c.args.self.now in
    let new = c.all_second.new.self in
    subst AreBegun
    (sym
    (all_second (kept.classes_in new) (classes_in old) old.interpreters.items
    (count_is (record old { kept = new })
    ∙ ap (λ (state : State). length state.running) c.all_second.ensures.state ∙ sym (count_is old))
    c.all_second.ensures.class))
    (begun_second (live_of old) begun)

pub returns-clause-tied : goal.returns-clause-tied
returns-clause-tied g c =
    let old = c.args.self.now in
    let new = c.all_second.new.self in
    record {
      synced = c.all_second.ensures.synced c.requires.synced;
      runs = carried (state_of old).running (kept.state_of new).running old.interpreters.items old.interpreters.items
          (ap (λ (state : State). state.running) c.all_second.ensures.state) refl c.requires.runs;
    }
