use Rattle.std.proofs.Common.{◌≡◌, ◌∙◌, sym, ap, subst}
use Rattle.std.specs.List.{AllByRecursion}
use Rattle.iot_stamp.specs.Stamps.{nodes_of}
use Rattle.iot_kept.specs.Bodies.{IsState}
use Rattle.iot_kept.specs.Memory.{transactions, StandsOn}
use Rattle.iot_kept.specs.States.{State, opening, view}
use Rattle.iot_kept.proofs.ChangedLaws.{opening_state}
use Rattle.iot_kept.proofs.memory.Memory.new.Goals as goal

pub returns-clause-sound : goal.returns-clause-sound
returns-clause-sound c =
    let is : record {
      held = nodes_of c.in_ok-new.field-0;
      items = c.new-2.result;
      running = transactions c.new-3.result.items;
      last = 0;
      access = c.of_nothing.result;
    } ≡ opening =
    (λ i. record {
      held = c.in_ok-new.ensures.nodes i;
      items = c.new-2.ensures i;
      running = transactions (c.new-3.ensures.items i);
      last = 0;
      access = c.of_nothing.ensures i;
    }) in
    record {
      state = subst IsState (sym is) opening_state;
      sees = record {
        view = c.in_ok-view.ensures ∙ sym (ap (λ (s : State). view s) is);
        running = subst (AllByRecursion (StandsOn c.in_ok-view.view)) (sym c.new-3.ensures.items) tt;
      };
    }
