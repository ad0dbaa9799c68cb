use Rattle.{std.specs.Prelude.OnErr, iot_text.proofs.TextsLaws.extends_by}
use Rattle.iot_world.proofs.Common.{Err, Extends, List, Ok, OnOk, Result, on_ok_weaker, rules, ℕ, [], ◌++◌, ◌≡◌}
use Rattle.iot_world.proofs.WorldsLaws.{behind, event_steps, steps_some}
use Rattle.iot_world.proofs.world.World.apply.Goals as goal

pub returns-then-is_empty-clause-stands : goal.returns-then-is_empty-clause-stands
returns-then-is_empty-clause-stands g c = on_ok_weaker _ (steps_some c.args.event.now c.requires.stands) c.act.ensures.step

pub returns-then-arms-clause-stands : goal.returns-then-arms-clause-stands
returns-then-arms-clause-stands g c = on_ok_weaker _ (steps_some c.args.event.now c.requires.stands) c.act-then-arms.ensures.step

pub returns-clause-step : goal.returns-clause-step
returns-clause-step g c =
    on_ok_weaker c.append_text.result
    (λ wrote. event_steps c.args.event.now (behind c.args.out.now _ _ wrote (rw c.new-said.ensures at c.in_ok-act.ensures.step)))
    c.append_text.ensures.ok

pub returns-clause-decided : goal.returns-clause-decided
returns-clause-decided g c =
    on_ok_weaker c.append_text.result
    (λ wrote. record { text = c.act-2.new.out; wrote = wrote; decides = rw (← c.new-said.ensures) c.in_ok-act.ensures.decided })
    c.append_text.ensures.ok

extends_if : {T E : Type 0} (result : Result T E) (old new more : List ℕ) → OnOk result (new ≡ old ++ more) → OnErr result (new ≡ old)
    → Extends old new
extends_if (Ok t) old new more is same = extends_by old new more is
extends_if (Err e) old new more is same = extends_by old new [] (search (rules, same))

pub returns-clause-text : goal.returns-clause-text
returns-clause-text g c = extends_if c.append_text.result _ _ _ c.append_text.ensures.ok c.append_text.ensures.err
