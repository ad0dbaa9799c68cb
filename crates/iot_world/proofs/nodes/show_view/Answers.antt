use Rattle.iot_machine.specs.Texts.{tree_text}
use Rattle.iot_world.proofs.Common.{ap, awake_stands, false, node_is, on_ok_weaker, refl, sym, true, ◌∙◌}
use Rattle.iot_world.proofs.LookingLaws.{shown_by}
use Rattle.iot_world.proofs.nodes.show_view.Goals as goal

pub returns-then-is_alive : goal.returns-then-is_alive
returns-then-is_alive g c = on_ok_weaker c.show.result (λ wrote scripts. shown_by _ c.args.laptop.now _ _ true _ wrote scripts (λ m here.
    let there = awake_stands _ scripts c.args.laptop.now m (sym c.is_alive.ensures ∙ c.if-is_alive.true) here in
    (sym there.alive, (ap tree_text (c.view.ensures scripts m there), refl)))) c.show.ensures.ok

pub returns : goal.returns
returns g c = on_ok_weaker c.say.result (λ wrote scripts. shown_by _ c.args.laptop.now _ _ false _ wrote scripts (λ m here.
    (sym (node_is _ c.args.laptop.now m here.node ∙ sym c.is_alive.ensures ∙ c.if-is_alive.false), (refl, refl))))
    c.say.ensures
