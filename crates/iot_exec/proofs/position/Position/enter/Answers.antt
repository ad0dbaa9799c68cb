use Rattle.std.proofs.Common.{[], ◌∷◌, ◌++◌, ap, ◌∙◌}
use Rattle.iot_exec.specs.declared.position.Open.{Open}
use Rattle.iot_exec.specs.Positions.{all_open}
use Rattle.iot_exec.proofs.PositionLaws.{entered_here, entered_around, entered_weight}
use Rattle.iot_exec.proofs.position.Position.enter.Goals as goal

pub returns-clause-here : goal.returns-clause-here
returns-clause-here c =
    entered_here c.push.new.self.items (all_open c.args.self.now) c.replace-outer.new.dest c.args.role
    (c.in_ok-push.ensures.items ∙ ap (λ (opened : Open). c.args.self.now.outer.items ++ opened ∷ []) c.replace-outer.ensures.value)
    c.replace-outer.ensures.after

pub returns-clause-around : goal.returns-clause-around
returns-clause-around c = λ script.
    entered_around script c.push.new.self.items c.args.self.now.outer.items c.args.self.now.here c.replace-outer.new.dest c.args.role
    (c.in_ok-push.ensures.items ∙ ap (λ (opened : Open). c.args.self.now.outer.items ++ opened ∷ []) c.replace-outer.ensures.value)
    c.replace-outer.ensures.after

pub returns-clause-weight : goal.returns-clause-weight
returns-clause-weight c =
    entered_weight c.push.new.self.items (all_open c.args.self.now) c.replace-outer.new.dest c.args.role
    (c.in_ok-push.ensures.items ∙ ap (λ (opened : Open). c.args.self.now.outer.items ++ opened ∷ []) c.replace-outer.ensures.value)
    c.replace-outer.ensures.after
