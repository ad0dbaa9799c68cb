use Rattle.std.proofs.Common.{[], ◌∷◌, ◌++◌, ◌+◌, sym, ap, ◌∙◌}
use Rattle.iot_exec.specs.declared.position.Open.{Open}
use Rattle.iot_exec.specs.Positions.{round_it, here, around, weight, role_weight}
use Rattle.iot_exec.proofs.PositionLaws.{left_around_is, left_weight_is}
use Rattle.iot_exec.proofs.position.Position.leave.Goals as goal

pub returns-in-Some-clause-left : goal.returns-in-Some-clause-left
returns-in-Some-clause-left c = λ script.
    left_around_is c.args.self.now.outer.items c.replace.new.dest c.args.self.now.here c.pop.new.self.items
    (c.in-Some.ensures.items ∙ ap (λ (opened : Open). c.pop.new.self.items ++ opened ∷ []) (sym c.replace.ensures.after)) script
    ∙ ap
    (λ (opened : Open). round_it (here script record { outer = c.pop.new.self; here = c.replace.new.dest }) opened.role
    ++ around script record { outer = c.pop.new.self; here = c.replace.new.dest })
    (sym c.replace.ensures.value)

pub returns-in-Some-clause-weight : goal.returns-in-Some-clause-weight
returns-in-Some-clause-weight c =
    left_weight_is c.args.self.now.outer.items c.replace.new.dest c.args.self.now.here c.pop.new.self.items
    (c.in-Some.ensures.items ∙ ap (λ (opened : Open). c.pop.new.self.items ++ opened ∷ []) (sym c.replace.ensures.after))
    ∙ ap (λ (opened : Open). weight record { outer = c.pop.new.self; here = c.replace.new.dest } + role_weight opened.role)
    (sym c.replace.ensures.value)
