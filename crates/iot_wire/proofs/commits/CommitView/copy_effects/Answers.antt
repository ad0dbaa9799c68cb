use Rattle.std.proofs.Common.{◌∙◌, ap, Ok}
use Rattle.iot_wire.specs.Submissions.{Submission}
use Rattle.iot_wire.proofs.CommitsLaws.{effects_are}
use Rattle.iot_wire.proofs.commits.CommitView.copy_effects.Goals as goal

pub returns-in-Ok-clause-label : goal.returns-in-Ok-clause-label
returns-in-Ok-clause-label c =
    let copied = effects_are _ _ _ (Ok (c.in-Ok.effects, c.in-Ok.field-0-1)) c.self.invariant c.in-Ok.ensures in
    copied.0 ∙ ap (λ (s : Submission). s.0) c.self.view_is

pub returns-in-Ok-clause-updates : goal.returns-in-Ok-clause-updates
returns-in-Ok-clause-updates c =
    let copied = effects_are _ _ _ (Ok (c.in-Ok.effects, c.in-Ok.field-0-1)) c.self.invariant c.in-Ok.ensures in
    copied.1 ∙ ap (λ (s : Submission). s.1.0.updates) c.self.view_is
