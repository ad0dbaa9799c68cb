use Rattle.std.proofs.Common.{◌∙◌, List, ℕ, subst}
use Rattle.std.specs.Io.KnownBytes.{Appends}
use Rattle.iot_app.specs.Auditing.{tells, refuses}
use Rattle.iot_app.specs.Job.{TextEnds}
use Rattle.iot_app.specs.declared.status.Status.TheVariants.{Done}
use Rattle.iot_app.proofs.audit.audit_input.Goals as goal

pub returns-in-Ok-audited_line : goal.returns-in-Ok-audited_line
returns-in-Ok-audited_line g c =
    let sink = c.write_text.new.sink in
    tells c.in-Ok.number c.in-Ok.ensures.passes
    (subst
    (λ (text : List ℕ). TextEnds Done text c.write_text.result
    (Appends (g.K.Sink.written c.args.sink.now) (g.K.Sink.written sink))
    (record { before = g.K.Sink.faults c.args.sink.now; after = g.K.Sink.faults sink })
    (record { before = g.K.Sink.empties c.args.sink.now; after = g.K.Sink.empties sink }))
    (c.as_bytes.ensures ∙ c.in-Ok-audited_line.ensures) c.write_text.ensures)

pub returns-in-Err : goal.returns-in-Err
returns-in-Err g c = refuses c.in-Err.refusal c.in-Err.ensures.refused c.refuse_audit.ensures
