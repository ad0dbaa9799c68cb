use Rattle.std.proofs.Common.{◌∙◌, List, ℕ, sym, subst}
use Rattle.std.specs.Io.KnownBytes.{Appends}
use Rattle.iot_store.specs.Images.{IsRefusal}
use Rattle.iot_app.specs.Images.{Says}
use Rattle.iot_app.specs.Job.{TextEnds, shows, damaged}
use Rattle.iot_app.specs.declared.status.Status.TheVariants.{Refused}
use Rattle.iot_app.proofs.image.show_bytes.Goals as goal

pub returns-in-Ok : goal.returns-in-Ok
returns-in-Ok g c =
    shows c.deref.result.now (subst (Says c.args.telling c.args.bytes.now) (sym c.deref.ensures.value) c.in-Ok.ensures.says)
    c.write_text.ensures

pub returns-in-Ok-damaged_line : goal.returns-in-Ok-damaged_line
returns-in-Ok-damaged_line g c =
    let sink = c.write_text-in-Ok-damaged_line.new.sink in
    damaged c.in-Err-Damaged.at (subst (IsRefusal c.args.bytes.now) c.in-Err-Damaged.field-0-is c.in-Err-Damaged.ensures.cause)
    (subst
    (λ (text : List ℕ). TextEnds Refused text c.write_text-in-Ok-damaged_line.result
    (Appends (g.K.Sink.written c.args.sink.now) (g.K.Sink.written sink))
    (record { before = g.K.Sink.faults c.args.sink.now; after = g.K.Sink.faults sink })
    (record { before = g.K.Sink.empties c.args.sink.now; after = g.K.Sink.empties sink }))
    (c.as_bytes.ensures ∙ c.in-Ok-damaged_line.ensures) c.write_text-in-Ok-damaged_line.ensures)
