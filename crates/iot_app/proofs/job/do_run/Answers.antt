use Rattle.std.proofs.Common.{List, refl, sym, subst}
use Rattle.std.specs.Io.KnownBytes.{IsAtEnd}
use Rattle.iot_io.specs.ReadAll.{Took}
use Rattle.iot_event.specs.declared.event.Event.{Event}
use Rattle.iot_app.specs.Outputs.{GivesEvents}
use Rattle.iot_app.proofs.EndingsLaws.{events_end, fault_ends}
use Rattle.iot_app.proofs.job.do_run.Goals as goal

pub returns-in-Ok-clause-ends : goal.returns-in-Ok-clause-ends
returns-in-Ok-clause-ends g c =
    events_end _ c.args.run c.do_events.result.0 c.deref.result.now
    (subst
    (λ (es : List Event). GivesEvents c.args.run (Took g.S.Source.left g.S.Source.taken c.args.source.now c.events_of.new.source)
    (IsAtEnd (g.S.Source.left c.events_of.new.source)) es)
    (sym c.deref.ensures.value) c.in-Ok.ensures.events)
    c.do_events.ensures.ends

pub returns-in-Err-clause-ends : goal.returns-in-Err-clause-ends
returns-in-Err-clause-ends g c =
    fault_ends _ c.args.run c.in-Err.fault c.refuse.result _ _ c.in-Err.ensures.none (refl {A = List g.row.D.Denot}) c.refuse.ensures
