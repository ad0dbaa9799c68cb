use Rattle.std.proofs.Common.{◌≤◌, ℕ, List, sym, subst}
use Rattle.std.specs.Io.KnownBytes.{Appends, IsAtEnd}
use Rattle.iot_count.specs.Counts.{Counted}
use Rattle.iot_io.specs.ReadAll.{Took}
use Rattle.iot_app.specs.Audits.{TookAll}
use Rattle.iot_app.specs.Job.{RefusalEnds}
use Rattle.iot_app.specs.declared.audit.TheConstants.{AUDIT_LIMIT}
use Rattle.iot_app.specs.declared.input.InputFault.{InputFault}
use Rattle.iot_app.proofs.AuditsLaws.{input_told, read_told}
use Rattle.iot_app.proofs.audit.audit_source.Goals as goal

pub returns-in-Ok-clause-audited : goal.returns-in-Ok-clause-audited
returns-in-Ok-clause-audited g c =
    let took = Took g.S.Source.left g.S.Source.taken c.args.source.now c.read_all.new.source in
    let at_end = IsAtEnd (g.S.Source.left c.read_all.new.source) in
    let given : TookAll took at_end c.deref.result.now = record {
      taken = subst took (sym c.deref.ensures.value) c.in-Ok.ensures.took;
      whole = c.in-Ok.ensures.end;
    } in
    input_told took at_end _ _ _ c.deref.result.now c.audit_input.result given
    (subst (λ (n : ℕ). n ≤ AUDIT_LIMIT) (sym c.deref.ensures.len) c.in-Ok.ensures.within) c.audit_input.ensures

pub returns-in-Err-clause-audited : goal.returns-in-Err-clause-audited
returns-in-Err-clause-audited g c =
    let took = Took g.S.Source.left g.S.Source.taken c.args.source.now c.read_all.new.source in
    let at_end = IsAtEnd (g.S.Source.left c.read_all.new.source) in
    let prefix = c.in-Err.ensures.prefix in
    let faults : Counted = record { before = g.K.Sink.faults c.args.sink.now; after = g.K.Sink.faults c.refuse.new.sink } in
    let empties : Counted = record { before = g.K.Sink.empties c.args.sink.now; after = g.K.Sink.empties c.refuse.new.sink } in
    let wrote : List ℕ → Type 0 = Appends (g.K.Sink.written c.args.sink.now) (g.K.Sink.written c.refuse.new.sink) in
    read_told took at_end wrote faults empties c.in-Err.fault prefix.0 c.refuse.result prefix.1 prefix.2
    (subst (λ (fault : InputFault). RefusalEnds fault c.refuse.result wrote faults empties) c.from.ensures c.refuse.ensures)
