use Rattle.std.proofs.Common.{◌+◌, ◌<◌, ◌^◌, Err, Some, length, sym, subst, arith, rules}
use Rattle.iot_lines.specs.Lines.{lines}
use Rattle.iot_event.specs.Results.{closed_of, AnswersLines}
use Rattle.iot_event.specs.declared.fault.EventFault.{EventFault}
use Rattle.iot_lines.proofs.LinesLaws.{lines-length}
use Rattle.iot_event.proofs.ScriptsLaws.{fault_fits, unfit_fits, fault_found, unfit_found}
use Rattle.iot_event.proofs.script.parse_script.Goals as goal

pub first_fault-requires : goal.first_fault-requires
first_fault-requires c =
    let room : c.args.first + length (lines c.args.script.now.inside.now)
    < 2 ^ 64 = omega (arith, c.requires, lines-length c.args.script.now.inside.now) in (
      fault_fits c.in-Err.refused (lines c.args.script.now.inside.now) c.args.first c.in-Err.ensures.fault room,
      unfit_fits c.first_unfit-unfit.result (lines c.args.script.now.inside.now) c.args.script.now.closing.now c.args.first
          c.first_unfit-unfit.ensures room,
    )

pub overflow_add-result : goal.overflow_add-result
overflow_add-result c =
    let room : c.args.first + length (lines c.args.script.now.inside.now)
    < 2 ^ 64 = omega (arith, c.requires, lines-length c.args.script.now.inside.now) in
    let fits : c.args.first + c.in-Some.place
    < 2 ^ 64 =
    unfit_fits (Some c.in-Some.place) (lines c.args.script.now.inside.now) c.args.script.now.closing.now c.args.first
    c.in-Some.ensures room in
    search rules

pub returns-in-Err : goal.returns-in-Err
returns-in-Err c =
    subst (λ (fault : EventFault). AnswersLines (closed_of c.args.script.now) c.args.first (Err fault)) (sym c.first_fault.ensures)
    (fault_found (closed_of c.args.script.now) c.args.first c.first_unfit-unfit.result c.in-Err.refused c.first_unfit-unfit.ensures
    c.in-Err.ensures.fault)

pub returns-in-Some : goal.returns-in-Some
returns-in-Some c =
    unfit_found (closed_of c.args.script.now) c.args.first c.in-Some.place c.in-Ok.code c.in-Some.ensures c.in-Ok.ensures.found
