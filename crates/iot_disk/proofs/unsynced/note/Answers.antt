use Rattle.std.proofs.Common.{List, sym, subst}
use Rattle.iot_disk.specs.Unsynced.{TakeIn}
use Rattle.iot_disk.specs.declared.unsynced.Span.{Span}
use Rattle.iot_disk.proofs.UnsyncedLaws.{pushed, widened}
use Rattle.iot_disk.proofs.unsynced.note.Goals as goal

pub returns-in-Ok : goal.returns-in-Ok
returns-in-Ok c =
    let span = c.args.span in
    let spans = c.args.spans.now.items in
    let rest = c.args.rest.now in
    subst (λ (l : List Span). TakeIn span spans rest l rest) (sym c.in-Ok.ensures.items) (pushed span rest spans)

pub returns-in-Err : goal.returns-in-Err
returns-in-Err c =
    let span = c.args.span in
    let spans = c.args.spans.now.items in
    let wider = c.joined.result in
    let taken = widened span c.args.rest.now wider spans c.joined.ensures.one c.joined.ensures.other in
    subst (λ (l : List Span). TakeIn span spans c.args.rest.now l wider) (sym c.in-Err.ensures.items) taken
