use Rattle.std.proofs.Common.{◌≤◌, List, length, ◌∙◌, subst, arith}
use Rattle.std.proofs.lemmas.List.{drop_all}
use Rattle.iot_disk.specs.Unsynced.{Hold}
use Rattle.iot_disk.specs.declared.unsynced.Span.{Span}
use Rattle.iot_disk.proofs.UnsyncedLaws.{none_left, all_clear, alike_all}
use Rattle.iot_disk.proofs.unsynced.sync_spans.Goals as goal

pub returns-clause-marks : goal.returns-clause-marks
returns-clause-marks c =
    let synced = c.sync_span-2.ensures in
    let past : length c.args.spans.now ≤ c.loop-span.span-index = omega arith in
    let gone = drop_all c.loop-span.span-index c.args.spans.now past in
    let hold = subst (λ (l : List Span). Hold l c.args.rest c.loop-span.marks) gone c.loop-span.invariant.hold in
    all_clear _ _ (synced.marks.length ∙ c.loop-span.invariant.marks) (none_left _ _ _ hold synced.marks)

pub returns-clause-synced : goal.returns-clause-synced
returns-clause-synced c =
    let synced = c.sync_span-2.ensures in
    let past : length c.args.spans.now ≤ c.loop-span.span-index = omega arith in
    let gone = drop_all c.loop-span.span-index c.args.spans.now past in
    let hold = subst (λ (l : List Span). Hold l c.args.rest c.loop-span.marks) gone c.loop-span.invariant.hold in
    let none = none_left _ _ _ hold synced.marks in
    alike_all _ _ _ (omega (arith, synced.synced, synced.marks.length)) (omega (arith, synced.marks.length)) synced.alike none
