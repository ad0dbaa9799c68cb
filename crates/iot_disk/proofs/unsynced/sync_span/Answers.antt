use Rattle.std.proofs.Common.{◌≡◌, ℕ, ◌-◌, replicate, drop, false, ◌∙◌, ap, arith, length-take, length-drop}
use Rattle.iot_disk.proofs.UnsyncedLaws.{clears, alike_after}
use Rattle.iot_disk.proofs.unsynced.sync_span.Goals as goal

pub returns-clause-alike : goal.returns-clause-alike
returns-clause-alike c =
    let marks = c.args.marks.now in
    let a = c.min-start.result in
    let e = c.min-end.result in
    let none : c.fill.new.self ≡ replicate (e - a) false =
    c.fill.ensures.after (λ y h. h)
    ∙ ap (λ (n : ℕ). replicate n false) (omega (arith, length-take (e - a) (drop a marks), length-drop a marks)) in
    let given = c.requires in
    alike_after _ _ a e (omega arith) (omega arith) none _ _ _ given.synced given.written c.copy_from_slice.ensures.after given.alike

pub returns-clause-marks : goal.returns-clause-marks
returns-clause-marks c =
    let marks = c.args.marks.now in
    let a = c.min-start.result in
    let e = c.min-end.result in
    let none : c.fill.new.self ≡ replicate (e - a) false =
    c.fill.ensures.after (λ y h. h)
    ∙ ap (λ (n : ℕ). replicate n false) (omega (arith, length-take (e - a) (drop a marks), length-drop a marks)) in
    clears marks c.fill.new.self a e (omega arith) (omega arith) none c.args.span (omega arith) (omega arith)
