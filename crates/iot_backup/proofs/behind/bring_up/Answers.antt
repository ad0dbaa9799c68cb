use Rattle.std.proofs.Common.{◌≡◌, ℕ, List, length, sym, ◌∙◌, ap, subst}
use Rattle.iot_slots.specs.Due.{EachTakes, due_on}
use Rattle.iot_slots.specs.Slots.{disk_of, header_of, count_of, state_on, appended, EachEncodesEither}
use Rattle.iot_backup.specs.Start.{last_of}
use Rattle.iot_backup.proofs.BehindLaws.{each_brought, on_ok, with_more}
use Rattle.iot_backup.proofs.PairsLaws.{synced_due}
use Rattle.iot_backup.proofs.behind.bring_up.Goals as goal

pub append-requires-clause-not_due : goal.append-requires-clause-not_due
append-requires-clause-not_due g c =
    let last = c.last_body.ensures in
    let differ = λ (same : c.args.count ≡ count_of c.args.slots.now). c.if-count.false (c.count.ensures ∙ sym same) in
    sym (synced_due g.D.Disk.medium c.args.slots.now c.requires.synced (length c.last_body.result.now))
    ∙ ap (λ (body : List ℕ). due_on (header_of c.args.slots.now) (g.D.Disk.medium.reads (disk_of c.args.slots.now)) (length body)) last
    ∙ c.requires.not_due differ

pub returns-clause-images : goal.returns-clause-images
returns-clause-images g c =
    let last = c.last_body.ensures in
    let differ = λ (same : c.args.count ≡ count_of c.args.slots.now). c.if-count.false (c.count.ensures ∙ sym same) in
    let s = state_on g.D.Disk.medium c.args.slots.now in
    each_brought _ _ s _ _ _ differ
    (subst (λ (body : List ℕ). EachEncodesEither (header_of c.args.slots.now) (g.D.Disk.medium.may_leave (disk_of c.append.new.self)) s
    (appended s body)) last c.append.ensures.images)

pub returns-clause-takes : goal.returns-clause-takes
returns-clause-takes g c differ =
    subst (λ (body : List ℕ). EachTakes (header_of c.args.slots.now) (g.D.Disk.medium.may_leave (disk_of c.append.new.self))
    (state_on g.D.Disk.medium c.args.slots.now) (length body)) c.last_body.ensures c.append.ensures.takes

pub returns-clause-state : goal.returns-clause-state
returns-clause-state g c =
    let last = c.last_body.ensures in
    let differ = λ (same : c.args.count ≡ count_of c.args.slots.now). c.if-count.false (c.count.ensures ∙ sym same) in
    let s = state_on g.D.Disk.medium c.args.slots.now in
    on_ok c.append.result (λ (is : state_on g.D.Disk.medium c.append.new.self ≡ appended s c.last_body.result.now).
    is ∙ ap (appended s) last ∙ sym (with_more c.args.count (count_of c.args.slots.now) (last_of c.args.bodies.now) s differ))
    c.append.ensures.state
