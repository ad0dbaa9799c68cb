use Rattle.std.proofs.Common.{◌≡◌, ℕ, ◌+◌, ◌-◌, ◌==◌, List, [], if◌then◌else◌, length, subst, ◌∙◌, arith}
use Rattle.std.specs.Io.KnownBytes.{Appends}
use Rattle.std.proofs.KnownBytes.{Appends-trans}
use Rattle.iot_journal.specs.Journal.{bodies_on, disk_of}
use Rattle.iot_app.proofs.PlayedLaws.{plays_none, plays_some, next_allowed}
use Rattle.iot_history.specs.Continuing.{HasMarked}
use Rattle.iot_history.proofs.ContinuingLaws.{SoFar, none_so_far, opening_fails, next_so_far, next_fails, some_or_none, all_written}
use Rattle.iot_history.proofs.CountsLaws.{sink_since, disk_since}
use Rattle.iot_history.proofs.MarksLaws.{marks_none, marks_more, synced_marked}
use Rattle.iot_history.proofs.playing.play_on.Goals as goal

pub returns-in-Err-clause-ends : goal.returns-in-Err-clause-ends
returns-in-Err-clause-ends g c = λ handed is.
    opening_fails g.D.Disk.medium handed c.args.old c.args.events.now
    (g.J.Disk.medium.may_leave (disk_of c.write_new.new.journal)) (bodies_on g.J.Disk.medium c.args.journal.now)
    (Appends (g.K.Sink.written c.args.sink.now) (g.K.Sink.written c.write_new.new.sink)) c.args.world.now c.args.opening.now
    c.as_bytes.result.now c.in-Err.status is c.requires.declared c.as_bytes.ensures c.in-Err.ensures.new c.in-Err.ensures.fails

pub events-init : goal.events-init
events-init g c =
    let wrote = Appends (g.K.Sink.written c.args.sink.now) (g.K.Sink.written c.write_new.new.sink) in
    record {
      plays = λ handed is.
          plays_none g.D.Disk.medium handed (SoFar handed c.args.old c.args.events.now wrote 0) c.args.events.now c.args.opening.now
          c.args.world.now is c.requires.declared
          (none_so_far handed c.args.old c.args.events.now wrote c.args.opening.now
          (subst (λ (t : List ℕ). wrote (if c.args.old == 0 then t else [])) c.as_bytes.ensures c.in-Ok.ensures.written));
      within = omega arith;
      left = c.saturating_sub-left.ensures;
      synced = c.in-Ok.ensures.synced;
      marked =
          marks_none (bodies_on g.J.Disk.medium c.args.journal.now) (bodies_on g.J.Disk.medium c.write_new.new.journal) c.args.old
          c.in-Ok.ensures.marked;
      faults = c.in-Ok.ensures.sink_faults.0;
      empties = c.in-Ok.ensures.sink_faults.1;
      disk_faults = c.in-Ok.ensures.disk_faults;
    }

pub apply-requires-clause-allowed : goal.apply-requires-clause-allowed
apply-requires-clause-allowed g c =
    next_allowed g.D.Disk.medium c.requires.opened.handed _ c.args.events.now c.events.world c.events.event-index c.event-item.result
    (c.events.invariant.plays c.requires.opened.handed c.requires.opened.is) c.events-test.true c.event-item.is

pub apply-requires-clause-stands : goal.apply-requires-clause-stands
apply-requires-clause-stands g c =
    plays_some g.D.Disk.medium c.requires.opened.handed _ c.args.events.now c.events.world c.events.event-index
    (c.events.invariant.plays c.requires.opened.handed c.requires.opened.is)

pub returns-in-Err-apply-clause-ends : goal.returns-in-Err-apply-clause-ends
returns-in-Err-apply-clause-ends g c = λ handed is.
    let medium = g.J.Disk.medium in
    let images = medium.may_leave (disk_of c.events.journal) in
    let bodies = bodies_on medium c.args.journal.now in
    some_or_none g.D.Disk.medium handed c.args.old c.args.events.now
    (Appends (g.K.Sink.written c.args.sink.now) (g.K.Sink.written c.events.sink)) c.events.world c.events.event-index
    (c.events.invariant.plays handed is) (HasMarked images bodies) c.events-test.true
    (synced_marked medium c.events.journal bodies _ c.events.invariant.synced c.events.invariant.marked)

pub returns-in-Err-write_new-clause-ends : goal.returns-in-Err-write_new-clause-ends
returns-in-Err-write_new-clause-ends g c = λ handed is.
    let medium = g.J.Disk.medium in
    let written = g.K.Sink.written in
    next_fails g.D.Disk.medium handed c.args.old c.args.events.now
    (medium.may_leave (disk_of c.write_new-in-events.new.journal)) (bodies_on medium c.args.journal.now)
    (Appends (written c.args.sink.now) (written c.events.sink)) c.events.world c.events.event-index
    (c.events.invariant.plays handed is) c.apply.new.self c.events.left c.event-item.result _ c.apply.new.out
    c.events-test.true c.event-item.is c.in-Ok-apply.ensures.step c.clear.ensures c.events.invariant.left c.in-Ok-apply.ensures.declared
    (bodies_on medium c.events.journal) c.events.invariant.marked c.in-Err-write_new.ensures.new
    (Appends (written c.args.sink.now) (written c.write_new-in-events.new.sink))
    (Appends (written c.events.sink) (written c.write_new-in-events.new.sink))
    (λ r p before now. Appends-trans _ _ _ r p before now)
    c.as_bytes-in-events.result.now c.in-Err-write_new.status c.as_bytes-in-events.ensures c.in-Err-write_new.ensures.fails

pub returns-in-Err-write_new-clause-sink_faults : goal.returns-in-Err-write_new-clause-sink_faults
returns-in-Err-write_new-clause-sink_faults g c =
    sink_since c.in-Err-write_new.status _ _ _ _ _ _ c.events.invariant.faults c.events.invariant.empties
    c.in-Err-write_new.ensures.sink_faults

pub returns-in-Err-write_new-clause-disk_faults : goal.returns-in-Err-write_new-clause-disk_faults
returns-in-Err-write_new-clause-disk_faults g c =
    disk_since c.in-Err-write_new.status _ _ _ c.events.invariant.disk_faults c.in-Err-write_new.ensures.disk_faults

pub events-preserved : goal.events-preserved
events-preserved g c =
    let medium = g.J.Disk.medium in
    let written = g.K.Sink.written in
    record {
      plays = λ handed is.
          next_so_far g.D.Disk.medium handed c.args.old c.args.events.now
          (Appends (written c.args.sink.now) (written c.events.sink)) c.events.world c.events.event-index
          (c.events.invariant.plays handed is) c.apply.new.self c.events.left c.event-item.result _ c.apply.new.out
          c.events-test.true c.event-item.is c.in-Ok-apply.ensures.step c.clear.ensures c.events.invariant.left
          c.in-Ok-apply.ensures.declared (Appends (written c.args.sink.now) (written c.write_new-in-events.new.sink))
          (λ r before.
          Appends-trans _ _ _ r (if c.events.left == 0 then c.apply.new.out else []) before
          (subst
          (λ (t : List ℕ). Appends (written c.events.sink) (written c.write_new-in-events.new.sink)
          (if c.events.left == 0 then t else [])) c.as_bytes-in-events.ensures c.in-Ok-write_new.ensures.written));
      within = omega (arith, c.events-test.true);
      left = omega (arith, c.saturating_sub-left-in-events.ensures, c.events.invariant.left);
      synced = c.in-Ok-write_new.ensures.synced;
      marked =
          marks_more (bodies_on medium c.args.journal.now) (bodies_on medium c.events.journal)
          (bodies_on medium c.write_new-in-events.new.journal) c.args.old c.events.event-index c.events.left c.events.invariant.left
          c.events.invariant.marked c.in-Ok-write_new.ensures.marked;
      faults = c.in-Ok-write_new.ensures.sink_faults.0 ∙ c.events.invariant.faults;
      empties = c.in-Ok-write_new.ensures.sink_faults.1 ∙ c.events.invariant.empties;
      disk_faults = c.in-Ok-write_new.ensures.disk_faults ∙ c.events.invariant.disk_faults;
    }

pub returns-clause-ends : goal.returns-clause-ends
returns-clause-ends g c = λ handed is.
    let medium = g.J.Disk.medium in
    let bodies = bodies_on medium c.args.journal.now in
    let whole : c.events.event-index ≡ length c.args.events.now = omega (arith, c.events-test.false, c.events.invariant.within) in (
      all_written g.D.Disk.medium handed c.args.old c.args.events.now
          (Appends (g.K.Sink.written c.args.sink.now) (g.K.Sink.written c.events.sink)) c.events.world c.events.event-index
          (c.events.invariant.plays handed is) whole,
      subst (λ (n : ℕ). HasMarked (medium.may_leave (disk_of c.events.journal)) bodies (n + 1 - c.args.old)) whole
          (synced_marked medium c.events.journal bodies _ c.events.invariant.synced c.events.invariant.marked),
    )
