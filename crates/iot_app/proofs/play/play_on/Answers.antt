use Rattle.std.proofs.Common.{ℕ, List, ◌<◌, length, take, refl, ◌∙◌, subst, arith, inr}
use Rattle.std.specs.Io.KnownBytes.{Appends}
use Rattle.std.proofs.KnownBytes.{Appends-trans}
use Rattle.iot_app.proofs.PlayedLaws.{plays_none, plays_more, plays_cut, plays_all, plays_as, plays_first, plays_some, next_allowed}
use Rattle.iot_app.proofs.PlayedLaws.{Follows, follows_more, keeps_same, keeps_then}
use Rattle.iot_app.proofs.play.play_on.Goals as goal

pub events-init : goal.events-init
events-init g c =
    let it = g.D.Disk.medium in
    record {
      plays = λ handed is.
          plays_none it handed _ c.args.events.now c.args.opening.now c.args.world.now is c.requires.declared (λ first had. had);
      faults = refl;
      empties = refl;
      disks = keeps_same c.args.world.now;
    }

pub apply-requires-clause-allowed : goal.apply-requires-clause-allowed
apply-requires-clause-allowed g c =
    let it = g.D.Disk.medium in
    next_allowed it c.requires.opened.handed _ c.args.events.now c.events.world c.events.event-index c.event-item.result
    (c.events.invariant.plays c.requires.opened.handed c.requires.opened.is) c.events-test.true c.event-item.is

pub apply-requires-clause-stands : goal.apply-requires-clause-stands
apply-requires-clause-stands g c =
    let it = g.D.Disk.medium in
    plays_some it c.requires.opened.handed _ c.args.events.now c.events.world c.events.event-index
    (c.events.invariant.plays c.requires.opened.handed c.requires.opened.is)

pub returns-in-Err-apply-clause-ends : goal.returns-in-Err-apply-clause-ends
returns-in-Err-apply-clause-ends g c =
    let it = g.D.Disk.medium in
    λ handed is.
    plays_first it handed (Appends (g.K.Sink.written c.args.sink.now) (g.K.Sink.written c.events.sink))
    c.args.events.now c.events.world g.met.D.Disk.reads_is_image c.events.event-index c.event-item.result c.apply.new.self
    (plays_as it handed (Follows (g.K.Sink.written c.write_all.new.sink) c.args.opening.now (g.K.Sink.written c.events.sink))
    c.args.events.now c.events.world (Appends (g.K.Sink.written c.args.sink.now) (g.K.Sink.written c.events.sink))
    c.events.event-index
    (λ text follows. follows (g.K.Sink.written c.args.sink.now)
    (subst (Appends (g.K.Sink.written c.args.sink.now) (g.K.Sink.written c.write_all.new.sink)) c.as_bytes.ensures c.in-Ok.ensures.ok))
    (c.events.invariant.plays handed is))
    c.events-test.true c.event-item.is c.in-Err-apply.ensures.arms

pub returns-in-Err-apply-clause-disks : goal.returns-in-Err-apply-clause-disks
returns-in-Err-apply-clause-disks g c =
    keeps_then c.args.world.now c.events.world c.apply.new.self c.events.invariant.disks c.apply.ensures.disks

pub returns-in-Err-write_all-clause-ends : goal.returns-in-Err-write_all-clause-ends
returns-in-Err-write_all-clause-ends g c =
    let it = g.D.Disk.medium in
    λ handed is.
    let prefix = c.in-Err-write_all.ensures.prefix in
    let out = c.as_bytes-in-events.ensures in
    inr
    (plays_cut it handed (Appends (g.K.Sink.written c.args.sink.now) (g.K.Sink.written c.events.sink))
    c.args.events.now c.events.world c.apply.new.self c.events.event-index c.event-item.result _ c.apply.new.out
    (plays_as it handed (Follows (g.K.Sink.written c.write_all.new.sink) c.args.opening.now (g.K.Sink.written c.events.sink))
    c.args.events.now c.events.world (Appends (g.K.Sink.written c.args.sink.now) (g.K.Sink.written c.events.sink))
    c.events.event-index
    (λ text follows. follows (g.K.Sink.written c.args.sink.now)
    (subst (Appends (g.K.Sink.written c.args.sink.now) (g.K.Sink.written c.write_all.new.sink)) c.as_bytes.ensures c.in-Ok.ensures.ok))
    (c.events.invariant.plays handed is))
    c.events-test.true c.event-item.is c.in-Ok-apply.ensures.step
    (Appends (g.K.Sink.written c.args.sink.now) (g.K.Sink.written c.write_all-in-events.new.sink)) prefix.0 c.clear.ensures
    (subst (λ (t : List ℕ). prefix.0 < length t) out prefix.1)
    (λ text earlier.
    Appends-trans _ _ _ text (take prefix.0 c.apply.new.out) earlier
    (subst
    (λ (t : List ℕ). Appends (g.K.Sink.written c.events.sink) (g.K.Sink.written c.write_all-in-events.new.sink) (take prefix.0 t)) out
    prefix.2)))

pub returns-in-Err-write_all-clause-disks : goal.returns-in-Err-write_all-clause-disks
returns-in-Err-write_all-clause-disks g c =
    keeps_then c.args.world.now c.events.world c.apply.new.self c.events.invariant.disks c.apply.ensures.disks

pub events-preserved : goal.events-preserved
events-preserved g c =
    let it = g.D.Disk.medium in
    record {
      plays = λ handed is.
          plays_more it handed (Follows (g.K.Sink.written c.write_all.new.sink) c.args.opening.now (g.K.Sink.written c.events.sink))
          c.args.events.now c.events.world c.apply.new.self c.events.event-index c.event-item.result _ c.apply.new.out
          (c.events.invariant.plays handed is) c.events-test.true c.event-item.is c.in-Ok-apply.ensures.step
          (Follows (g.K.Sink.written c.write_all.new.sink) c.args.opening.now (g.K.Sink.written c.write_all-in-events.new.sink))
          c.in-Ok-apply.ensures.declared
          (follows_more _ _ _ _ _ c.apply.new.out c.clear.ensures
          (subst (Appends (g.K.Sink.written c.events.sink) (g.K.Sink.written c.write_all-in-events.new.sink)) c.as_bytes-in-events.ensures
          c.in-Ok-write_all.ensures.ok));
      faults = c.in-Ok-write_all.ensures.steady ∙ c.events.invariant.faults;
      empties = c.in-Ok-write_all.ensures.none_empty ∙ c.events.invariant.empties;
      disks = keeps_then c.args.world.now c.events.world c.apply.new.self c.events.invariant.disks c.apply.ensures.disks;
    }

pub returns-clause-ends : goal.returns-clause-ends
returns-clause-ends g c =
    let it = g.D.Disk.medium in
    λ handed is.
    plays_all it handed (Appends (g.K.Sink.written c.args.sink.now) (g.K.Sink.written c.events.sink))
    c.args.events.now c.events.world c.events.event-index (omega (arith, c.events-test.false))
    (plays_as it handed (Follows (g.K.Sink.written c.write_all.new.sink) c.args.opening.now (g.K.Sink.written c.events.sink))
    c.args.events.now c.events.world (Appends (g.K.Sink.written c.args.sink.now) (g.K.Sink.written c.events.sink))
    c.events.event-index
    (λ text follows. follows (g.K.Sink.written c.args.sink.now)
    (subst (Appends (g.K.Sink.written c.args.sink.now) (g.K.Sink.written c.write_all.new.sink)) c.as_bytes.ensures c.in-Ok.ensures.ok))
    (c.events.invariant.plays handed is))
