use Rattle.std.proofs.Common.{◌≡◌, ℕ, ◌+◌, List, ◌++◌, subst, arith}
use Rattle.std.proofs.lemmas.Result.{IfOk-weaker}
use Rattle.iot_app.specs.Counting.{plus, HasCounted}
use Rattle.iot_app.specs.Summary.{tally_of}
use Rattle.iot_app.proofs.CountingLaws.{none_counted, more_said, all_counted}
use Rattle.iot_app.proofs.PlayedLaws.{plays_none, plays_more, plays_failed, plays_ended, plays_some, next_allowed, keeps_same, keeps_then}
use Rattle.iot_app.proofs.RunningLaws.{ran_in, any_err}
use Rattle.iot_app.proofs.running.do_all.Goals as goal

pub events-init : goal.events-init
events-init g c =
    let it = g.D.Disk.medium in
    record {
      plays = λ handed is.
          plays_none it handed _ c.args.events.now c.args.opening c.args.world.now is c.requires.declared
          (none_counted c.new-counts.result c.args.opening c.new-counts.ensures);
      disks = keeps_same c.args.world.now;
    }

pub apply-requires-clause-allowed : goal.apply-requires-clause-allowed
apply-requires-clause-allowed g c =
    let it = g.D.Disk.medium in
    next_allowed it c.requires.opened.handed _ c.args.events.now c.events.world c.events.event-index c.event-item.result
    (c.events.invariant.plays c.requires.opened.handed c.requires.opened.is) c.events-test.true c.event-item.is

pub apply-requires-clause-stands : goal.apply-requires-clause-stands
apply-requires-clause-stands g c =
    let it = g.D.Disk.medium in
    plays_some it c.requires.opened.handed _ c.args.events.now c.events.world c.events.event-index
    (c.events.invariant.plays c.requires.opened.handed c.requires.opened.is)

pub events-preserved : goal.events-preserved
events-preserved g c =
    let it = g.D.Disk.medium in
    record {
      plays = λ handed is.
          plays_more it handed (HasCounted c.events.counts c.events.text) c.args.events.now c.events.world
          c.apply.new.self c.events.event-index c.event-item.result c.events.text c.apply.new.out (c.events.invariant.plays handed is)
          c.events-test.true c.event-item.is c.in_ok-apply.ensures.step (HasCounted c.take_lines.new.self c.take_lines.new.text)
          c.in_ok-apply.ensures.declared
          (λ text says is had.
          c.in_ok-take_lines.ensures.means (text ++ says) (more_said c.events.counts c.events.text c.apply.new.out text says is had));
      disks = keeps_then c.args.world.now c.events.world c.apply.new.self c.events.invariant.disks c.apply.ensures.disks;
    }

pub returns-clause-ran : goal.returns-clause-ran
returns-clause-ran g c =
    let it = g.D.Disk.medium in
    IfOk-weaker c.with_text.result _ _
    (λ last sum handed is.
    ran_in it handed c.args.events.now c.events.world c.events.counts last c.events.text
    c.events.event-index (c.events.invariant.plays handed is) (omega (arith, c.events-test.false))
    (λ transcript had.
    all_counted c.events.counts last c.events.text transcript
    (subst (λ (t : List ℕ). last ≡ plus c.events.counts (tally_of t)) c.as_bytes.ensures sum) had))
    c.with_text.ensures

pub returns-clause-failed : goal.returns-clause-failed
returns-clause-failed g c =
    let it = g.D.Disk.medium in
    any_err c.with_text.result _
    (λ handed is.
    plays_ended it handed _ c.args.events.now c.events.world g.met.D.Disk.reads_is_image c.events.event-index
    (c.events.invariant.plays handed is))

pub returns-in_err-apply-clause-failed : goal.returns-in_err-apply-clause-failed
returns-in_err-apply-clause-failed g c =
    let it = g.D.Disk.medium in
    any_err c.from_residual.result _
    (λ handed is.
    plays_failed it handed _ c.args.events.now c.events.world g.met.D.Disk.reads_is_image c.events.event-index c.event-item.result
    c.apply.new.self
    (c.events.invariant.plays handed is) c.events-test.true c.event-item.is c.in_err-apply.ensures.arms)

pub returns-in_err-apply-clause-disks : goal.returns-in_err-apply-clause-disks
returns-in_err-apply-clause-disks g c =
    keeps_then c.args.world.now c.events.world c.apply.new.self c.events.invariant.disks c.apply.ensures.disks

pub returns-in_err-take_lines-clause-failed : goal.returns-in_err-take_lines-clause-failed
returns-in_err-take_lines-clause-failed g c =
    let it = g.D.Disk.medium in
    any_err c.from_residual-in_err-take_lines.result _
    (λ handed is.
    plays_ended it handed _ c.args.events.now c.apply.new.self g.met.D.Disk.reads_is_image (c.events.event-index + 1)
    (plays_more it handed (HasCounted c.events.counts c.events.text) c.args.events.now c.events.world
    c.apply.new.self c.events.event-index c.event-item.result c.events.text c.apply.new.out (c.events.invariant.plays handed is)
    c.events-test.true c.event-item.is c.in_ok-apply.ensures.step (λ _. Unit {0}) c.in_ok-apply.ensures.declared (λ text says is had. tt)))

pub returns-in_err-take_lines-clause-disks : goal.returns-in_err-take_lines-clause-disks
returns-in_err-take_lines-clause-disks g c =
    keeps_then c.args.world.now c.events.world c.apply.new.self c.events.invariant.disks c.apply.ensures.disks
