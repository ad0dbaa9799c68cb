use Rattle.iot_exchange.proofs.{Common.ap, Common.refl, Common.script_at, Common.scripts_of, Common.synced_by, DoesLaws.hands_on}
use Rattle.iot_exchange.proofs.{DoesLaws.tells, DoesLaws.then_answers, NamesLaws.meant_there, NamesLaws.named_there, NamesLaws.script_there}
use Rattle.iot_exchange.proofs.tasks.carry_out.Goals as goal

pub returns-in_err-_synced-in-Sync : goal.returns-in_err-_synced-in-Sync
returns-in_err-_synced-in-Sync g c =
    rw c.in-Sync.is (hands_on (ap synced_by c.in_err-_synced-in-Sync.was) c.from_residual.ensures.1 c.sync.ensures)

pub returns-in_ok-_synced-in-Sync : goal.returns-in_ok-_synced-in-Sync
returns-in_ok-_synced-in-Sync g c =
    rw c.in-Sync.is (then_answers {f = λ _. tt} (ap synced_by c.in_ok-_synced-in-Sync.was) refl c.sync.ensures)

pub returns-in-Discard : goal.returns-in-Discard
returns-in-Discard g c = rw c.in-Discard.is (c.discard.ensures c.args.server.now c.requires.ready.ready _)

pub run-requires-clause-meant : goal.run-requires-clause-meant
run-requires-clause-meant g c =
    meant_there c.args.scripts.now c.in-Run.option (rw c.in-Run.is at c.requires.may) c.index-scripts-script.is c.requires.apart
    c.by_name-chosen.ensures

pub returns-in-Run : goal.returns-in-Run
returns-in-Run g c =
    let may = rw c.in-Run.is at c.requires.may in
    rw (c.in-Run.is, ← script_there c.args.scripts.now may.0 c.index-scripts-script.is) (c.run.ensures _
    (meant_there c.args.scripts.now c.in-Run.option may c.index-scripts-script.is c.requires.apart c.by_name-chosen.ensures).means)

pub begin_aloud-requires : goal.begin_aloud-requires
begin_aloud-requires g c = (
  scripts_of c.args.scripts.now,
  c.requires.ready,
  meant_there c.args.scripts.now c.in-Begin.option (rw c.in-Begin.is at c.requires.may) c.index-scripts-script-in-Begin.is
      c.requires.apart c.by_name-chosen-in-Begin.ensures,
)

pub returns-in-Begin : goal.returns-in-Begin
returns-in-Begin g c =
    let may = rw c.in-Begin.is at c.requires.may in
    rw (c.in-Begin.is, ← script_there c.args.scripts.now may.0 c.index-scripts-script-in-Begin.is) (c.begin_aloud.ensures _ _
    (meant_there c.args.scripts.now c.in-Begin.option may c.index-scripts-script-in-Begin.is c.requires.apart
    c.by_name-chosen-in-Begin.ensures).means)

pub returns-in-Repair : goal.returns-in-Repair
returns-in-Repair g c =
    let may = rw c.in-Repair.is at c.requires.may in
    rw c.in-Repair.is
    (c.repair.ensures c.args.server.now c.requires.ready.ready _ (script_at (scripts_of c.args.scripts.now) c.in-Repair.script)
    (named_there c.args.scripts.now c.in-Repair.script may c.requires.apart)
    (cc (script_there c.args.scripts.now may c.index-scripts-script-in-Repair.is)))

pub returns-in_ok-say_queue-in-Queue : goal.returns-in_ok-say_queue-in-Queue
returns-in_ok-say_queue-in-Queue g c = rw c.in-Queue.is (tells c.requires.ready.ready.keeps
    (λ names at pair here. c.in_ok-say_queue-in-Queue.ensures (scripts_of c.args.scripts.now) pair.client here.client.is))

pub returns-in-Reads : goal.returns-in-Reads
returns-in-Reads g c = rw c.in-Reads.is (c.say_reads.ensures c.args.server.now c.requires.ready.ready _)

pub returns-in-Hoard : goal.returns-in-Hoard
returns-in-Hoard g c = rw c.in-Hoard.is (c.hoard.ensures _)

pub returns-in-Refresh : goal.returns-in-Refresh
returns-in-Refresh g c = rw c.in-Refresh.is (c.refresh.ensures _)

pub returns-in-Walk : goal.returns-in-Walk
returns-in-Walk g c = rw c.in-Walk.is (rw c.profile.ensures at (c.walk.ensures (scripts_of c.args.scripts.now)))

pub returns-in-Step : goal.returns-in-Step
returns-in-Step g c = rw c.in-Step.is (c.step_aloud.ensures _)

pub returns-in-End : goal.returns-in-End
returns-in-End g c = rw c.in-End.is c.end.ensures

pub returns-in-Drain : goal.returns-in-Drain
returns-in-Drain g c = rw c.in-Drain.is c.drain.ensures
