use Rattle.iot_exchange.proofs.Common.{Err, ap, false, refl, synced_by, true}
use Rattle.iot_exchange.proofs.DoesLaws.{all_by, all_rounds, answers, asks_then, halted_round, hands_on, last_round, one_more, ready_after}
use Rattle.iot_exchange.proofs.{DoesLaws.then_answers, ExchangeLaws.pends_here}
use Rattle.iot_machine.specs.Transactions.{moves, sync_if}
use Rattle.iot_exchange.proofs.queues.sync_all.Goals as goal

pub returns-then-not-waits : goal.returns-then-not-waits
returns-then-not-waits g c = all_by c.in_ok-most.ensures (last_round c.syncs.invariant.0 c.syncs-test.true
    (asks_then {next = sync_if} (pends_here false (cc))
    (answers c.syncs.invariant.1.ready.keeps)) refl refl)

pub returns-in_err-sync : goal.returns-in_err-sync
returns-in_err-sync g c = all_by c.in_ok-most.ensures (halted_round c.syncs.invariant.0 c.syncs-test.true
    (asks_then {next = sync_if} (pends_here true (cc))
    (hands_on {outer = Err c.in_err-sync.field-0.0} (ap synced_by c.in_err-sync.was) refl c.sync.ensures))
    refl c.from_residual-in_err-sync.ensures.1)

pub returns-then-not-moves : goal.returns-then-not-moves
returns-then-not-moves g c = all_by c.in_ok-most.ensures (last_round c.syncs.invariant.0 c.syncs-test.true
    (asks_then {next = sync_if} (pends_here true (cc))
    (then_answers {f = moves} (ap synced_by c.in_ok-sync.was) c.moves.ensures c.sync.ensures)) refl c.if-not-moves.true)

pub syncs-preserved : goal.syncs-preserved
syncs-preserved g c = (
  one_more c.syncs.invariant.0 c.syncs-test.true (asks_then {next = sync_if} (pends_here true (cc))
      (then_answers {f = moves} (ap synced_by c.in_ok-sync.was) c.moves.ensures c.sync.ensures)) refl c.if-not-moves.false,
  ready_after (ap synced_by c.in_ok-sync.was) c.sync.ensures c.syncs.invariant.1.stands,
)

pub returns : goal.returns
returns g c = all_by c.in_ok-most.ensures (all_rounds c.syncs.invariant.0 c.syncs-test.false c.syncs.invariant.1.ready.keeps)
