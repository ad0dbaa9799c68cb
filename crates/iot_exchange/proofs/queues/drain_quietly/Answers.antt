use Rattle.iot_exchange.proofs.Common.{false, true}
use Rattle.iot_exchange.proofs.DoesLaws.{answers, anyhow, asks_then, drained_is, goes_then, hands_on, ready_after, still}
use Rattle.iot_exchange.proofs.queues.drain_quietly.Goals as goal

pub returns-in_err-sync_all : goal.returns-in_err-sync_all
returns-in_err-sync_all g c = hands_on c.in_err-sync_all.was c.from_residual.ensures.1 c.sync_all.ensures

pub is_drained-requires : goal.is_drained-requires
is_drained-requires g c = anyhow (still (ready_after c.in_ok-sync_all.was c.sync_all.ensures c.requires.stands).stands)

pub refresh-requires : goal.refresh-requires
refresh-requires g c = (ready_after c.in_ok-sync_all.was c.sync_all.ensures c.requires.stands).ready

pub returns-then-not-is_drained : goal.returns-then-not-is_drained
returns-then-not-is_drained g c =
    goes_then c.in_ok-sync_all.was c.sync_all.ensures
    (asks_then (drained_is false (cc)) (answers c.sync_all.ensures.disks))

pub returns : goal.returns
returns g c =
    goes_then c.in_ok-sync_all.was c.sync_all.ensures
    (asks_then (drained_is true (cc)) (c.refresh.ensures _))
