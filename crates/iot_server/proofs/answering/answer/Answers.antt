use Rattle.std.proofs.Common.{refl}
use Rattle.iot_server.proofs.LeavingLaws.{leaves_lacking, leaves_still}
use Rattle.iot_server.proofs.RepliesLaws.{answered_still}
use Rattle.iot_server.proofs.answering.answer.Goals as goal

pub returns-in_err-lend-in-Refresh-clause-leaves : goal.returns-in_err-lend-in-Refresh-clause-leaves
returns-in_err-lend-in-Refresh-clause-leaves g c =
    leaves_lacking g.D.Disk.medium c.args.store.now c.requires.synced _ c.args.store.now refl refl
    c.from_residual.result c.from_residual.ensures.1

pub returns-in_ok-lend-in-Refresh-clause-answered : goal.returns-in_ok-lend-in-Refresh-clause-answered
returns-in_ok-lend-in-Refresh-clause-answered g c =
    answered_still g.D.Disk.medium c.args.store.now _ _
    (λ was. rw c.in-Refresh.is (c.in_ok-lend-in-Refresh.ensures _ was))

pub returns-in_ok-lend-in-Refresh-clause-leaves : goal.returns-in_ok-lend-in-Refresh-clause-leaves
returns-in_ok-lend-in-Refresh-clause-leaves g c =
    leaves_still g.D.Disk.medium c.args.store.now c.requires.synced _ c.args.store.now refl refl _

pub returns-in_err-walk-in-Walk-clause-leaves : goal.returns-in_err-walk-in-Walk-clause-leaves
returns-in_err-walk-in-Walk-clause-leaves g c =
    leaves_lacking g.D.Disk.medium c.args.store.now c.requires.synced _ c.args.store.now refl refl
    c.from_residual-in_err-walk-in-Walk.result c.from_residual-in_err-walk-in-Walk.ensures.1

pub returns-in_ok-walk-in-Walk-clause-answered : goal.returns-in_ok-walk-in-Walk-clause-answered
returns-in_ok-walk-in-Walk-clause-answered g c =
    answered_still g.D.Disk.medium c.args.store.now _ _
    (λ was. rw c.in-Walk.is (c.in_ok-walk-in-Walk.ensures _ was))

pub returns-in_ok-walk-in-Walk-clause-leaves : goal.returns-in_ok-walk-in-Walk-clause-leaves
returns-in_ok-walk-in-Walk-clause-leaves g c =
    leaves_still g.D.Disk.medium c.args.store.now c.requires.synced _ c.args.store.now refl refl _
