use Rattle.iot_server.proofs.LeavingLaws.{leaves_lacking, leaves_still}
use Rattle.iot_server.proofs.RepliesLaws.{answered_still, denied, misfits}
use Rattle.iot_store.specs.Store.{state_of}
use Rattle.iot_server.proofs.answering.commit_if_fit.Goals as goal

pub returns-in_err-fit_in_turn-clause-leaves : goal.returns-in_err-fit_in_turn-clause-leaves
returns-in_err-fit_in_turn-clause-leaves g c =
    leaves_lacking g.D.Disk.medium c.args.store.now c.requires.synced _ c.fit_in_turn.new.self c.fit_in_turn.ensures.first
    c.fit_in_turn.ensures.second c.from_residual.result c.from_residual.ensures.1

pub returns-in_err-misfit-clause-leaves : goal.returns-in_err-misfit-clause-leaves
returns-in_err-misfit-clause-leaves g c =
    leaves_lacking g.D.Disk.medium c.args.store.now c.requires.synced _ c.fit_in_turn.new.self c.fit_in_turn.ensures.first
    c.fit_in_turn.ensures.second c.from_residual-in_err-misfit.result c.from_residual-in_err-misfit.ensures.1

pub returns-then-not-branch-clause-answered : goal.returns-then-not-branch-clause-answered
returns-then-not-branch-clause-answered g c =
    rw c.in_ok-fit_in_turn.ensures.same
    (answered_still g.D.Disk.medium c.args.store.now _ _
    (λ was.
    misfits (state_of c.args.store.now) was _ c.args.commit.label c.args.commit.access c.args.commit.lines c.requires.new c.requires.holds
    (denied _ c.in_ok-fit_in_turn.field-0 c.in_ok-fit_in_turn.ensures.fit c.if-not-branch.true) c.in_ok-misfit.ensures))

pub returns-then-not-branch-clause-leaves : goal.returns-then-not-branch-clause-leaves
returns-then-not-branch-clause-leaves g c =
    leaves_still g.D.Disk.medium c.args.store.now c.requires.synced _ c.fit_in_turn.new.self c.fit_in_turn.ensures.first
    c.fit_in_turn.ensures.second _

pub returns-clause-answered : goal.returns-clause-answered
returns-clause-answered g c = rw c.in_ok-fit_in_turn.ensures.same at c.add.ensures.answered

pub returns-clause-leaves : goal.returns-clause-leaves
returns-clause-leaves g c = rw c.in_ok-fit_in_turn.ensures.same at c.add.ensures.leaves
