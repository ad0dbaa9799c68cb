use Rattle.std.proofs.Common.{◌≡◌, None, sym, subst, refl}
use Rattle.iot_acts.specs.Traces.{ReadsHold}
use Rattle.iot_server.proofs.CopiesLaws.{is_commit, answered_as, left_as}
use Rattle.iot_server.proofs.LeavingLaws.{leaves_lacking}
use Rattle.iot_store.specs.Numbers.{number_in}
use Rattle.iot_store.specs.Records.{IsRecord}
use Rattle.iot_store.specs.Rules.{IsCommit}
use Rattle.iot_store.specs.Store.{state_of}
use Rattle.iot_store.specs.declared.commit.Commit.{Commit}
use Rattle.iot_server.proofs.answering.commit_copied.Goals as goal

pub commit_if_fit-requires-clause-commit : goal.commit_if_fit-requires-clause-commit
commit_if_fit-requires-clause-commit g c =
    subst IsCommit (sym c.in_ok-copy.ensures) (is_commit c.args.commit.now c.requires.asked.value)

pub commit_if_fit-requires-clause-recorded : goal.commit_if_fit-requires-clause-recorded
commit_if_fit-requires-clause-recorded g c =
    subst (λ (commit : Commit). IsRecord c.args.body.now commit.label commit.access commit.lines) (sym c.in_ok-copy.ensures)
    c.requires.asked

pub commit_if_fit-requires-clause-new : goal.commit_if_fit-requires-clause-new
commit_if_fit-requires-clause-new g c =
    subst
    (λ (commit : Commit). number_in (state_of c.args.store.now).labels commit.label.client commit.label.tid ≡ None)
    (sym c.in_ok-copy.ensures) c.requires.new

pub commit_if_fit-requires-clause-holds : goal.commit_if_fit-requires-clause-holds
commit_if_fit-requires-clause-holds g c =
    subst (λ (commit : Commit). ReadsHold (state_of c.args.store.now).tree commit.access.reads) (sym c.in_ok-copy.ensures)
    c.requires.holds

pub returns-clause-answered : goal.returns-clause-answered
returns-clause-answered g c =
    answered_as g.D.Disk.medium c.args.store.now c.commit_if_fit.new.store c.commit_if_fit.result c.args.commit.now c.in_ok-copy.copy
    c.in_ok-copy.ensures c.commit_if_fit.ensures.answered

pub returns-clause-leaves : goal.returns-clause-leaves
returns-clause-leaves g c =
    left_as g.D.Disk.medium c.args.store.now c.commit_if_fit.new.store c.commit_if_fit.result c.args.commit.now c.in_ok-copy.copy
    c.in_ok-copy.ensures c.commit_if_fit.ensures.leaves

pub returns-in_err-copy-clause-leaves : goal.returns-in_err-copy-clause-leaves
returns-in_err-copy-clause-leaves g c =
    leaves_lacking g.D.Disk.medium c.args.store.now c.requires.synced _ c.args.store.now refl refl
    c.from_residual.result c.from_residual.ensures.1
