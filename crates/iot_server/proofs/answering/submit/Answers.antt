use Rattle.std.proofs.Common.{refl, rules, sym, ◌∙◌}
use Rattle.iot_server.proofs.LeavingLaws.{leaves_lacking, leaves_still}
use Rattle.iot_server.proofs.RepliesLaws.{already, answered_still}
use Rattle.iot_store.specs.Store.{state_of}
use Rattle.iot_server.proofs.answering.submit.Goals as goal

pub returns-in_err-write_reply-in-Some-clause-leaves : goal.returns-in_err-write_reply-in-Some-clause-leaves
returns-in_err-write_reply-in-Some-clause-leaves g c =
    leaves_lacking g.D.Disk.medium c.args.store.now c.requires.synced _ c.args.store.now refl refl
    c.from_residual.result c.from_residual.ensures.1

pub returns-in_ok-write_reply-in-Some-clause-answered : goal.returns-in_ok-write_reply-in-Some-clause-answered
returns-in_ok-write_reply-in-Some-clause-answered g c =
    answered_still g.D.Disk.medium c.args.store.now _ _
    (λ was.
    already (state_of c.args.store.now) was _ c.args.commit.now.0 c.args.commit.now.1.0 c.args.commit.now.1.1 c.in-Some.number
    (sym c.number_of.ensures ∙ c.in-Some.is)
    (record { value = search rules; spelled = sym c.in_ok-write_reply-in-Some.ensures.spelled }))

pub returns-in_ok-write_reply-in-Some-clause-leaves : goal.returns-in_ok-write_reply-in-Some-clause-leaves
returns-in_ok-write_reply-in-Some-clause-leaves g c =
    leaves_still g.D.Disk.medium c.args.store.now c.requires.synced _ c.args.store.now refl refl _
