use Rattle.std.proofs.Common.{refl, rules, sym}
use Rattle.iot_server.proofs.LeavingLaws.{leaves_lacking, leaves_still}
use Rattle.iot_server.proofs.StandingLaws.{store_spelled, verdict_answer}
use Rattle.iot_server.proofs.RepliesLaws.{answered_still, conflicted, judged_so}
use Rattle.iot_store.specs.Store.{state_of}
use Rattle.iot_certify.specs.declared.verdict.Verdict.TheVariants.{Differs}
use Rattle.iot_server.proofs.answering.judge.Goals as goal

pub write_reply-requires : goal.write_reply-requires
write_reply-requires g c =
    let judged =
    judged_so _ _ c.args.commit.now.1.0 _ c.in-Differs.read c.in-Differs.answer c.tree.ensures c.in-Differs.is
    c.in_ok-verdict.ensures in
    (search rules, verdict_answer _ c.args.commit.now.1.0 _ _ (store_spelled _ _ c.requires.synced) judged)

pub returns-in_ok-write_reply-in-Differs-clause-answered : goal.returns-in_ok-write_reply-in-Differs-clause-answered
returns-in_ok-write_reply-in-Differs-clause-answered g c =
    let judged =
    judged_so _ _ c.args.commit.now.1.0 _ c.in-Differs.read c.in-Differs.answer c.tree.ensures c.in-Differs.is
    c.in_ok-verdict.ensures in
    let has = verdict_answer _ c.args.commit.now.1.0 _ _ (store_spelled _ _ c.requires.synced) judged in
    answered_still g.D.Disk.medium c.args.store.now _ _
    (λ was.
    conflicted (state_of c.args.store.now) was _ c.args.commit.now.0 c.args.commit.now.1.0 c.args.commit.now.1.1 c.requires.new
    (Differs c.in-Differs.read c.in-Differs.answer) c.in-Differs.read c.in-Differs.answer judged (refl, refl)
    (record { value = (search rules, has); spelled = sym c.in_ok-write_reply-in-Differs.ensures.spelled }))

pub returns-in_ok-write_reply-in-Differs-clause-leaves : goal.returns-in_ok-write_reply-in-Differs-clause-leaves
returns-in_ok-write_reply-in-Differs-clause-leaves g c =
    leaves_still g.D.Disk.medium c.args.store.now c.requires.synced _ c.args.store.now refl refl _

pub returns-in_err-verdict-clause-leaves : goal.returns-in_err-verdict-clause-leaves
returns-in_err-verdict-clause-leaves g c =
    leaves_lacking g.D.Disk.medium c.args.store.now c.requires.synced _ c.args.store.now refl refl
    c.from_residual.result c.from_residual.ensures.1

pub returns-in_err-write_reply-in-Differs-clause-leaves : goal.returns-in_err-write_reply-in-Differs-clause-leaves
returns-in_err-write_reply-in-Differs-clause-leaves g c =
    leaves_lacking g.D.Disk.medium c.args.store.now c.requires.synced _ c.args.store.now refl refl
    c.from_residual-in_err-write_reply-in-Differs.result c.from_residual-in_err-write_reply-in-Differs.ensures.1
