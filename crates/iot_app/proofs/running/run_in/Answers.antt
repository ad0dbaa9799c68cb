use Rattle.std.proofs.lemmas.Result.{IfOk-weaker}
use Rattle.iot_app.proofs.RunningLaws.{ran_some, ran_told, ran_untold, any_err}
use Rattle.iot_app.proofs.running.run_in.Goals as goal

pub tell-requires : goal.tell-requires
tell-requires g c =
    let it = g.D.Disk.medium in
    ran_some it c.requires.opened.handed c.args.events.now c.do_all.new.world c.in_ok-counts.counts
    (c.in_ok-counts.ensures.ran c.requires.opened.handed c.requires.opened.is)

pub returns-clause-told : goal.returns-clause-told
returns-clause-told g c =
    let it = g.D.Disk.medium in
    IfOk-weaker c.tell.result _ _
    (λ text told handed is.
    ran_told it handed c.args.events.now c.do_all.new.world c.in_ok-counts.counts
    (c.in_ok-counts.ensures.ran handed is) c.args.job text told)
    c.tell.ensures

pub returns-clause-failed : goal.returns-clause-failed
returns-clause-failed g c =
    let it = g.D.Disk.medium in
    any_err c.tell.result _
    (λ handed is.
    ran_untold it handed c.args.events.now c.do_all.new.world c.in_ok-counts.counts
    (c.in_ok-counts.ensures.ran handed is) g.met.D.Disk.reads_is_image)

pub returns-in_err-counts-clause-failed : goal.returns-in_err-counts-clause-failed
returns-in_err-counts-clause-failed g c = any_err c.from_residual.result _ c.in_err-counts.ensures.failed
