use Rattle.std.proofs.Common.{ap, ◌∙◌}
use Rattle.std.specs.Prelude.{option_map}
use Rattle.iot_keep_app.specs.Serving.{kept_on}
use Rattle.iot_keep_app.proofs.EndingsLaws.{idle, start_fails, then_ends}
use Rattle.iot_keep_app.proofs.job.serve.Goals as goal

pub alone-disk-requires : goal.alone-disk-requires
alone-disk-requires g c = c.into_disks.ensures.second ∙ ap (option_map _) c.serve_all-result.ensures.alone

pub returns-in-Ok-clause-ends : goal.returns-in-Ok-clause-ends
returns-in-Ok-clause-ends g c =
    let medium = g.D.Disk.medium in
    rw (c.alone-disk.ensures ∙ c.into_disks.ensures.first) (then_ends _ _ (medium.reads c.args.disk) _ (kept_on medium c.in-Ok.server)
    c.in-Ok.ensures.stands.stands c.serve_all-result.result c.serve_all-result.ensures.ends)

pub returns-in-Err-clause-ends : goal.returns-in-Err-clause-ends
returns-in-Err-clause-ends g c =
    let source = g.S.Source in
    let sink = g.K.Sink in
    let medium = g.D.Disk.medium in
    let now = c.in-Err.ensures in
    rw c.from.ensures (start_fails _ (medium.reads c.args.disk) _ _ _ _
    (idle source.left source.taken c.args.source.now (sink.written c.args.sink.now) (medium.may_leave c.in-Err.disk))
    (λ state stood. record { count = _; stands = now.images state stood }) c.in-Err.fault
    now.cause now.refused_reads now.refused_images)
