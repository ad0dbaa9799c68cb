use Rattle.std.proofs.Common.{◌∙◌, arith}
use Rattle.iot_server.specs.Servers.{disk_of}
use Rattle.iot_keep_app.specs.Serving.{kept_on}
use Rattle.iot_keep_app.proofs.ServingLaws.{goes_on, all_served, then_fails, too_many, at_answered, at_no_more}
use Rattle.iot_keep_app.proofs.serving.serve_all.Goals as goal

pub returns-in-Ok-AtEnd-clause-ends : goal.returns-in-Ok-AtEnd-clause-ends
returns-in-Ok-AtEnd-clause-ends g c =
    let source = g.S.Source in
    let sink = g.K.Sink in
    let medium = g.D.Disk.medium in
    let end = at_no_more _ _ _ c.in-Ok-AtEnd.field-0 c.in-Ok-AtEnd.field-0-is c.in-Ok-AtEnd.ensures.ends in (
      all_served source.left source.taken c.args.source.now c.requests.source c.serve_next.new.source
          (sink.written c.args.sink.now) (sink.written c.requests.sink) (sink.written c.serve_next.new.sink)
          (medium.may_leave (disk_of c.requests.server)) (medium.may_leave (disk_of c.serve_next.new.server))
          (kept_on medium c.args.server.now) (kept_on medium c.requests.server) c.requests.counter c.requests.invariant.far end.0,
      end.1,
    )

pub returns-in-Err-clause-ends : goal.returns-in-Err-clause-ends
returns-in-Err-clause-ends g c =
    let source = g.S.Source in
    let sink = g.K.Sink in
    let medium = g.D.Disk.medium in
    then_fails source.left source.taken c.args.source.now c.requests.source c.serve_next.new.source
    (sink.written c.args.sink.now) (sink.written c.requests.sink) (sink.written c.serve_next.new.sink)
    (medium.may_leave (disk_of c.requests.server)) (medium.may_leave (disk_of c.serve_next.new.server))
    (kept_on medium c.args.server.now) (kept_on medium c.requests.server) c.requests.counter c.requests.invariant.far
    _ c.in-Err.ensures.ends

pub requests-preserved : goal.requests-preserved
requests-preserved g c =
    let source = g.S.Source in
    let sink = g.K.Sink in
    let medium = g.D.Disk.medium in
    let now = c.in-Ok-Answered.ensures in
    let before = c.requests.invariant in
    record {
      far =
          goes_on source.left source.taken c.args.source.now c.requests.source c.serve_next.new.source
          (sink.written c.args.sink.now) (sink.written c.requests.sink) (sink.written c.serve_next.new.sink)
          (medium.may_leave (disk_of c.requests.server)) (medium.may_leave (disk_of c.serve_next.new.server))
          (kept_on medium c.args.server.now) (kept_on medium c.requests.server) c.requests.counter c.requests.invariant.far
          (kept_on medium c.serve_next.new.server)
          (at_answered _ _ _ c.in-Ok-Answered.field-0 c.in-Ok-Answered.field-0-is now.ends);
      synced = now.synced;
      alone = now.alone;
      source_faults = now.source_faults ∙ before.source_faults;
      sink_faults = now.sink_faults.0 ∙ before.sink_faults;
      sink_empties = now.sink_faults.1 ∙ before.sink_empties;
      disk_faults = now.disk_faults ∙ before.disk_faults;
    }

pub returns-clause-ends : goal.returns-clause-ends
returns-clause-ends g c = too_many _ _ _ c.requests.counter c.requests.invariant.far
    (omega (arith, c.requests-test.false, c.requests.auto.counter-end))
