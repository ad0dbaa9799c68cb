-- Some requests were answered, and no count rose.
use Rattle.std.proofs.Common.{◌≡◌}
use Rattle.std.specs.Io.KnownBytes.{Appends, IsAtEnd}
use Rattle.iot_io.specs.ReadAll.{Took}
use Rattle.iot_server.specs.Servers.{IsAlone, IsSynced, disk_of}
use Rattle.iot_keep_app.specs.Serving.{kept_on}
use Rattle.iot_keep_app.proofs.ServingLaws.{SoFar}
use Rattle.iot_keep_app.proofs.serving.serve_all.Given as goal

abbrev pub invariant-requests : goal.invariant-requests
invariant-requests g l =
    let source = g.S.Source in
    let sink = g.K.Sink in
    let medium = g.D.Disk.medium in
    record {
      far : SoFar (record {
        took = Took source.left source.taken l.fn.source l.source;
        at_end = IsAtEnd (source.left l.source);
        wrote = Appends (sink.written l.fn.sink) (sink.written l.sink);
        images = medium.may_leave (disk_of l.server);
      }) (kept_on medium l.fn.server) (kept_on medium l.server) l.counter;
      synced : IsSynced medium l.server;
      alone : IsAlone l.server;
      source_faults : source.faults l.source ≡ source.faults l.fn.source;
      sink_faults : sink.faults l.sink ≡ sink.faults l.fn.sink;
      sink_empties : sink.empties l.sink ≡ sink.empties l.fn.sink;
      disk_faults : medium.faults (disk_of l.server) ≡ medium.faults (disk_of l.fn.server);
    }
