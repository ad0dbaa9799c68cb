use Rattle.std.proofs.Common.{sym}
use Rattle.iot_views.specs.Decoding.{path_at}
use Rattle.iot_codec.proofs.paths.after_path.Goals as goal

pub returns : goal.returns
unfolding path_at
returns c = rw (c.in-Ok.ensures, c.if-count-names.false, sym c.names-names.ensures.value) c.after_names.ensures
