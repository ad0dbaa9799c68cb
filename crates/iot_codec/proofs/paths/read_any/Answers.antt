use Rattle.iot_codec.specs.Laws.Values.{path_from_names}
use Rattle.iot_codec.proofs.paths.read_any.Goals as goal

pub from_names-requires : goal.from_names-requires
from_names-requires c = rw c.into_vec.ensures (path_from_names _ c.in_ok-names.ensures.each)
