use Rattle.std.proofs.Common.{length, drop}
use Rattle.std.proofs.lemmas.List.{take_rest}
use Rattle.iot_text.proofs.PathsLaws.{IsPath-append, IsPath-drop}
use Rattle.iot_tree.proofs.moves.renamed_path.Goals as goal

pub from_parts-requires : goal.from_parts-requires
from_parts-requires c =
    rw (take_rest c.names-3.result.now (length c.names-4.result.now))
    (IsPath-append c.names-5.result.now (drop (length c.names-4.result.now) c.names-3.result.now) c.names-5.ensures.valid
    (IsPath-drop (length c.names-4.result.now) c.names-3.result.now c.names-3.ensures.valid))
