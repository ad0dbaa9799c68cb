use Rattle.std.proofs.lemmas.Result.{on_ok_weaker}
use Rattle.iot_store.proofs.BodiesLaws.{body_spelled}
use Rattle.iot_store.proofs.recorded.CommitsRecorded.spell.Goals as goal

pub returns : goal.returns
returns c =
    on_ok_weaker c.put_server.result
    (λ spelled.
    body_spelled c.args.self.now _ _ _ _ _ _ c.requires c.tree.ensures c.labels.ensures c.stamped.ensures.stamps c.stamps.ensures
    c.clear.ensures spelled) c.put_server.ensures
