use Rattle.std.proofs.Common.{rules}
use Rattle.std.proofs.lemmas.Result.{on_ok_weaker}
use Rattle.iot_kept.proofs.BodiesLaws.{body_spelled}
use Rattle.iot_kept.proofs.recorded.MemoryRecorded.spell.Goals as goal

pub returns : goal.returns
returns c =
    on_ok_weaker c.put_client.result (λ spelled. body_spelled _ c.args.self.now c.requires.state (search (rules, spelled))) c.put_client.ensures
