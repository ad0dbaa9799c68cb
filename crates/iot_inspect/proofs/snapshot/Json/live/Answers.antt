use Rattle.std.proofs.Common.{ap, ◌∙◌}
use Rattle.serde_json.specs.Data.{Data}
use Rattle.serde_json.specs.Written.{has_float}
use Rattle.iot_inspect.proofs.PlainLaws.{live_plain}
use Rattle.iot_inspect.proofs.snapshot.Json.live.Goals as goal

pub add-requires : goal.add-requires
add-requires c =
    ap (λ (d : Data). has_float d) c.in_ok-value.ensures ∙ live_plain c.args.name.now c.args.q.now c.args.view.now
