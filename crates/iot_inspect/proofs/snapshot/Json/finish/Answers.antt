use Rattle.std.proofs.Common.{ap, ◌∙◌}
use Rattle.std.specs.Option.{option_copied}
use Rattle.serde_json.specs.Data.{Data}
use Rattle.serde_json.specs.View.{items_view}
use Rattle.serde_json.specs.Written.{has_float}
use Rattle.iot_inspect.proofs.PlainLaws.{whole_plain}
use Rattle.iot_inspect.proofs.snapshot.Json.finish.Goals as goal

pub text_of-requires : goal.text_of-requires
text_of-requires c =
    ap (λ (d : Data). has_float d) c.in_ok-value.ensures
    ∙ whole_plain (items_view c.args.self.clients.items) c.as_slice.result.now c.args.labels.now (option_copied c.args.server)
    c.args.self.plain
