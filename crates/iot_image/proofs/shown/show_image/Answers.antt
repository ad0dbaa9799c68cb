use Rattle.std.proofs.Common.{◌∙◌}
use Rattle.std.specs.Prelude.{◌++◌}
use Rattle.iot_inspect.specs.Texts.{log_text, tree_text}
use Rattle.iot_image.specs.Shown.{places}
use Rattle.iot_image.proofs.shown.show_image.Goals as goal

pub returns-clause-shown : goal.returns-clause-shown
returns-clause-shown c =
    let image = c.in_ok-image.ensures.stands in
    record {
      state = image.state;
      stands = image.stands;
      is = c.in_ok-tell.ensures ∙ (λ i. tree_text (image.holds.tree i) ++ log_text places (image.holds.labels i));
    }
