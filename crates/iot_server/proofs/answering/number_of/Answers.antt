use Rattle.std.proofs.Common.{ap, ◌∙◌}
use Rattle.iot_store.specs.Numbers.{number_in}
use Rattle.iot_store.specs.Store.{state_of}
use Rattle.iot_tree.specs.declared.labels.Label.{Label}
use Rattle.iot_server.proofs.answering.number_of.Goals as goal

pub returns : goal.returns
returns g c =
    c.number_of.ensures
    ∙ ap (λ (label : Label). number_in (state_of c.args.store.now).labels label.client label.tid) c.label-label.ensures
