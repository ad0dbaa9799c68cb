use Rattle.std.proofs.Common.{◌∙◌, ap}
use Rattle.std.specs.List.{list_any}
use Rattle.iot_tree.specs.declared.labels.Label.{Label}
use Rattle.iot_store.specs.States.{is_of}
use Rattle.iot_store.proofs.NumbersLaws.{has_number}
use Rattle.iot_store.proofs.commits.Commits.has.Goals as goal

pub returns : goal.returns
returns c =
    let labels = c.args.self.now.labels in
    c.is_some.ensures
    ∙ has_number labels c.label-label.result.client c.label-label.result.tid c.number_of.result c.number_of.ensures
    ∙ ap (λ (label : Label). list_any (is_of label.client label.tid) labels) c.label-label.ensures
