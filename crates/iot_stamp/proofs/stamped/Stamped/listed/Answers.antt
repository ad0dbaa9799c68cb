use Rattle.std.proofs.Common.{◌∙◌, [], ap, refl}
use Rattle.std.specs.FinMap.{entries}
use Rattle.iot_tree.specs.Snapshots.{has}
use Rattle.iot_tree.specs.Tree.{Nodes}
use Rattle.iot_tree.specs.declared.want.Want.TheVariants.{Nothing}
use Rattle.iot_stamp.proofs.ChangesLaws.{count_is, answer_is, answer_rising}
use Rattle.iot_stamp.proofs.stamped.Stamped.listed.Goals as goal

pub changes_in-requires-clause-count : goal.changes_in-requires-clause-count
changes_in-requires-clause-count c =
    count_is c.args.self.now c.as_slice-rows.result.now c.stamps.result.now
    (c.as_slice-rows.ensures ∙ c.rows.ensures.rows ∙ ap (λ (t : Nodes). entries t) c.tree.ensures.value) c.stamps.ensures

pub returns-clause-value : goal.returns-clause-value
returns-clause-value c =
    answer_is c.args.self.now c.as_slice-rows.result.now c.stamps.result.now
    (c.as_slice-rows.ensures ∙ c.rows.ensures.rows ∙ ap (λ (t : Nodes). entries t) c.tree.ensures.value) c.stamps.ensures
    [] Nothing c.args.paths.now (has c.args.paths.now) refl c.changes_in.result c.changes_in.ensures.rows c.changes_in.ensures.gone

pub returns-clause-rising : goal.returns-clause-rising
returns-clause-rising c =
    answer_rising c.args.self.now [] (has c.args.paths.now) refl c.changes_in.result (returns-clause-value c)
