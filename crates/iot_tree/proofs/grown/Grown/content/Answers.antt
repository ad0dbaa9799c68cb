use Rattle.std.proofs.Common.{sym, ap, ◌∙◌}
use Rattle.iot_tree.specs.Questions.{content_at}
use Rattle.iot_tree.proofs.RowLaws.{get_rows}
use Rattle.iot_tree.proofs.grown.Grown.content.Goals as goal

pub returns-in-Some-clause-content : goal.returns-in-Some-clause-content
returns-in-Some-clause-content c =
    let found = rw (c.in-Some.is, c.as_slice.ensures, c.names.ensures.value) at c.node_at.ensures in
    rw (← c.self.view_is)
    (c.content.ensures ∙ ap content_at (found ∙ sym (get_rows c.self.inside.rows c.self.invariant.rising c.args.path.now)))

pub returns-in-None-clause-content : goal.returns-in-None-clause-content
returns-in-None-clause-content c =
    let found = rw (c.in-None.is, c.as_slice.ensures, c.names.ensures.value) at c.node_at.ensures in
    rw (← c.self.view_is) (ap content_at (found ∙ sym (get_rows c.self.inside.rows c.self.invariant.rising c.args.path.now)))
