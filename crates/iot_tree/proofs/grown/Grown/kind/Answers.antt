use Rattle.std.proofs.Common.{sym, ◌∙◌}
use Rattle.iot_tree.specs.Place.{IsRowAt, IsGap}
use Rattle.iot_tree.proofs.AnswerLaws.{kind_here, kind_in_gap}
use Rattle.iot_tree.proofs.grown.Grown.kind.Goals as goal

pub returns-in-Ok-clause-kind : goal.returns-in-Ok-clause-kind
returns-in-Ok-clause-kind c =
    let stands : IsRowAt c.self.inside.rows c.args.path.now c.in-Ok.at =
    rw (c.in-Ok.is, c.as_slice-rows.ensures, c.names.ensures.value) at c.place_of.ensures in
    let kind = rw c.as_slice-rows.ensures at c.kind.ensures in
    rw (← c.self.view_is)
    (kind ∙ sym (kind_here c.self.inside.rows c.self.invariant c.args.path.now c.in-Ok.at stands c.index-rows-at.result))

pub returns-in-Err-clause-kind : goal.returns-in-Err-clause-kind
returns-in-Err-clause-kind c =
    let gap : IsGap c.self.inside.rows c.args.path.now c.in-Err.gap =
    rw (c.in-Err.is, c.as_slice-rows.ensures, c.names.ensures.value) at c.place_of.ensures in
    let kind = rw (c.as_slice-rows.ensures, c.names-in-Err.ensures.value) at c.kind_in_gap.ensures in
    rw (← c.self.view_is) (kind ∙ sym (kind_in_gap c.self.inside.rows c.self.invariant c.args.path.now c.in-Err.gap gap))
