use Rattle.std.proofs.Common.{◌∙◌, sym, subst}
use Rattle.iot_tree.specs.Tree.{Path}
use Rattle.iot_audit.specs.Differences.{DifferFirst}
use Rattle.iot_audit.proofs.DifferenceLaws.{differ_first, same_tree, looked_up}
use Rattle.iot_audit.proofs.difference.first_difference.Goals as goal

pub returns-in_ok-copy-in-Some-clause-some : goal.returns-in_ok-copy-in-Some-clause-some
returns-in_ok-copy-in-Some-clause-some c =
    subst (λ (path : Path). DifferFirst c.args.tree.now c.args.other.now path) (sym c.in_ok-copy-in-Some.ensures)
    (differ_first c.args.tree.now c.args.other.now c.as_slice-rows.result.now c.as_slice-others.result.now c.same_len-same.result
    (c.as_slice-rows.ensures ∙ c.rows.ensures.rows) (c.as_slice-others.ensures ∙ c.rows-2.ensures.rows) c.same_len-same.ensures _ _
    (looked_up _ _ c.get.result c.get.ensures.lookup.3) (looked_up _ _ c.get-2.result c.get-2.ensures.lookup.3) c.in-Some.path.now
    c.in-Some.ensures)

pub returns-in-None-clause-none : goal.returns-in-None-clause-none
returns-in-None-clause-none c =
    same_tree c.args.tree.now c.args.other.now c.as_slice-rows.result.now c.as_slice-others.result.now c.same_len-same.result
    (c.as_slice-rows.ensures ∙ c.rows.ensures.rows) (c.as_slice-others.ensures ∙ c.rows-2.ensures.rows) c.same_len-same.ensures _ _
    (looked_up _ _ c.get.result c.get.ensures.lookup.3) (looked_up _ _ c.get-2.result c.get-2.ensures.lookup.3) c.in-None.ensures
