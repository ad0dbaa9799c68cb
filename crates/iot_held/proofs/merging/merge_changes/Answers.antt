use Rattle.std.proofs.Common.{◌≡◌, ◌∙◌, [], sym, ap, subst}
use Rattle.std.specs.FinMap.{entries}
use Rattle.iot_tree.specs.Tree.{Nodes, IsTree}
use Rattle.iot_stamp.specs.Refresh.{merged}
use Rattle.iot_stamp.specs.Stamps.{Stamps, nodes_of}
use Rattle.iot_held.proofs.OutcomeLaws.{out_rising, out_map, merged_nothing}
use Rattle.iot_stamp.proofs.ChangesLaws.{count_is}
use Rattle.iot_held.proofs.merging.merge_changes.Goals as goal

pub joined_rows-requires-clause-count : goal.joined_rows-requires-clause-count
joined_rows-requires-clause-count c =
    count_is c.args.held.now c.as_slice.result.now c.stamps.result.now
    (c.as_slice.ensures ∙ c.rows.ensures.rows ∙ ap (λ (t : Nodes). entries t) c.tree-tree.ensures.value) c.stamps.ensures

pub stamped-requires : goal.stamped-requires
stamped-requires c =
    let out = rw c.as_slice-2.ensures at c.in_ok-entries.ensures in
    out_rising c.args.held.now c.as_slice.result.now c.stamps.result.now
    (c.as_slice.ensures ∙ c.rows.ensures.rows ∙ ap (λ (t : Nodes). entries t) c.tree-tree.ensures.value) c.stamps.ensures
    c.args.changes.rows c.args.changes.gone c.in_ok-entries.entries c.requires.rows out

pub returns-in-Ok-clause-ok : goal.returns-in-Ok-clause-ok
returns-in-Ok-clause-ok c =
    let out = rw c.as_slice-2.ensures at c.in_ok-entries.ensures in
    c.in-Ok.ensures.ok
    ∙ out_map c.args.held.now c.as_slice.result.now c.stamps.result.now
    (c.as_slice.ensures ∙ c.rows.ensures.rows ∙ ap (λ (t : Nodes). entries t) c.tree-tree.ensures.value) c.stamps.ensures
    c.args.changes.rows c.args.changes.gone c.in_ok-entries.entries c.requires.rows out

pub returns-then-is_nothing-clause-ok : goal.returns-then-is_nothing-clause-ok
returns-then-is_nothing-clause-ok c =
    let both : merged c.args.held.now c.args.changes.rows c.args.changes.gone ≡ merged c.args.held.now [] [] =
    (λ i. merged c.args.held.now (c.is_nothing.ensures.rows c.if-is_nothing.true i)
    (c.is_nothing.ensures.gone c.if-is_nothing.true i)) in
    sym (both ∙ merged_nothing c.args.held.now c.tree-tree.ensures.far)

pub returns-clause-no_tree : goal.returns-clause-no_tree
returns-clause-no_tree c =
    let out = rw c.as_slice-2.ensures at c.in_ok-entries.ensures in
    let same =
    out_map c.args.held.now c.as_slice.result.now c.stamps.result.now
    (c.as_slice.ensures ∙ c.rows.ensures.rows ∙ ap (λ (t : Nodes). entries t) c.tree-tree.ensures.value) c.stamps.ensures
    c.args.changes.rows c.args.changes.gone c.in_ok-entries.entries c.requires.rows out in
    λ other tree. c.in-Err.ensures.no_tree other (subst (λ (t : Stamps). IsTree (nodes_of t)) (sym same) tree)
