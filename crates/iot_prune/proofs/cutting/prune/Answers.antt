use Rattle.std.proofs.Common.{◌∙◌, ◌≡◌, sym, subst}
use Rattle.std.specs.FinMap.{same_entries_map}
use Rattle.iot_tree.specs.Rows.{AreTreeRows}
use Rattle.iot_tree.specs.Snapshots.{AnswersOrAway, has, prune}
use Rattle.iot_tree.proofs.PruneLaws.{answers_or_away, entries_pruned, pruned_rows}
use Rattle.iot_prune.proofs.cutting.prune.Goals as goal

pub of_rows-requires : goal.of_rows-requires
of_rows-requires c =
    let done = rw (c.as_slice-2.ensures, c.as_slice.ensures, c.rows.ensures.rows) at c.in_ok-rows.ensures in
    subst AreTreeRows (sym done) (pruned_rows c.args.s.now (has c.args.k.now) c.rows.ensures.tree)

pub returns-clause-pruned : goal.returns-clause-pruned
returns-clause-pruned c =
    let done = rw (c.as_slice-2.ensures, c.as_slice.ensures, c.rows.ensures.rows) at c.in_ok-rows.ensures in
    same_entries_map _ _ (c.in_ok-tree.ensures ∙ done ∙ sym (entries_pruned c.args.s.now (has c.args.k.now)))

pub returns-clause-answers : goal.returns-clause-answers
returns-clause-answers c =
    let done = rw (c.as_slice-2.ensures, c.as_slice.ensures, c.rows.ensures.rows) at c.in_ok-rows.ensures in
    let is : c.in_ok-tree.tree ≡ prune c.args.s.now (has c.args.k.now) =
    same_entries_map _ _ (c.in_ok-tree.ensures ∙ done ∙ sym (entries_pruned c.args.s.now (has c.args.k.now))) in
    subst (AnswersOrAway c.args.s.now) (sym is) (answers_or_away c.args.s.now (has c.args.k.now) c.rows.ensures.tree)
