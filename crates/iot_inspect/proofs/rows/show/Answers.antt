use Rattle.std.proofs.Common.{List, ℕ, [], ◌∙◌, subst}
use Rattle.iot_text.specs.Texts.{AppendsPart}
use Rattle.iot_text.proofs.TextsLaws.{on_err, part_of_list}
use Rattle.iot_tree.specs.declared.nodes.Node.{Node}
use Rattle.iot_inspect.specs.Texts.{row_line, rows_text}
use Rattle.iot_inspect.proofs.rows.show.Goals as goal

pub returns-in_err-put_row-clause-err : goal.returns-in_err-put_row-clause-err
returns-in_err-put_row-clause-err c =
    on_err _
    (subst (λ (rows : List (List (List ℕ) × Node)). AppendsPart c.args.out.now c.put_row.new.out (rows_text rows))
    (c.as_slice-path-items.ensures ∙ c.rows.ensures.rows)
    (part_of_list (λ (row : List (List ℕ) × Node). row_line row.0 row.1) c.as_slice-path-items.result.now c.loop-path.path-index
    c.loop-path-item.result [] c.args.out.now c.loop-path.out c.put_row.new.out c.loop-path-test.true c.loop-path-item.is
    c.loop-path.invariant c.in_err-put_row.ensures.err))
