use Rattle.std.proofs.Common.{◌∙◌, ◌++◌, ◌∷◌, [], ap}
use Rattle.iot_exec.proofs.FindingLaws.{one_more, no_more, file_by_set}
use Rattle.iot_exec.proofs.finding.files_among.Goals.{in-Some+in_ok-push, in_default}
use Rattle.iot_exec.proofs.finding.files_among.Goals as goal

pub rows-preserved : goal.rows-preserved
rows-preserved c = elim c.match-branch-3.branch [
  | in-Some+in_ok-push w ↦
      w.found-is ∙ w.in_ok-push.ensures.ok ∙ ap (λ files. files ++ w.in-Some.file ∷ []) c.rows.invariant
      ∙ one_more c.args.paths.now c.as_slice-rows.result.now c.rows.row-index c.row-item.result w.in-Some.file c.rows-test.true
      c.row-item.is (file_by_set c.args.paths.now c.in_ok-wanted.wanted c.row-item.result c.in_ok-file.field-0 c.in_ok-wanted.ensures
      c.in_ok-file.ensures ∙ w.in-Some.is)
  | in_default w ↦
      w.found-is ∙ c.rows.invariant
      ∙ no_more c.args.paths.now c.as_slice-rows.result.now c.rows.row-index c.row-item.result c.rows-test.true c.row-item.is
      (file_by_set c.args.paths.now c.in_ok-wanted.wanted c.row-item.result c.in_ok-file.field-0 c.in_ok-wanted.ensures
      c.in_ok-file.ensures ∙ w.in_default.is)
]
