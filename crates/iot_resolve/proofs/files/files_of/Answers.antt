use Rattle.std.proofs.Common.{◌∙◌, ◌++◌, ◌∷◌, [], sym, ap}
use Rattle.iot_resolve.proofs.FilesLaws.{one_more, no_more}
use Rattle.iot_resolve.proofs.files.files_of.Goals.{in-Some+in_ok-push, in_default}
use Rattle.iot_resolve.proofs.files.files_of.Goals as goal

pub rows-preserved : goal.rows-preserved
rows-preserved c = elim c.match-branch-2.branch [
  | in-Some+in_ok-push w ↦
      w.files-is ∙ w.in_ok-push.ensures.ok ∙ ap (λ files. files ++ w.in-Some.file ∷ []) c.rows.invariant
      ∙ one_more c.as_slice-rows.result.now c.rows.row-index c.row-item.result w.in-Some.file c.rows-test.true c.row-item.is
      (sym c.in_ok-file.ensures ∙ w.in-Some.is)
  | in_default w ↦
      w.files-is ∙ c.rows.invariant
      ∙ no_more c.as_slice-rows.result.now c.rows.row-index c.row-item.result c.rows-test.true c.row-item.is
      (sym c.in_ok-file.ensures ∙ w.in_default.is)
]
