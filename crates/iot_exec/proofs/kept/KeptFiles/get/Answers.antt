use Rattle.std.proofs.Common.{sym, ap, ◌∙◌}
use Rattle.std.specs.FinMap.{is_sorted}
use Rattle.iot_text.specs.Paths.{path_cmp}
use Rattle.iot_exec.proofs.KeptLaws.{is_found}
use Rattle.iot_exec.proofs.kept.KeptFiles.get.Goals as goal

pub search-requires : goal.search-requires
search-requires c = ap (is_sorted path_cmp) c.as_slice-files.ensures ∙ sym c.self.invariant ∙ c.if-self.true

pub returns-then-self : goal.returns-then-self
returns-then-self c =
    c.search.ensures ∙ is_found c.as_slice-files.result.now c.args.self.now c.args.path.now (c.as_slice-files.ensures ∙ c.self.view_is)

pub returns-else-self : goal.returns-else-self
returns-else-self c =
    c.scan.ensures ∙ is_found c.as_slice-files.result.now c.args.self.now c.args.path.now (c.as_slice-files.ensures ∙ c.self.view_is)
