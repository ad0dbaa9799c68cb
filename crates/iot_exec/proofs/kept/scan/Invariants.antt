use Rattle.std.proofs.Common.{◌≡◌, drop}
use Rattle.std.specs.FinMap.{find}
use Rattle.iot_text.specs.Paths.{path_cmp}
use Rattle.iot_exec.proofs.kept.scan.Given as goal

abbrev pub invariant-files : goal.invariant-files
invariant-files l = find path_cmp l.path (drop l.at-index l.files) ≡ find path_cmp l.path l.files
