use Rattle.std.proofs.Common.{◌≡◌, take}
use Rattle.std.specs.List.{filter_map}
use Rattle.iot_exec.specs.Finding.{file_if}
use Rattle.iot_exec.proofs.finding.files_among.Given as goal

abbrev pub invariant-rows : goal.invariant-rows
invariant-rows l = l.found ≡ filter_map (file_if l.paths) (take l.row-index l.rows)
