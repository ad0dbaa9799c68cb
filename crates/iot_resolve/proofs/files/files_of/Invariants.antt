use Rattle.std.proofs.Common.{◌≡◌, take}
use Rattle.std.specs.List.{filter_map}
use Rattle.iot_exec.specs.Files.{file_of}
use Rattle.iot_resolve.proofs.files.files_of.Given as goal

abbrev pub invariant-rows : goal.invariant-rows
invariant-rows l = l.files ≡ filter_map file_of (take l.row-index l.rows)
