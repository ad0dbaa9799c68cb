use Rattle.std.proofs.Common.{◌≡◌, ◌++◌, drop, map}
use Rattle.iot_gen.specs.Generated.{text_of, file_line}
use Rattle.iot_gen.proofs.lines.put_files.Given as goal

-- the text so far, and what is left, are the whole
abbrev pub invariant-loop-file : goal.invariant-loop-file
invariant-loop-file l =
    l.out ++ text_of (map file_line (drop l.file-index l.files)) ≡ l.initial.out ++ text_of (map file_line l.files)
