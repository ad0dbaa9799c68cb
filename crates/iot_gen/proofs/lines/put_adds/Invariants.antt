use Rattle.std.proofs.Common.{◌≡◌, ◌++◌, drop}
use Rattle.std.specs.List.{flat_map}
use Rattle.iot_gen.specs.Generated.{text_of, add_lines}
use Rattle.iot_gen.proofs.lines.put_adds.Given as goal

-- the text so far, and what is left, are the whole
abbrev pub invariant-loop-file : goal.invariant-loop-file
invariant-loop-file l =
    l.out ++ text_of (flat_map add_lines (drop l.file-index l.files)) ≡ l.initial.out ++ text_of (flat_map add_lines l.files)
