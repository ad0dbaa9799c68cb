use Rattle.std.proofs.Common.{◌≡◌, ◌++◌, length, take, drop}
use Rattle.iot_disk.specs.Memory.{filled}
use Rattle.iot_disk.specs.Unsynced.{all_marks}
use Rattle.iot_disk.proofs.bytes.fill.Given as goal

-- the bytes so far, and what is to come of the others
abbrev pub invariant-loop-i : goal.invariant-loop-i
invariant-loop-i l =
    let marks = all_marks l.marks (length l.fn.bytes) in
    take l.i l.bytes ++ filled l.byte (drop l.i marks) (drop l.i l.bytes) ≡ filled l.byte marks l.fn.bytes
