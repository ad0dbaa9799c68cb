use Rattle.std.proofs.Common.{◌≡◌, ℕ, ◌+◌, Bool, cond, List, ◌++◌, length, get_or, take, drop, ◌∙◌, sym, ap, arith}
use Rattle.std.proofs.lemmas.List.{set-get_or}
use Rattle.iot_disk.specs.Memory.{filled}
use Rattle.iot_disk.specs.Unsynced.{is_marked, all_marks}
use Rattle.iot_disk.proofs.MarksLaws.{length-all_marks, mark_is}
use Rattle.iot_disk.proofs.MemoryLaws.{fill_step}
use Rattle.iot_disk.proofs.bytes.fill.Goals as goal
use Rattle.iot_disk.proofs.bytes.fill.Goals.{then-is_marked, else-is_marked}

pub loop-i-preserved : goal.loop-i-preserved
loop-i-preserved c =
    let i = c.loop-i.i in
    let bytes = c.loop-i.bytes in
    let known = c.args.marks.now in
    let marks = all_marks known (length c.args.bytes.now) in
    let byte = c.args.byte in
    let goes_on = λ (l : List ℕ). take (i + 1) l ++ filled byte (drop (i + 1) marks) (drop (i + 1) l) in
    let put = λ (b : Bool). cond b byte (get_or bytes i 0) in
    let size = length-all_marks known (length c.args.bytes.now) c.requires in
    let mark : is_marked marks i ≡ c.is_marked.result =
    mark_is known (length c.args.bytes.now) i (omega arith) ∙ sym c.is_marked.ensures in
    elim c.if-is_marked.branch [
      | then-is_marked w ↦
          ap goes_on w.bytes-is
          ∙ fill_step byte marks bytes i byte (omega (arith, size)) (omega arith) (ap put (sym (mark ∙ w.if-is_marked.true)))
          ∙ c.loop-i.invariant
      | else-is_marked w ↦
          ap goes_on (w.bytes-is ∙ sym (set-get_or bytes i 0))
          ∙ fill_step byte marks bytes i (get_or bytes i 0) (omega (arith, size)) (omega arith) (ap put (sym (mark ∙ w.if-is_marked.false)))
          ∙ c.loop-i.invariant
    ]
