use Rattle.std.proofs.Common.{◌++◌, [], ◌∷◌, codes, decimal}
use Rattle.std.proofs.lemmas.Result.{IfOk-weaker}
use Rattle.iot_gen.proofs.TextsLaws.{as_part, ends_with_number, four_parts}
use Rattle.iot_gen.proofs.lines.put_add.Goals as goal

pub returns : goal.returns
returns c =
    IfOk-weaker c.append.result _ _
    (λ _ last.
    four_parts c.args.out.now c.put_numbered.new.out c.put_numbered-2.new.out c.put_numbered-3.new.out c.append.new.self
    ((codes "script add" ++ decimal c.args.file ++ codes " {") ∷ [])
    ((codes "append /d/f" ++ decimal c.args.file ++ codes " \"+\"") ∷ [])
    ((codes "cat /d/f" ++ decimal c.args.file) ∷ [])
    (codes "}" ∷ [])
    (as_part c.args.out.now _ (codes "script add" ++ decimal c.args.file ++ codes " {") c.in_ok-put_numbered.ensures)
    (as_part c.put_numbered.new.out _ (codes "append /d/f" ++ decimal c.args.file ++ codes " \"+\"") c.in_ok-put_numbered-2.ensures)
    (as_part c.put_numbered-2.new.out _ (codes "cat /d/f" ++ decimal c.args.file)
    (ends_with_number c.put_numbered-2.new.out c.put_numbered-3.new.out (codes "cat /d/f") (decimal c.args.file)
    c.in_ok-put_numbered-3.ensures))
    last)
    c.append.ensures.ok
