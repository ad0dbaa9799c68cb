use Rattle.std.proofs.Common.{[], ◌∷◌, ◌++◌, map, codes}
use Rattle.std.proofs.lemmas.Result.{IfOk-weaker}
use Rattle.iot_gen.specs.Generated.{init_lines, files, file_line}
use Rattle.iot_gen.proofs.TextsLaws.{two_parts}
use Rattle.iot_gen.proofs.lines.put_init.Goals as goal

pub returns : goal.returns
unfolding init_lines
returns c =
    IfOk-weaker c.append-2.result _ _
    (λ _ last.
    two_parts c.args.out.now c.append.new.self c.append-2.new.self (codes "script init {" ∷ codes "mkdir /d" ∷ [])
    (map file_line files ++ codes "}" ∷ [])
    c.in_ok-append.ensures.ok
    (two_parts c.append.new.self c.put_files.new.out c.append-2.new.self (map file_line files) (codes "}" ∷ []) c.in_ok-put_files.ensures
    last))
    c.append-2.ensures.ok
