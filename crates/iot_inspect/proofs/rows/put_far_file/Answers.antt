use Rattle.std.proofs.Common.{[], ◌∷◌, ◌++◌, codes, sym, append-nil, append_assoc}
use Rattle.iot_text.specs.Paths.{path_text}
use Rattle.iot_text.proofs.TextsLaws.{on_err, part_after}
use Rattle.iot_inspect.specs.Texts.{mode_text}
use Rattle.iot_inspect.proofs.rows.put_far_file.Goals as goal

pub returns-in_err-put_path-clause-err : goal.returns-in_err-put_path-clause-err
returns-in_err-put_path-clause-err c =
    let path = path_text c.args.path.now in
    let end = mode_text c.args.mode ++ 10 ∷ [] in
    on_err _
    (part_after c.args.out.now c.args.out.now c.put_path.new.out [] (codes "file " ++ path ++ codes " far") end _
    (sym (append-nil c.args.out.now)) c.in_err-put_path.ensures.err (simp append_assoc))
