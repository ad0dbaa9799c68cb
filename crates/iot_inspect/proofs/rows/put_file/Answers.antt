use Rattle.std.proofs.Common.{[], ◌∷◌, ◌++◌, codes, sym, append-nil}
use Rattle.iot_text.specs.Paths.{path_text}
use Rattle.iot_text.specs.Quotes.{quoted}
use Rattle.iot_text.proofs.TextsLaws.{on_err, part_after}
use Rattle.iot_inspect.specs.Texts.{mode_text}
use Rattle.iot_inspect.proofs.PiecesLaws.{file_words}
use Rattle.iot_inspect.proofs.rows.put_file.Goals as goal

pub returns-in_err-put_path-clause-err : goal.returns-in_err-put_path-clause-err
returns-in_err-put_path-clause-err c =
    let path = path_text c.args.path.now in
    let contents = quoted c.args.contents.now in
    let mode = mode_text c.args.mode in
    on_err _
    (part_after c.args.out.now c.args.out.now c.put_path.new.out [] (codes "file " ++ path ++ 32 ∷ []) (contents ++ (mode ++ 10 ∷ [])) _
    (sym (append-nil c.args.out.now)) c.in_err-put_path.ensures.err (file_words (codes "file ") path (32 ∷ []) contents mode (10 ∷ [])))

pub returns-in_err-quote-clause-err : goal.returns-in_err-quote-clause-err
returns-in_err-quote-clause-err c =
    let path = path_text c.args.path.now in
    let contents = quoted c.as_slice.result.now in
    let mode = mode_text c.args.mode in
    rw (← c.as_slice.ensures)
    (on_err _
    (part_after c.args.out.now c.put_path.new.out c.quote.new.out (codes "file " ++ path ++ 32 ∷ []) contents (mode ++ 10 ∷ []) _
    c.in_ok-put_path.ensures.ok c.in_err-quote.ensures.err (file_words (codes "file ") path (32 ∷ []) contents mode (10 ∷ []))))
