use Rattle.std.proofs.lemmas.Result.{err_from_is_err_and}
use Rattle.iot_keep_app.proofs.FramesLaws.{number_cut, bytes_end}
use Rattle.iot_keep_app.proofs.frames.write_frame.Goals as goal

pub returns-in_err-write_piece-clause-wrote : goal.returns-in_err-write_piece-clause-wrote
returns-in_err-write_piece-clause-wrote g c =
    let p = err_from_is_err_and c.from_residual.result c.from_residual.ensures.1 in
    rw (p.1, p.2) (number_cut (Unit {0}) (Unit {0}) _ _ c.args.bytes.now c.in_err-write_piece.field-0.0 c.to_be_bytes.ensures
    c.in_err-write_piece.ensures.wrote)

pub returns-clause-wrote : goal.returns-clause-wrote
returns-clause-wrote g c =
    let sink = g.K.Sink in
    bytes_end _ (sink.written c.args.sink.now) (sink.written c.write_piece.new.sink) (sink.written c.write_piece-2.new.sink)
    c.to_be_bytes.result c.args.bytes.now c.to_be_bytes.ensures c.in_ok-write_piece.ensures.wrote c.write_piece-2.result
    c.write_piece-2.ensures.wrote
