use Rattle.iot_lang.specs.Words.{piece_text}
use Rattle.iot_lang.proofs.PrintLaws.{appended_more}
use Rattle.iot_lang.proofs.printing.put_word.Goals as goal

pub pieces-preserved : goal.pieces-preserved
pieces-preserved c =
    appended_more piece_text c.pieces-piece-items.result.now c.pieces.piece-index c.piece-item.result c.push.new.self c.pieces.out
    c.put_piece.new.out c.pieces-test.true c.piece-item.is c.in_ok-put_piece.ensures c.pieces.invariant
