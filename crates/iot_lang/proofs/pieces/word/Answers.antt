use Rattle.std.proofs.Common.{rules, arith}
use Rattle.std.proofs.lemmas.Result.{err_from_is_err_and}
use Rattle.iot_lang.specs.Parsing.{piece_at, word_at}
use Rattle.iot_lang.proofs.ParsingLaws.{pieces_more, pieces_malformed, pieces_end, word_at-malformed, word_at-none, word_at-some, failed}
use Rattle.iot_lang.proofs.pieces.word.Goals as goal

pub pieces-preserved : goal.pieces-preserved
pieces-preserved c =
    pieces_more c.pieces.pieces.items c.push.new.self.items c.pieces.rest.now c.in_ok-piece.after.now _ c.in_ok-piece.piece (grind arith)
    c.in_ok-piece.ensures.parses c.in_ok-piece.ensures.shorter (search rules) c.pieces.invariant

pub returns-then-is_empty : goal.returns-then-is_empty
returns-then-is_empty c =
    word_at-none c.args.text.now c.pieces.rest.now c.pieces.pieces.items (grind arith)
    (pieces_end c.pieces.pieces.items c.pieces.rest.now _ (grind arith) c.pieces.invariant)

pub returns : goal.returns
returns c =
    let h =
    word_at-some c.args.text.now c.pieces.rest.now c.pieces.pieces.items (grind arith)
    (pieces_end c.pieces.pieces.items c.pieces.rest.now _ (grind arith) c.pieces.invariant) in
    grind arith

pub returns-in_err-piece : goal.returns-in_err-piece
returns-in_err-piece c =
    let p = err_from_is_err_and c.from_residual.result c.from_residual.ensures.1 in
    rw (p.1, p.2)
    (failed c.in_err-piece.field-0.0 (piece_at c.pieces.rest.now) (word_at c.args.text.now)
    (λ e. word_at-malformed c.args.text.now
    (pieces_malformed c.pieces.pieces.items c.pieces.rest.now _ (grind arith) e c.pieces.invariant))
    c.in_err-piece.ensures.parses)
