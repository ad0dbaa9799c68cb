use Rattle.std.proofs.Common.{length}
use Rattle.iot_lines.specs.Words.{without_blanks}
use Rattle.iot_lang.specs.Parsing.{pieces_at}
use Rattle.iot_lang.proofs.ParsingLaws.{ParsesOn}
use Rattle.iot_lang.proofs.pieces.word.Given as goal

-- the pieces so far, and those that are parsed of the rest, are those of the whole text
abbrev pub invariant-pieces : goal.invariant-pieces
invariant-pieces l = ParsesOn l.pieces.items l.rest (pieces_at (length (without_blanks l.fn.text)) (without_blanks l.fn.text))

abbrev pub decreases-pieces : goal.decreases-pieces
decreases-pieces l = length l.rest
