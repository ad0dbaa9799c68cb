use Rattle.std.proofs.Common.{◌≡◌, ◌++◌, take}
use Rattle.iot_lang.specs.Words.{word_text}
use Rattle.iot_lang.proofs.printing.put_word.Given as goal

-- the pieces so far have been appended
abbrev pub invariant-pieces : goal.invariant-pieces
invariant-pieces l = l.out ≡ l.initial.out ++ word_text (take l.piece-index l.piece-items)
