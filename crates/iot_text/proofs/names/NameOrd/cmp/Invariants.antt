use Rattle.std.proofs.Common.{◌≡◌, ◌*◌, drop}
use Rattle.std.specs.Ordering.{nat_cmp}
use Rattle.std.specs.Cmp.Lexicographic.{slice_cmp}
use Rattle.iot_text.proofs.names.NameOrd.cmp.Given as goal

-- the words so far are equal, so that those after them decide
abbrev pub invariant-words : goal.invariant-words
invariant-words l = slice_cmp nat_cmp l.self-inside.bytes l.other-inside.bytes
    ≡ slice_cmp nat_cmp (drop (8 * l.word) l.self-inside.bytes) (drop (8 * l.word) l.other-inside.bytes)
