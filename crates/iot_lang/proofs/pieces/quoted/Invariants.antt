use Rattle.std.proofs.Common.{◌≡◌, ◌≤◌, length}
use Rattle.iot_lang.specs.Parsing.{with_front, quoted_at}
use Rattle.iot_lang.proofs.pieces.quoted.Given as goal

-- the bytes so far, and those that are parsed of the rest, are those of the whole text
abbrev pub invariant-bytes : goal.invariant-bytes
invariant-bytes l = record {
  told : with_front l.bytes.items (quoted_at l.rest) ≡ quoted_at l.fn.text;
  shorter : length l.rest ≤ length l.fn.text;
}

abbrev pub decreases-bytes : goal.decreases-bytes
decreases-bytes l = length l.rest
