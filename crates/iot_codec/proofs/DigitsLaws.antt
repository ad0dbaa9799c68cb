-- The bytes of a number.
use Rattle.std.proofs.Common.{◌≡◌, ◌∙◌, ℕ, List, ap, length}
use Rattle.std.specs.Int.{w64, to_be_bytes}
use Rattle.iot_codec.specs.Spelling.{number_spelling}
use Rattle.iot_codec.specs.Laws.Parts.{length-number}

pub length-digits : (n : ℕ) (digits : List ℕ) → digits ≡ to_be_bytes w64 n → length digits ≡ 8
unfolding number_spelling
length-digits n digits is = ap length is ∙ length-number n
