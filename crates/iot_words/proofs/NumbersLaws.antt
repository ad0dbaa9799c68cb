-- Laws of numbers: a text that is parsed as no number of 64 bits spells none.
use Rattle.std.proofs.Common.{◌≡◌, ◌∙◌, ℕ, ◌<◌, ◌≤◌, ◌&&◌, Bool, true, false, List, [], ◌∷◌, length, codes, Result, Ok}
use Rattle.std.proofs.Common.{None, ap, sym, refl, nat_le, nat_eq, not, arith, ◌||◌}
use Rattle.std.specs.Char.{is_ascii_digit}
use Rattle.std.specs.List.{list_all, starts_with}
use Rattle.std.specs.Result.{result_ok}
use Rattle.std.specs.Str.Parse.{AllDigits, digits_value, ParsesUnsigned}
use Rattle.std.proofs.lemmas.Bool.{and_parts}
use Rattle.std.proofs.lemmas.Bool.Decides.{nat_tests}
use Rattle.std.proofs.lemmas.Str.{digit_value_digit}
use Rattle.std.proofs.lemmas.Str.Parse.{numerals_by_value, tells_digits, parse_gives}
use Rattle.iot_words.specs.Numbers.{is_number, number_of}

digits_of : (text : List ℕ) → list_all is_ascii_digit text ≡ true → AllDigits 10 text
digits_of [] are = tt
digits_of (byte ∷ more) are =
    let parts = and_parts (is_ascii_digit byte) (list_all is_ascii_digit more) are in
    let range = and_parts (nat_le 48 byte) (nat_le byte 57) parts.0 in
    let least : 48 ≤ byte = grind (arith, nat_tests, range.0) in
    let most : byte ≤ 57 = grind (arith, nat_tests, range.1) in
    (omega (arith, digit_value_digit byte (least, most), most), digits_of more parts.1)

pub too_large : {E : Type 0} (text : List ℕ) (result : Result ℕ E) → is_number text ≡ true → ParsesUnsigned 64 10 text result
    → result_ok result ≡ None → None ≡ number_of text
too_large text result is parses none =
    let first = and_parts (nat_le 1 (length text) && list_all is_ascii_digit text)
    (nat_eq (length text) 1 || not (starts_with nat_eq text (codes "0"))) is in
    let second = and_parts (nat_le 1 (length text)) (list_all is_ascii_digit text) first.0 in
    go (grind (arith, nat_tests, second.0)) (digits_of text second.1) (nat_le (digits_value 10 text) 1000000) refl
  where
    go : 0 < length text → AllDigits 10 text → (small : Bool) → nat_le (digits_value 10 text) 1000000 ≡ small → None ≡ number_of text
    go some digits true e =
        let least : digits_value 10 text ≤ 1000000 = grind (arith, nat_tests, e) in
        let given : result ≡ Ok (digits_value 10 text) =
        parse_gives (numerals_by_value _ tells_digits) 64 text result parses digits some (omega arith) in
        absurd (let never = sym none ∙ ap result_ok given in cc)
    go some digits false e = rw (is, e) refl
