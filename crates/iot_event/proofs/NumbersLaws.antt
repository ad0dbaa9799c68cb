-- Laws of numbers as words: what is a number is parsed as what its digits say.
use Rattle.std.proofs.Common.{◌≡◌, ℕ, ◌<◌, ◌≤◌, ◌^◌, ◌&&◌, Bool, true, false, List, [], ◌∷◌, length, codes, Result, Ok}
use Rattle.std.proofs.Common.{refl, nat_le, nat_eq, not, arith}
use Rattle.std.specs.Char.{is_ascii_digit}
use Rattle.std.specs.List.{list_all, starts_with}
use Rattle.std.specs.Str.{IsUtf8}
use Rattle.std.specs.Str.Parse.{AllDigits, digits_value, ParsesUnsigned}
use Rattle.std.proofs.Math.Nat.{pow-le-pow_right}
use Rattle.std.proofs.lemmas.Bool.Decides.{nat_tests}
use Rattle.std.proofs.lemmas.Fmt.{IsAscii-from_digits}
use Rattle.std.proofs.lemmas.Int.Digits.{digits_value-lt}
use Rattle.std.proofs.lemmas.Result.{Ok-from_Ok_iff}
use Rattle.std.proofs.lemmas.Str.{IsUtf8-from_ascii, digit_value_digit}
use Rattle.std.proofs.lemmas.Str.Parse.{numerals_by_value, tells_digits, parse_digits}
use Rattle.iot_event.specs.Numbers.{is_number}
use Rattle.iot_event.specs.declared.number.TheConstants.{DIGIT_LIMIT}

both : (a b : Bool) → a && b ≡ true → (a ≡ true) × (b ≡ true)
both true b is = (refl, is)
both false b is = absurd cc

digits_of : (word : List ℕ) → list_all is_ascii_digit word ≡ true → AllDigits 10 word
digits_of [] are = tt
digits_of (byte ∷ more) are =
    let parts = both (is_ascii_digit byte) (list_all is_ascii_digit more) are in
    let range = both (nat_le 48 byte) (nat_le byte 57) parts.0 in
    let least : 48 ≤ byte = grind (arith, nat_tests, range.0) in
    let most : byte ≤ 57 = grind (arith, nat_tests, range.1) in
    (omega (arith, digit_value_digit byte (least, most), most), digits_of more parts.1)

-- what a word that is a number is like
pub record IsNumber (word : List ℕ) : Type 0 where
  pub some : 0 < length word
  pub few : length word ≤ DIGIT_LIMIT
  pub digits : AllDigits 10 word

pub number_is : (word : List ℕ) → is_number word ≡ true → IsNumber word
number_is word is =
    let first = both _ (list_all is_ascii_digit word) is in
    let second = both (nat_le 1 (length word) && nat_le (length word) DIGIT_LIMIT) (not (starts_with nat_eq word (codes "0"))) first.0 in
    let third = both (nat_le 1 (length word)) (nat_le (length word) DIGIT_LIMIT) second.0 in
    record {
      some = grind (arith, nat_tests, third.0);
      few = grind (arith, nat_tests, third.1);
      digits = digits_of word first.1;
    }

pub number_text : (word : List ℕ) → is_number word ≡ true → IsUtf8 word
number_text word is = IsUtf8-from_ascii word (IsAscii-from_digits word (number_is word is).digits)

-- what is parsed of such a word
pub parsed : {E : Type 0} (word : List ℕ) (result : Result ℕ E) → is_number word ≡ true → ParsesUnsigned 64 10 word result
    → result ≡ Ok (digits_value 10 word)
parsed word result is parses =
    let number : IsNumber word = number_is word is in
    let fits : digits_value 10 word
    < 2 ^ 64 =
    omega (arith, digits_value-lt 10 word number.digits, pow-le-pow_right {n = 10} (omega arith) number.few) in
    Ok-from_Ok_iff result _ (digits_value 10 word) (parse_digits (numerals_by_value _ tells_digits) 64 word result parses number.digits)
    (number.some, fits)
