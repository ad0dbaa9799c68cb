-- Which kinds of bytes exclude which.
use Rattle.std.proofs.Common.{◌≡◌, ◌⊎◌, inl, inr, ℕ, Bool, true, false, ◌||◌, eqb, refl, arith}
use Rattle.iot_lines.specs.Words.{is_blank, is_solid}
use Rattle.std.proofs.lemmas.Bool.Decides.{nat_tests}
use Rattle.iot_lang.specs.Bytes.{is_plain_byte, is_variable_byte, is_quoted_byte}

pub either : (a b : Bool) → (a || b) ≡ true → (a ≡ true) ⊎ (b ≡ true)
either true b h = inl refl
either false b h = inr h

pub blank_not_plain : (b : ℕ) → is_blank b ≡ true → is_plain_byte b ≡ false
blank_not_plain b h = grind (arith, nat_tests)

pub blank_not_variable : (b : ℕ) → is_blank b ≡ true → is_variable_byte b ≡ false
blank_not_variable b h = grind (arith, nat_tests)

pub variable_solid : (b : ℕ) → is_variable_byte b ≡ true → is_solid b ≡ true
variable_solid b h = grind (arith, nat_tests)

pub plain_no_quote : (b : ℕ) → is_plain_byte b ≡ true → eqb b 34 ≡ false
plain_no_quote b h = grind (arith, nat_tests)

pub plain_no_dollar : (b : ℕ) → is_plain_byte b ≡ true → eqb b 36 ≡ false
plain_no_dollar b h = grind (arith, nat_tests)

pub plain_not_blank : (b : ℕ) → is_plain_byte b ≡ true → is_blank b ≡ false
plain_not_blank b h = grind (arith, nat_tests)

pub quoted_no_quote : (b : ℕ) → is_quoted_byte b ≡ true → (eqb b 34 ≡ false) × (eqb b 92 ≡ false) × (eqb b 10 ≡ false)
quoted_no_quote b h = (grind (arith, nat_tests), grind (arith, nat_tests), grind (arith, nat_tests))
