-- What a call leaves in a text that it appends to.
use Rattle.std.specs.Prelude.{ℕ, ◌≡◌, List, [], ◌∷◌, ◌++◌, slice_index}
use Rattle.std.specs.Str.Parse.{IsNumeral, digits_value}

-- the new text is the old one, perhaps with more after it
pub record Extends (old new : List ℕ) : Type 0 where
  pub more : List ℕ
  pub extended : new ≡ old ++ more

-- the new text is the old one followed by a beginning of what was to append
pub record AppendsPart (old new added : List ℕ) : Type 0 where
  pub part : List ℕ
  pub rest : List ℕ
  pub appended : new ≡ old ++ part
  pub beginning : part ++ rest ≡ added

-- the decimal digits of a number; zero alone begins with 0
pub record IsDecimal (number : ℕ) (text : List ℕ) : Type 0 where
  pub digits : IsNumeral 10 text
  pub value : digits_value 10 text ≡ number
  pub no_leading_zero : slice_index text 0 ≡ 48 → text ≡ 48 ∷ []
