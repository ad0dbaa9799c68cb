-- Laws of names, and of the array that holds one.
use Rattle.std.proofs.Common.{ℕ, ◌≡◌, ◌<◌, ◌≤◌, true, false, List, ◌++◌, length, take, drop, replicate, refl, arith}
use Rattle.std.specs.List.{list_all}
use Rattle.std.proofs.lemmas.List.{take_at, drop-replicate}
use Rattle.std.proofs.lemmas.Bool.Decides.{nat_tests}
use Rattle.iot_text.specs.Names.{is_name_byte, is_dots, is_name, IsName}
use Rattle.iot_text.specs.NameArrays.{IsStored}

-- what a name is, part by part
pub record NameParts (bytes : List ℕ) : Type 0 where
  pub not_empty : 0 < length bytes
  pub within_limit : length bytes ≤ 32
  pub not_dots : is_dots bytes ≡ false
  pub name_bytes : list_all is_name_byte bytes ≡ true

pub name_parts : (bytes : List ℕ) → IsName bytes → NameParts bytes
unfolding is_name
name_parts bytes name = record {
  not_empty = grind (arith, nat_tests);
  within_limit = grind (arith, nat_tests);
  not_dots = grind (arith, nat_tests);
  name_bytes = grind (arith, nat_tests);
}

pub name_from_parts : (bytes : List ℕ) → NameParts bytes → IsName bytes
unfolding is_name
name_from_parts bytes parts = grind (arith, nat_tests, parts.not_empty, parts.within_limit, parts.not_dots, parts.name_bytes)

-- the array that begins with a name
pub stored : (name : List ℕ) → IsName name → IsStored (length name) (name ++ drop (length name) (replicate 32 0))
stored name is =
    let parts : NameParts name = name_parts name is in
    let front : take (length name) (name ++ drop (length name) (replicate 32 0)) ≡ name = take_at name _ _ refl in
    record {
      name = rw front is;
      padded = rw (front, drop-replicate {X = ℕ} (length name) 32 0) refl;
      len_is = rw front refl;
    }
