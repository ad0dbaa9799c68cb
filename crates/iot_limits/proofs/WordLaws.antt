-- The values of variables and words have bytes of contents.
use Rattle.std.proofs.Common.{◌≡◌, ℕ, Bool, true, false, cond, ◌&&◌, IsTrue, List, [], ◌∷◌, Option, Some, None, refl, sym, ap, subst, ◌∙◌}
use Rattle.std.proofs.Common.{length, unwrap_or, arith}
use Rattle.std.proofs.lemmas.Bool.Decides.{nat_tests}
use Rattle.std.proofs.lemmas.Option.{none-some}
use Rattle.std.specs.List.{list_all}
use Rattle.std.specs.Cmp.{first_so, second_so}
use Rattle.std.specs.Ordering.{eq_by_cmp, nat_cmp}
use Rattle.std.specs.Cmp.Lexicographic.{slice_cmp, nat_list_cmp_total}
use Rattle.std.specs.FinMap.{get, get-insert, get-empty}
use Rattle.iot_lang.specs.Bytes.{is_plain_byte}
use Rattle.iot_lang.specs.Words.{word_text, is_piece, is_longest, are_pieces, is_word}
use Rattle.iot_lang.specs.declared.words.Piece.{Piece}
use Rattle.iot_lang.specs.declared.words.Piece.TheVariants.{Plain, Quoted, Var}
use Rattle.iot_exec.specs.Values.{fresh, with_variable, piece_value, word_value}
use Rattle.iot_exec.specs.Operands.{is_too_large}
use Rattle.iot_exec.specs.declared.env.Env.{Env}
use Rattle.iot_views.specs.Rules.{is_content_byte, IsContents}
use Rattle.iot_limits.proofs.ByteLaws.{AreContentBytes, weaker, joined, plain_byte, quoted_byte}
use Rattle.iot_limits.proofs.PlanLaws.{IsSpelledEnv}

-- ---- variables

pub fresh_env : IsSpelledEnv fresh
fresh_env name value is = absurd (none-some value (sym (get-empty (slice_cmp nat_cmp) name) ∙ is))

with_or_before : (same : Bool) (new value : List ℕ) (before : Option (List ℕ)) → AreContentBytes new
    → (before ≡ Some value → AreContentBytes value) → cond same (Some new) before ≡ Some value → AreContentBytes value
with_or_before true new value before is was found = subst AreContentBytes (ap (λ o. unwrap_or o new) found) is
with_or_before false new value before is was found = was found

pub env_with : (name value : List ℕ) (env : Env) → AreContentBytes value → IsSpelledEnv env → IsSpelledEnv (with_variable name value env)
env_with name value env is spelled key found there =
    with_or_before (eq_by_cmp (slice_cmp nat_cmp) key name) value found (get env.variables key) is (spelled key found)
    (sym (get-insert nat_list_cmp_total env.variables name value key) ∙ there)

value_if_any : (value : Option (List ℕ)) → ((found : List ℕ) → value ≡ Some found → AreContentBytes found)
    → AreContentBytes (unwrap_or value [])
value_if_any None is = refl
value_if_any (Some found) is = is found refl

-- ---- words

module _ (env : Env) (spelled : IsSpelledEnv env) where
  piece_has : (piece : Piece) → IsTrue (is_piece piece) → AreContentBytes (piece_value env piece)
  piece_has (Plain text) is = weaker is_plain_byte is_content_byte plain_byte text (second_so _ (list_all is_plain_byte text) is)
  piece_has (Quoted text) is = weaker _ is_content_byte quoted_byte text is
  piece_has (Var name) is = value_if_any (get env.variables name) (spelled name)

  pieces_have : (pieces : List Piece) → IsTrue (are_pieces pieces) → AreContentBytes (word_value env pieces)
  pieces_have [] are = refl
  pieces_have (piece ∷ pieces) are =
      let this : Bool = is_piece piece && is_longest piece (word_text pieces) in
      joined is_content_byte (piece_value env piece) (word_value env pieces)
      (piece_has piece (first_so (is_piece piece) (is_longest piece (word_text pieces)) (first_so this (are_pieces pieces) are)))
      (pieces_have pieces (second_so this (are_pieces pieces) are))

  pub word_has : (word : List Piece) → IsTrue (is_word word) → AreContentBytes (word_value env word)
  word_has [] is = absurd cc
  word_has (piece ∷ pieces) is = pieces_have (piece ∷ pieces) is

-- a value within the limit is contents
pub within_limit : (value : List ℕ) → AreContentBytes value → is_too_large (length value) ≡ false → IsContents value
within_limit value has small = record { few = grind (arith, nat_tests); bytes = has }
