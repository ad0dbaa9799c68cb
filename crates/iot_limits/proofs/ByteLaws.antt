-- Laws of the bytes of values, of words and of what is printed.
use Rattle.std.proofs.Common.{◌≡◌, ℕ, ◌==◌, Bool, true, false, ◌||◌, IsTrue, List, [], ◌∷◌, ◌++◌, Option, Some, None, refl, ◌∙◌}
use Rattle.std.proofs.Common.{if◌then◌else◌, arith}
use Rattle.std.proofs.lemmas.Bool.Decides.{nat_tests}
use Rattle.std.proofs.lemmas.List.Folds.{list_all-append}
use Rattle.std.specs.List.{list_all}
use Rattle.std.specs.Cmp.{first_so, second_so}
use Rattle.std.specs.Cmp.Derive.{both_true}
use Rattle.iot_text.specs.Names.{is_name_byte, is_name, IsName}
use Rattle.iot_text.specs.Paths.{is_slash, IsPath, names_text, path_text, slash_parts, names_of, path_of}
use Rattle.iot_lines.specs.Lines.{onto_line, lines}
use Rattle.iot_lang.specs.Bytes.{is_plain_byte, is_quoted_byte}
use Rattle.iot_views.specs.Rules.{is_printable, is_content_byte, IsLine, AreLines}

-- ---- single bytes

name_byte : (b : ℕ) → IsTrue (is_name_byte b) → IsTrue (is_printable b)
name_byte b is = grind (arith, nat_tests)

pub plain_byte : (b : ℕ) → IsTrue (is_plain_byte b) → IsTrue (is_content_byte b)
plain_byte b is = grind (arith, nat_tests)

pub quoted_byte : (b : ℕ) → IsTrue (is_quoted_byte b || b == 10 || b == 34 || b == 92) → IsTrue (is_content_byte b)
quoted_byte b is = grind (arith, nat_tests)

printed_byte : (b : ℕ) → IsTrue (is_printable b) → IsTrue (is_content_byte b)
printed_byte b is = rw is refl

-- ---- all bytes of a text

-- every byte may stand in contents
abbrev pub AreContentBytes : List ℕ → Type 0
AreContentBytes bytes = IsTrue (list_all is_content_byte bytes)

pub weaker : (p q : ℕ → Bool) → ((b : ℕ) → IsTrue (p b) → IsTrue (q b)) → (bytes : List ℕ) → IsTrue (list_all p bytes)
    → IsTrue (list_all q bytes)
weaker p q then_ [] all = refl
weaker p q then_ (b ∷ bytes) all = both_true (then_ b (first_so (p b) _ all)) (weaker p q then_ bytes (second_so (p b) _ all))

pub joined : {X : Type 0} (p : X → Bool) (one two : List X) → IsTrue (list_all p one) → IsTrue (list_all p two)
    → IsTrue (list_all p (one ++ two))
joined p one two first second = list_all-append p one two ∙ both_true first second

pub printed : (bytes : List ℕ) → IsLine bytes → AreContentBytes bytes
printed bytes line = weaker is_printable is_content_byte printed_byte bytes line

-- ---- names and paths

name_bytes : (name : List ℕ) → IsName name → IsTrue (list_all is_name_byte name)
unfolding is_name
name_bytes name is = grind (arith, nat_tests)

pub name_is_line : (name : List ℕ) → IsName name → IsLine name
name_is_line name is = weaker is_name_byte is_printable name_byte name (name_bytes name is)

names_are_line : (names : List (List ℕ)) → IsPath names → IsLine (names_text names)
names_are_line [] valid = refl
names_are_line (name ∷ names) valid =
    joined is_printable (47 ∷ name) (names_text names) (name_is_line name (first_so (is_name name) _ valid))
    (names_are_line names (second_so (is_name name) _ valid))

pub path_is_line : (path : List (List ℕ)) → IsPath path → IsLine (path_text path)
path_is_line [] valid = refl
path_is_line (name ∷ names) valid = names_are_line (name ∷ names) valid

-- a path, if there is one
abbrev pub IsPathIfAny : Option (List (List ℕ)) → Type 0
IsPathIfAny None = Unit {0}
IsPathIfAny (Some path) = IsPath path

tested : (path : List (List ℕ)) (is : Bool) → list_all is_name path ≡ is → IsPathIfAny (if is then Some path else None)
tested path true valid = valid
tested path false valid = tt

names_are_path : (text : List ℕ) → IsPathIfAny (names_of text)
names_are_path [] = refl
names_are_path (b ∷ text) = tested (slash_parts (b ∷ text)) (list_all is_name (slash_parts (b ∷ text))) refl

after_slash : (is : Bool) (rest : List ℕ) → IsPathIfAny (if is then names_of rest else None)
after_slash true rest = names_are_path rest
after_slash false rest = tt

pub parsed_is_path : (text : List ℕ) → IsPathIfAny (path_of text)
unfolding path_of
parsed_is_path [] = tt
parsed_is_path (b ∷ rest) = after_slash (is_slash b) rest

-- ---- lines

onto_is_line : (b : ℕ) (texts : List (List ℕ)) → IsTrue (is_printable b) → AreLines texts → AreLines (onto_line b texts)
onto_is_line b [] byte are = (both_true byte refl, tt)
onto_is_line b (text ∷ texts) byte are = (both_true byte are.0, are.1)

with_byte : (b : ℕ) (newline : Bool) (texts : List (List ℕ)) → IsTrue (is_printable b || newline) → AreLines texts
    → AreLines (if newline then [] ∷ texts else onto_line b texts)
with_byte b true texts byte are = (refl, are)
with_byte b false texts byte are = onto_is_line b texts (grind (arith, nat_tests)) are

-- the lines of contents are lines
pub lines_are_lines : (bytes : List ℕ) → AreContentBytes bytes → AreLines (lines bytes)
lines_are_lines [] all = tt
lines_are_lines (b ∷ bytes) all =
    with_byte b (b == 10) (lines bytes) (first_so (is_content_byte b) _ all) (lines_are_lines bytes (second_so (is_content_byte b) _ all))
