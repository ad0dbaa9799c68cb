-- The laws of names, contents, lines, paths and tables.
use Rattle.std.proofs.Common.{◌≡◌, ℕ, ◌<◌, ◌≤◌, Bool, ◌&&◌, IsTrue, List, [], ◌∷◌, length, Ok, refl, ◌∙◌, arith, length-append}
use Rattle.std.specs.List.{list_all, AllByRecursion}
use Rattle.std.specs.Cmp.{first_so, second_so}
use Rattle.std.specs.Ordering.{nat_cmp}
use Rattle.std.specs.Cmp.Lexicographic.{slice_cmp}
use Rattle.iot_text.specs.Paths.{IsPath, path_cmp}
use Rattle.iot_text.specs.Names.{is_name, IsName}
use Rattle.iot_tree.specs.declared.kinds.Kind as object
use Rattle.iot_tree.specs.declared.kinds.Kind.TheVariants as kinds
use Rattle.iot_tree.specs.declared.limits.TheConstants.{CONTENTS_LIMIT}
use Rattle.iot_codec.specs.Places.{LiesAt, IsSpelling}
use Rattle.iot_views.specs.Decoders.{Decoder, ◌>>=◌, done, tested, bytes_at, number_at, at_most}
use Rattle.iot_views.specs.Decoding.{name_at, path_at, contents_at, line_at, lines_at, files_at, kind_at, children_at}
use Rattle.iot_views.specs.Rules.{IsNumber, IsContents, IsLine, AreLines, AreFiles, IsObject, AreChildren, is_content_byte, is_printable}
use Rattle.iot_codec.specs.Spelling.{number_spelling, counted, name_spelling, path_spelling, contents_spelling, line_spelling}
use Rattle.iot_codec.specs.Spelling.{lines_spelling, files_spelling, kind_spelling, children_spelling}
use Rattle.iot_codec.specs.Laws.Parts.{number_laws, at_most_laws, counted_laws, without_count, same_rule}
use Rattle.iot_codec.specs.Laws.Lists.{list_laws, table_laws}
use Rattle.iot_codec.specs.Laws.Tags.{AreArms, empty_arm, tagged_found, tagged_again, empty_again}

both_so : (a b : Bool) → IsTrue a → IsTrue b → IsTrue (a && b)
both_so a b p q = rw (p, q) refl

-- bytes after their number, with a rule for the bytes alone
ruled_laws : (rule : List ℕ → Bool) → IsSpelling (λ part. IsTrue (rule part)) counted (number_at >>= λ n. tested rule (bytes_at n))
ruled_laws rule = without_count length (λ part. IsTrue (rule part)) counted (number_at >>= λ n. tested rule (bytes_at n))
    (λ part. omega (arith, length-append (number_spelling (length part)) part))
    (counted_laws IsNumber number_at number_laws rule)

pub name_laws : IsSpelling IsName name_spelling name_at
unfolding name_at
name_laws = ruled_laws is_name

pub line_laws : IsSpelling IsLine line_spelling line_at
unfolding line_at
line_laws = ruled_laws (list_all is_printable)

pub contents_laws : IsSpelling IsContents contents_spelling contents_at
unfolding contents_at
contents_laws =
    let Ruled : List ℕ → Type 0 = λ part. (length part ≤ CONTENTS_LIMIT) × IsTrue (list_all is_content_byte part) in
    same_rule Ruled IsContents contents_spelling contents_at
    (λ part rules. record { few = rules.0; bytes = rules.1 }) (λ part rules. (rules.few, rules.bytes))
    (counted_laws (λ n. n ≤ CONTENTS_LIMIT) (at_most CONTENTS_LIMIT) (at_most_laws CONTENTS_LIMIT (omega arith)) (list_all is_content_byte))

-- ---- paths and lines

names_from_path : (path : List (List ℕ)) → IsPath path → AllByRecursion IsName path
names_from_path [] valid = tt
names_from_path (name ∷ names) valid = (first_so (is_name name) _ valid, names_from_path names (second_so (is_name name) _ valid))

pub path_from_names : (names : List (List ℕ)) → AllByRecursion IsName names → IsPath names
path_from_names [] all = refl
path_from_names (name ∷ names) all = both_so (is_name name) (list_all is_name names) all.0 (path_from_names names all.1)

pub path_laws : IsSpelling IsPath path_spelling path_at
unfolding path_at
path_laws =
    same_rule (AllByRecursion IsName) IsPath path_spelling path_at path_from_names names_from_path
    (list_laws IsName name_spelling name_at name_laws)

pub lines_laws : IsSpelling AreLines lines_spelling lines_at
unfolding lines_at
lines_laws = list_laws IsLine line_spelling line_at line_laws

-- ---- files, and what is in a directory

pub files_laws : IsSpelling AreFiles files_spelling files_at
unfolding files_at
files_laws = table_laws path_cmp IsPath path_spelling path_at path_laws IsContents contents_spelling contents_at contents_laws

kind_table : List (ℕ × Decoder object.Kind)
kind_table = (3, done kinds.IsDir) ∷ (4, done kinds.IsFile) ∷ []

kind_arms : AreArms IsObject kind_spelling kind_table
unfolding kind_table kind_spelling
kind_arms = (empty_arm IsObject kind_spelling 3 kinds.IsDir tt refl, (empty_arm IsObject kind_spelling 4 kinds.IsFile tt refl, tt))

kind_again : (k : object.Kind) (bytes : List ℕ) (at end : ℕ) → IsObject k → LiesAt bytes at (kind_spelling k) end
    → kind_at bytes at ≡ Ok (k, end)
unfolding kind_at kind_table kind_spelling
kind_again kinds.Away bytes at end has p = absurd has
kind_again kinds.Absent bytes at end has p = absurd has
kind_again kinds.IsDir bytes at end has p = tagged_again kind_table bytes at end 3 [] p ∙ empty_again kinds.IsDir bytes at end 3 p
kind_again kinds.IsFile bytes at end has p = tagged_again kind_table bytes at end 4 [] p ∙ empty_again kinds.IsFile bytes at end 4 p

kind_some : (k : object.Kind) → 0 < length (kind_spelling k)
unfolding kind_spelling
kind_some kinds.Away = omega arith
kind_some kinds.Absent = omega arith
kind_some kinds.IsDir = omega arith
kind_some kinds.IsFile = omega arith

pub kind_laws : IsSpelling IsObject kind_spelling kind_at
unfolding kind_at kind_table
kind_laws = record {
  found = λ bytes at read fit e. tagged_found IsObject kind_spelling kind_table bytes at read kind_arms fit e;
  only = λ bytes at read short p. kind_again read.0 bytes at read.1 p.value p.place;
  some = kind_some;
}

pub children_laws : IsSpelling AreChildren children_spelling children_at
unfolding children_at
children_laws = table_laws (slice_cmp nat_cmp) IsName name_spelling name_at name_laws IsObject kind_spelling kind_at kind_laws
