-- What is printed spells the script.
use Rattle.std.proofs.Common.{◌≡◌, ◌+◌, ◌<◌, ◌≤◌, ◌++◌, ℕ, zero, suc, List, [], ◌∷◌, Option, None, Some, length, take, get_or, sym, ap}
use Rattle.std.proofs.Common.{◌∙◌, append_assoc, arith, Bool, true, false, ◌&&◌, ◌||◌, ◌==◌, eqb, map, refl, subst, codes}
use Rattle.std.specs.Cmp.{first_so, second_so}
use Rattle.iot_lines.specs.Lines.{onto_line, lines}
use Rattle.std.specs.List.{flat_map, list_all}
use Rattle.iot_lang.specs.Code.{Code, End, Plain, Halt, If, IfElse, For, size_of, script_lines}
use Rattle.iot_lang.specs.Blocks.{with_statement, code_of_statements}
use Rattle.iot_lang.specs.declared.blocks.Stmt.{Stmt}
use Rattle.std.proofs.lemmas.List.{take_more, append-nil, take_all}
use Rattle.std.proofs.lemmas.Bool.{eqb-true, not-true}
use Rattle.std.proofs.lemmas.Bool.Decides.{nat_tests}
use Rattle.std.proofs.lemmas.List.Folds.{list_all-append}
use Rattle.std.proofs.lemmas.Grind.{flat_map-append}
use Rattle.iot_text.specs.Quotes.{quoted_byte}
use Rattle.iot_lang.specs.Bytes.{is_plain_byte, is_variable_byte, is_quoted_byte}
use Rattle.iot_lang.specs.Words.{piece_text, word_text, is_piece, is_longest, are_pieces, is_word, is_variable}
use Rattle.iot_lang.specs.Lines.{is_line, is_command, is_condition, line_words, command_words, condition_words, IsSpaced, SpellsLine}
use Rattle.iot_lang.specs.Lines.{switch_text}
use Rattle.iot_lang.specs.Scripts.{SpellEach, said, Spell, IsScript}
use Rattle.iot_lang.specs.Print.{after_spaces, joined, printed, statement_lines, lines_in}
use Rattle.iot_lang.specs.declared.words.Piece.{Piece}
use Rattle.iot_lang.specs.declared.words.Command.{Command}
use Rattle.iot_lang.specs.declared.keywords.Keyword.{Keyword}
use Rattle.iot_lang.specs.declared.keywords.Keyword.TheVariants as keywords
use Rattle.iot_lang.specs.declared.words.Switch.{Switch}
use Rattle.iot_lang.specs.declared.words.Switch.TheVariants as switches
use Rattle.iot_lang.specs.declared.words.Cond.{Cond}
use Rattle.iot_lang.specs.declared.lines.Line.{Line}
use Rattle.iot_lines.proofs.FrontsLaws.{both_so}
use Rattle.iot_lang.proofs.ParsingLaws.{is_quotable, plain_quoted}
use Rattle.iot_lang.proofs.BlocksLaws.{script_lines-with_statement}
use Rattle.iot_lang.proofs.StatementsLaws.{is_inside, spelled_said, keyword_text, is_keyword, one_words, two_words_of, named_words}
use Rattle.iot_lang.proofs.StatementsLaws.{Form, one_form, two_form, named_form, concat_form, chmod_form, form_of}
use Rattle.iot_lang.specs.declared.blocks.Stmt.TheVariants as statements
use Rattle.iot_lang.specs.declared.words.Piece.TheVariants as pieces
use Rattle.iot_lang.specs.declared.words.Cond.TheVariants as conditions
use Rattle.iot_lang.specs.declared.lines.Line.TheVariants as says

flat_map-push : {X : Type 0} (f : X → List ℕ) (xs : List X) (x : X) → flat_map f (xs ++ x ∷ []) ≡ flat_map f xs ++ f x
flat_map-push f [] x = append-nil (f x)
flat_map-push f (y ∷ xs) x = ap (λ ys. f y ++ ys) (flat_map-push f xs x) ∙ sym (append_assoc (f y) (flat_map f xs) (f x))

-- one more element has been appended
pub appended_more : {X : Type 0} (f : X → List ℕ) (xs : List X) (i : ℕ) (x : X) (start out out' : List ℕ) → i < length xs
    → x ≡ get_or xs i x → out' ≡ out ++ f x
    → out ≡ start ++ flat_map f (take i xs) → out' ≡ start ++ flat_map f (take (i + 1) xs)
appended_more f xs i x start out out' inside is added told =
    let one : flat_map f (take (i + 1) xs) ≡ flat_map f (take i xs) ++ f x =
    rw (take_more xs i x inside, ← is) (flat_map-push f (take i xs) x) in
    rw (added, told, one) (append_assoc start (flat_map f (take i xs)) (f x))

-- ---- how large what is printed is

abbrev pub statement_size : Stmt → ℕ
statement_size s = size_of (with_statement s End)

abbrev pub otherwise_size : Option Code → ℕ
otherwise_size None = 0
otherwise_size (Some other) = size_of other

size_of-with_statement : (s : Stmt) (c : Code) → size_of (with_statement s c) + 1 ≡ statement_size s + size_of c
size_of-with_statement (statements.Do command) c = omega arith
size_of-with_statement statements.Stop c = omega arith
size_of-with_statement (statements.If condition body None) c = omega arith
size_of-with_statement (statements.If condition body (Some other)) c = omega arith
size_of-with_statement (statements.For x p body) c = omega arith

size_of-positive : (c : Code) → 0 < size_of c
size_of-positive End = omega arith
size_of-positive (Plain command rest) = omega arith
size_of-positive (Halt rest) = omega arith
size_of-positive (If condition body rest) = omega arith
size_of-positive (IfElse condition body other rest) = omega arith
size_of-positive (For x p body rest) = omega arith

-- no statement is larger than its block
pub statement_within : (ss : List Stmt) (i : ℕ) (s : Stmt) → i < length ss → s ≡ get_or ss i s
    → statement_size s ≤ size_of (code_of_statements ss)
statement_within [] i s inside is = absurd (omega arith)
statement_within (t ∷ ss) zero s inside is =
    rw is (omega (arith, size_of-with_statement t (code_of_statements ss), size_of-positive (code_of_statements ss)))
statement_within (t ∷ ss) (suc i) s inside is =
    omega (
      arith,
      size_of-with_statement t (code_of_statements ss),
      size_of-positive (with_statement t End),
      statement_within ss i s (omega arith) is,
    )

-- ---- statements after one another

-- what is printed of statements is what is printed of each
pub printed_each : (ss : List Stmt) → flat_map (λ s. printed (statement_lines s)) ss ≡ printed (lines_in ss)
printed_each [] = refl
printed_each (s ∷ ss) =
    ap (λ text. printed (statement_lines s) ++ text) (printed_each ss)
    ∙ sym (flat_map-append (λ l. joined (line_words l) ++ 10 ∷ []) (statement_lines s) (lines_in ss))
    ∙ ap printed (sym (script_lines-with_statement s (code_of_statements ss)))

-- all statements of a block have been printed
pub printed_block : (ss : List Stmt) (n : ℕ) (block : Code) (start out : List ℕ) → length ss ≤ n → code_of_statements ss ≡ block
    → out ≡ start ++ flat_map (λ s. printed (statement_lines s)) (take n ss) → out ≡ start ++ printed (script_lines block)
printed_block ss n block start out all is told =
    told ∙ ap (λ ts. start ++ flat_map (λ s. printed (statement_lines s)) ts) (take_all n ss all)
    ∙ ap (λ text. start ++ text) (printed_each ss) ∙ ap (λ c. start ++ printed (script_lines c)) is

-- ---- there is no newline in a word

plain_inside : (b : ℕ) → is_plain_byte b ≡ true → is_inside b ≡ true
plain_inside b h = grind (arith, nat_tests)

variable_inside : (b : ℕ) → is_variable_byte b ≡ true → is_inside b ≡ true
variable_inside b h = grind (arith, nat_tests)

quoted_inside : (b : ℕ) → is_quoted_byte b ≡ true → is_inside b ≡ true
quoted_inside b h = grind (arith, nat_tests)

each : (test other : ℕ → Bool) (xs : List ℕ) → ((b : ℕ) → test b ≡ true → other b ≡ true) → list_all test xs ≡ true
    → list_all other xs ≡ true
each test other [] step h = refl
each test other (b ∷ bs) step h =
    both_so (other b) (list_all other bs) (step b (first_so (test b) (list_all test bs) h))
    (each test other bs step (second_so (test b) (list_all test bs) h))

quotable_inside : (b : ℕ) → is_quotable b ≡ true → list_all is_inside (quoted_byte b) ≡ true
quotable_inside b h = by_test (eqb b 10) (eqb b 34) (eqb b 92) (is_quoted_byte b) refl refl refl refl h
  where
    by_test : (n q s p : Bool) → eqb b 10 ≡ n → eqb b 34 ≡ q → eqb b 92 ≡ s → is_quoted_byte b ≡ p → (p || n || q || s) ≡ true
        → list_all is_inside (quoted_byte b) ≡ true
    by_test true q s p is_n is_q is_s is_p h = let k : b ≡ 10 = eqb-true b 10 is_n in rw k refl
    by_test false true s p is_n is_q is_s is_p h = let k : b ≡ 34 = eqb-true b 34 is_q in rw k refl
    by_test false false true p is_n is_q is_s is_p h = let k : b ≡ 92 = eqb-true b 92 is_s in rw k refl
    by_test false false false true is_n is_q is_s is_p h = rw (plain_quoted b is_p) (both_so (is_inside b) true (quoted_inside b is_p) refl)
    by_test false false false false is_n is_q is_s is_p h = absurd cc

joined_inside : (xs ys : List ℕ) → list_all is_inside xs ≡ true → list_all is_inside ys ≡ true → list_all is_inside (xs ++ ys) ≡ true
joined_inside xs ys h k = list_all-append is_inside xs ys ∙ both_so (list_all is_inside xs) (list_all is_inside ys) h k

quoted_text_inside : (bytes : List ℕ) → list_all is_quotable bytes ≡ true → list_all is_inside (flat_map quoted_byte bytes) ≡ true
quoted_text_inside [] h = refl
quoted_text_inside (b ∷ bs) h =
    joined_inside (quoted_byte b) (flat_map quoted_byte bs) (quotable_inside b (first_so (is_quotable b) (list_all is_quotable bs) h))
    (quoted_text_inside bs (second_so (is_quotable b) (list_all is_quotable bs) h))

name_inside : (name : List ℕ) → is_variable name ≡ true → list_all is_inside name ≡ true
name_inside name h = each is_variable_byte is_inside name variable_inside (second_so _ (list_all is_variable_byte name) h)

piece_inside : (p : Piece) → is_piece p ≡ true → list_all is_inside (piece_text p) ≡ true
piece_inside (pieces.Plain bytes) h = each is_plain_byte is_inside bytes plain_inside (second_so _ (list_all is_plain_byte bytes) h)
piece_inside (pieces.Quoted bytes) h = joined_inside (flat_map quoted_byte bytes) (34 ∷ []) (quoted_text_inside bytes h) refl
piece_inside (pieces.Var name) h = name_inside name h

pieces_inside : (ps : List Piece) → are_pieces ps ≡ true → list_all is_inside (word_text ps) ≡ true
pieces_inside [] h = refl
pieces_inside (p ∷ ps) h =
    let one = first_so (is_piece p && is_longest p (word_text ps)) (are_pieces ps) h in
    joined_inside (piece_text p) (word_text ps) (piece_inside p (first_so (is_piece p) (is_longest p (word_text ps)) one))
    (pieces_inside ps (second_so (is_piece p && is_longest p (word_text ps)) (are_pieces ps) h))

word_inside : (w : List Piece) → is_word w ≡ true → list_all is_inside (word_text w) ≡ true
word_inside [] h = absurd cc
word_inside (p ∷ ps) h = pieces_inside (p ∷ ps) h

abbrev are_inside : List (List ℕ) → Bool
are_inside words = list_all (λ word. list_all is_inside word) words

one_inside : (word : List ℕ) → list_all is_inside word ≡ true → are_inside (word ∷ []) ≡ true
one_inside word h = both_so (list_all is_inside word) true h refl

two_inside : (v w : List ℕ) → list_all is_inside v ≡ true → list_all is_inside w ≡ true → are_inside (v ∷ w ∷ []) ≡ true
two_inside v w h k = both_so (list_all is_inside v) (are_inside (w ∷ [])) h (one_inside w k)

one_word : (w : List Piece) → is_word w ≡ true → are_inside (word_text w ∷ []) ≡ true
one_word w h = one_inside (word_text w) (word_inside w h)

two_words : (v w : List Piece) → (is_word v && is_word w) ≡ true → are_inside (word_text v ∷ word_text w ∷ []) ≡ true
two_words v w h =
    two_inside (word_text v) (word_text w) (word_inside v (first_so (is_word v) (is_word w) h))
    (word_inside w (second_so (is_word v) (is_word w) h))

named_word : (x : List ℕ) (w : List Piece) → (is_variable x && is_word w) ≡ true → are_inside (x ∷ word_text w ∷ []) ≡ true
named_word x w h =
    two_inside x (word_text w) (name_inside x (first_so (is_variable x) (is_word w) h))
    (word_inside w (second_so (is_variable x) (is_word w) h))

switch_inside : (switch : Switch) → list_all is_inside (switch_text switch) ≡ true
switch_inside switches.Off = refl
switch_inside switches.On = refl

switch_word : (switch : Switch) (w : List Piece) → is_word w ≡ true → are_inside (switch_text switch ∷ word_text w ∷ []) ≡ true
switch_word switch w h = two_inside (switch_text switch) (word_text w) (switch_inside switch) (word_inside w h)

-- a keyword and words inside a line
keyword_inside : (name : Keyword) (words : List (List ℕ)) → are_inside words ≡ true → are_inside (keyword_text name ∷ words) ≡ true
keyword_inside name words h = both_so (list_all is_inside (keyword_text name)) (are_inside words) (is_keyword name).inside h

by_form : (c : Command) → Form c → is_command c ≡ true → are_inside (command_words c) ≡ true
by_form _ (one_form one w) h =
    let (same, words) = one_words one w in
    rw words (keyword_inside (keywords.One one) (word_text w ∷ []) (one_word w (sym same ∙ h)))
by_form _ (two_form two v w) h =
    let (same, words) = two_words_of two v w in
    rw words (keyword_inside (keywords.Two two) (word_text v ∷ word_text w ∷ []) (two_words v w (sym same ∙ h)))
by_form _ (named_form named x w) h =
    let (same, words) = named_words named x w in
    rw words (keyword_inside (keywords.Named named) (x ∷ word_text w ∷ []) (named_word x w (sym same ∙ h)))
by_form _ (concat_form u v w) h =
    let uv = first_so (is_word u && is_word v) (is_word w) h in
    let vw = two_inside (word_text v) (word_text w) (word_inside v (second_so (is_word u) (is_word v) uv))
    (word_inside w (second_so (is_word u && is_word v) (is_word w) h)) in
    both_so (list_all is_inside (word_text u)) (are_inside (word_text v ∷ word_text w ∷ []))
    (word_inside u (first_so (is_word u) (is_word v) uv)) vw
by_form _ (chmod_form switch w) h = keyword_inside keywords.Chmod (switch_text switch ∷ word_text w ∷ []) (switch_word switch w h)

command_inside : (c : Command) → is_command c ≡ true → are_inside (command_words c) ≡ true
command_inside c h = by_form c (form_of c) h

condition_inside : (c : Cond) → is_condition c ≡ true → are_inside (condition_words c) ≡ true
condition_inside (conditions.File p) h = one_word p h
condition_inside (conditions.Dir p) h = one_word p h
condition_inside (conditions.Exec p) h = one_word p h
condition_inside (conditions.Same p q) h = two_words p q h
condition_inside conditions.Ok h = refl

line_inside : (l : Line) → is_line l ≡ true → are_inside (line_words l) ≡ true
line_inside (says.Do c) h = command_inside c h
line_inside says.Stop h = refl
line_inside (says.If c) h =
    list_all-append (λ word. list_all is_inside word) (condition_words c) (codes "{" ∷ [])
    ∙ both_so (are_inside (condition_words c)) true (condition_inside c h) refl
line_inside (says.For x p) h =
    both_so (list_all is_inside x) (are_inside (codes "in" ∷ word_text p ∷ codes "{" ∷ []))
    (name_inside x (first_so (is_variable x) (is_word p) h))
    (two_inside (word_text p) (codes "{") (word_inside p (second_so (is_variable x) (is_word p) h)) refl)
line_inside says.Else h = refl
line_inside says.Close h = refl

spaces_inside : (words : List (List ℕ)) → are_inside words ≡ true → list_all is_inside (after_spaces words) ≡ true
spaces_inside [] h = refl
spaces_inside (w ∷ ws) h =
    joined_inside w (after_spaces ws) (first_so (list_all is_inside w) (are_inside ws) h)
    (spaces_inside ws (second_so (list_all is_inside w) (are_inside ws) h))

words_inside : (words : List (List ℕ)) → are_inside words ≡ true → list_all is_inside (joined words) ≡ true
words_inside [] h = refl
words_inside (w ∷ ws) h =
    joined_inside w (after_spaces ws) (first_so (list_all is_inside w) (are_inside ws) h)
    (spaces_inside ws (second_so (list_all is_inside w) (are_inside ws) h))

-- ---- the lines of what is printed

first_line_of : (xs ys : List ℕ) → list_all is_inside xs ≡ true → lines (xs ++ 10 ∷ ys) ≡ xs ∷ lines ys
first_line_of [] ys h = refl
first_line_of (b ∷ bs) ys h =
    rw (not-true (b == 10) (first_so (is_inside b) (list_all is_inside bs) h))
    (ap (onto_line b) (first_line_of bs ys (second_so (is_inside b) (list_all is_inside bs) h)))

abbrev line_text : Line → List ℕ
line_text l = joined (line_words l)

lines-printed : (ls : List Line) → list_all is_line ls ≡ true → lines (printed ls) ≡ map line_text ls
lines-printed [] h = refl
lines-printed (l ∷ ls) h =
    ap lines (append_assoc (line_text l) (10 ∷ []) (printed ls))
    ∙ first_line_of (line_text l) (printed ls) (words_inside (line_words l) (line_inside l (first_so (is_line l) (list_all is_line ls) h)))
    ∙ ap (λ ts. line_text l ∷ ts) (lines-printed ls (second_so (is_line l) (list_all is_line ls) h))

-- ---- each spells its line

spaces_spaced : (words : List (List ℕ)) → IsSpaced (after_spaces words) words
spaces_spaced [] = refl
spaces_spaced (w ∷ []) = (32 ∷ [], [], refl, refl, refl, refl)
spaces_spaced (w ∷ v ∷ ws) = (32 ∷ [], after_spaces (v ∷ ws), refl, refl, refl, spaces_spaced (v ∷ ws))

joined_spaced : (words : List (List ℕ)) → IsSpaced (joined words) words
joined_spaced [] = refl
joined_spaced (w ∷ []) = ([], [], refl, refl, refl, refl)
joined_spaced (w ∷ v ∷ ws) = ([], after_spaces (v ∷ ws), refl, refl, refl, spaces_spaced (v ∷ ws))

each_spelled : (ls : List Line) → list_all is_line ls ≡ true → SpellEach (said (map line_text ls)) ls
each_spelled [] h = tt
each_spelled (l ∷ ls) h =
    let one : SpellsLine (line_text l) l = (first_so (is_line l) (list_all is_line ls) h, joined_spaced (line_words l)) in
    rw (spelled_said (line_text l) l one) (one, each_spelled ls (second_so (is_line l) (list_all is_line ls) h))

-- what is printed of a script spells it
pub printed_spells : (script : Code) → IsScript script → Spell (lines (printed (script_lines script))) script
printed_spells script h = record {
  deep = h.deep;
  spelled =
      subst (λ ts. SpellEach (said ts) (script_lines script)) (sym (lines-printed (script_lines script) h.lines))
      (each_spelled (script_lines script) h.lines);
}
