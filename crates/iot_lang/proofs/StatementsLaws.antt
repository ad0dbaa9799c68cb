-- What is parsed of a line is what its text spells, and a text that spells a line is parsed as it.
use Rattle.std.proofs.Common.{◌≡◌, ◌++◌, ℕ, Bool, true, false, ◌&&◌, not, cond, ◌==◌, List, [], ◌∷◌, Option, Some, None, refl, sym, ap}
use Rattle.std.proofs.Common.{subst, ◌∙◌, append_assoc, codes, bytes_eq}
use Rattle.std.specs.Cmp.{first_so, second_so}
use Rattle.iot_lines.specs.Fronts.{front, begins}
use Rattle.iot_lines.specs.Words.{is_blank, is_solid, without_blanks, front_word, after_word, is_skipped, is_comment}
use Rattle.std.specs.List.{list_all}
use Rattle.std.proofs.lemmas.Bool.{not-true, not-false}
use Rattle.std.proofs.lemmas.Option.{cond_some}
use Rattle.std.proofs.lemmas.List.{append-nil}
use Rattle.std.proofs.lemmas.Slice.Eq.{bytes_eq-Decides}
use Rattle.iot_lang.specs.Bytes.{is_variable_byte}
use Rattle.iot_lang.specs.Words.{word_text, is_word, is_variable}
use Rattle.iot_lang.specs.Lines.{is_end, IsSpaced, SpellsLine, line_words, is_line, command_words, condition_words, is_command}
use Rattle.iot_lang.specs.Lines.{is_condition, switch_text}
use Rattle.iot_lang.specs.Parsing.{Part, ◌>>=◌, word_at}
use Rattle.iot_lang.specs.Keywords.{lookup, keyword_table, keyword_at, switch_table, switch_at, test_table, test_at}
use Rattle.iot_lang.specs.Keywords.{with_one, with_two, with_variable}
use Rattle.iot_lang.specs.Statements.{ended, run_of, past_run, past, opened, variable_name, then_part, then_past, whole, one_word}
use Rattle.iot_lang.specs.Statements.{two_words, three_words, variable_and_word, one_and_brace, two_and_brace, operands_at, condition_at}
use Rattle.iot_lang.specs.Statements.{turns_at, closing_at, line_at, line_of, switch_name, switch_and_word}
use Rattle.iot_lang.specs.declared.words.Piece.{Piece}
use Rattle.iot_lang.specs.declared.words.Command.{Command}
use Rattle.iot_lang.specs.declared.words.Command.TheVariants as commands
use Rattle.iot_lang.specs.declared.words.Switch.{Switch}
use Rattle.iot_lang.specs.declared.words.Switch.TheVariants as switches
use Rattle.iot_lang.specs.declared.words.Cond.{Cond}
use Rattle.iot_lang.specs.declared.words.Cond.TheVariants as conditions
use Rattle.iot_lang.specs.declared.lines.Line.{Line}
use Rattle.iot_lang.specs.declared.lines.Line.TheVariants as says
use Rattle.iot_lang.specs.declared.keywords.One.{One}
use Rattle.iot_lang.specs.declared.keywords.One.TheVariants as ones
use Rattle.iot_lang.specs.declared.keywords.Two.{Two}
use Rattle.iot_lang.specs.declared.keywords.Two.TheVariants as twos
use Rattle.iot_lang.specs.declared.keywords.Named.{Named}
use Rattle.iot_lang.specs.declared.keywords.Named.TheVariants as nameds
use Rattle.iot_lang.specs.declared.keywords.Keyword.{Keyword}
use Rattle.iot_lang.specs.declared.keywords.Keyword.TheVariants as keywords
use Rattle.iot_lang.specs.declared.keywords.Test.{Test}
use Rattle.iot_lang.specs.declared.keywords.Test.TheVariants as tests
use Rattle.iot_lines.proofs.FrontsLaws.{both_so, front_at, after_at, list_all-front, begins-after, front-append-after}
use Rattle.iot_lang.proofs.BytesLaws.{variable_solid}
use Rattle.iot_lang.proofs.ParsingLaws.{word_at-is, word_at-spelled, same_pair}

-- a byte inside a line
abbrev pub is_inside : ℕ → Bool
is_inside b = not (b == 10)

-- ---- the words of a text

bound : {A B : Type 0} (o : Option A) (f : A → Option B) (y : B) → o >>= f ≡ Some y → (x : A) × (o ≡ Some x) × (f x ≡ Some y)
bound None f y h = absurd cc
bound (Some x) f y h = (x, refl, h)

then_is : {A B : Type 0} (o : Option A) (f : A → Option B) (x : A) (y : Option B) → o ≡ Some x → f x ≡ y → o >>= f ≡ y
then_is o f x y h k = rw h k

same_bytes : (xs ys : List ℕ) → bytes_eq xs ys ≡ true → xs ≡ ys
same_bytes xs ys h = (bytes_eq-Decides xs ys).0 h

bytes_same : (xs ys : List ℕ) → xs ≡ ys → bytes_eq xs ys ≡ true
bytes_same xs ys h = (bytes_eq-Decides xs ys).1 h

-- a word of bytes that are no blanks
abbrev pub is_solid_word : List ℕ → Bool
is_solid_word word = begins is_solid word && list_all is_solid word

ends_run : (rest : List ℕ) → begins is_solid rest ≡ false → is_end rest ≡ true
ends_run [] h = refl
ends_run (b ∷ bs) h = not-false (is_blank b) h

run_ends : (rest : List ℕ) → is_end rest ≡ true → begins is_solid rest ≡ false
run_ends [] h = refl
run_ends (b ∷ bs) h = rw h refl

-- every text is its first run, and what comes after it
run_spaced : (text : List ℕ) (words : List (List ℕ)) → IsSpaced (past_run text) words → IsSpaced text (run_of text ∷ words)
run_spaced text words h = (
  front is_blank text,
  past_run text,
  list_all-front is_blank text,
  sym (front-append-after is_blank text) ∙ ap (λ xs. front is_blank text ++ xs) (sym (front-append-after is_solid (without_blanks text)))
      ∙ sym (append_assoc (front is_blank text) (run_of text) (past_run text)),
  ends_run (past_run text) (begins-after is_solid (without_blanks text)),
  h,
)

unblank : (word rest : List ℕ) → is_solid_word word ≡ true → begins is_blank (word ++ rest) ≡ false
unblank [] rest h = absurd cc
unblank (b ∷ bs) rest h = not-true (is_blank b) (first_so (is_solid b) (list_all is_solid (b ∷ bs)) h)

left_of : (text blanks word rest : List ℕ) → list_all is_blank blanks ≡ true → text ≡ blanks ++ word ++ rest → is_solid_word word ≡ true
    → without_blanks text ≡ word ++ rest
left_of text blanks word rest all is solid =
    ap (without_blanks) (is ∙ append_assoc blanks word rest) ∙ after_at is_blank blanks (word ++ rest) all (unblank word rest solid)

-- a text of words begins with the first
spaced_run : (text word : List ℕ) (words : List (List ℕ)) → is_solid_word word ≡ true → IsSpaced text (word ∷ words)
    → (run_of text ≡ word) × IsSpaced (past_run text) words
spaced_run text word words solid (blanks, rest, all, is, ends, more) =
    let left = left_of text blanks word rest all is solid in
    let each : list_all is_solid word ≡ true = second_so (begins is_solid word) (list_all is_solid word) solid in (
      ap (front_word) left ∙ front_at is_solid word rest each (run_ends rest ends),
      subst (λ xs. IsSpaced xs words) (sym (ap (after_word) left ∙ after_at is_solid word rest each (run_ends rest ends))) more,
    )

-- and is not skipped, if that does not begin with `#`
not_skipped : (text word : List ℕ) (words : List (List ℕ)) → is_solid_word word ≡ true → begins (λ b. b == 35) word ≡ false
    → IsSpaced text (word ∷ words) → is_skipped text ≡ false
not_skipped text [] words solid other h = absurd cc
not_skipped text (b ∷ bs) words solid other (blanks, rest, all, is, ends, more) =
    ap is_comment (left_of text blanks (b ∷ bs) rest all is solid) ∙ other

ended_is : {A : Type 0} (x y : A) (text : List ℕ) → ended x text ≡ Some y → IsSpaced text [] × (x ≡ y)
ended_is x y text h = cond_some (list_all is_blank text) x y h

ended-blank : {A : Type 0} (x : A) (text : List ℕ) → IsSpaced text [] → ended x text ≡ Some x
ended-blank x text h = rw h refl

past_is : (word text rest : List ℕ) (words : List (List ℕ)) → past word text ≡ Some rest → IsSpaced rest words
    → IsSpaced text (word ∷ words)
past_is word text rest words h more =
    let k = cond_some (bytes_eq (run_of text) word) (past_run text) rest h in
    subst (λ xs. IsSpaced text (xs ∷ words)) (same_bytes (run_of text) word k.0)
    (run_spaced text words (subst (λ xs. IsSpaced xs words) (sym k.1) more))

past-spaced : (word text : List ℕ) (words : List (List ℕ)) → is_solid_word word ≡ true → IsSpaced text (word ∷ words)
    → (past word text ≡ Some (past_run text)) × IsSpaced (past_run text) words
past-spaced word text words solid h = let k = spaced_run text word words solid h in (rw (bytes_same (run_of text) word k.0) refl, k.1)

abbrev brace : List ℕ
brace = codes "{"

opened_is : {A : Type 0} (x y : A) (text : List ℕ) → opened x text ≡ Some y → IsSpaced text (brace ∷ []) × (x ≡ y)
opened_is x y text h =
    let k = bound (past brace text) (λ rest. ended x rest) y h in
    let e = ended_is x y k.0 k.2 in
    (past_is brace text k.0 [] k.1 e.0, e.1)

opened-spaced : {A : Type 0} (x : A) (text : List ℕ) → IsSpaced text (brace ∷ []) → opened x text ≡ Some x
opened-spaced x text h = let k = past-spaced brace text [] refl h in
    then_is (past brace text) (λ rest. ended x rest) (past_run text) (Some x) k.0 (ended-blank x (past_run text) k.1)

all_solid : (name : List ℕ) → list_all is_variable_byte name ≡ true → list_all is_solid name ≡ true
all_solid [] h = refl
all_solid (b ∷ bs) h =
    both_so (is_solid b) (list_all is_solid bs) (variable_solid b (first_so (is_variable_byte b) (list_all is_variable_byte bs) h))
    (all_solid bs (second_so (is_variable_byte b) (list_all is_variable_byte bs) h))

solid_name : (name : List ℕ) → is_variable name ≡ true → is_solid_word name ≡ true
solid_name [] h = absurd cc
solid_name (b ∷ bs) h =
    let all = all_solid (b ∷ bs) (second_so _ (list_all is_variable_byte (b ∷ bs)) h) in
    both_so (is_solid b) (list_all is_solid (b ∷ bs)) (first_so (is_solid b) (list_all is_solid bs) all) all

-- ---- parsers

-- a parser of a part takes exactly the words of an ok value from the front of a text
record TakesPart {A : Type 0} (part : List ℕ → Part A) (ok : A → Bool) (words : A → List (List ℕ)) : Type 0 where
  is : (text rest : List ℕ) (x : A) (more : List (List ℕ)) → part text ≡ Some (x, rest) → IsSpaced rest more
      → (ok x ≡ true) × IsSpaced text (words x ++ more)
  spaced : (text : List ℕ) (x : A) (more : List (List ℕ)) → ok x ≡ true → IsSpaced text (words x ++ more)
      → (rest : List ℕ) × (part text ≡ Some (x, rest)) × IsSpaced rest more

-- and a parser of a whole text gives exactly the values that are ok and whose words are those of the text
record Takes {A : Type 0} (parser : List ℕ → Option A) (ok : A → Bool) (words : A → List (List ℕ)) : Type 0 where
  is : (text : List ℕ) (x : A) → parser text ≡ Some x → (ok x ≡ true) × IsSpaced text (words x)
  spaced : (text : List ℕ) (x : A) → ok x ≡ true → IsSpaced text (words x) → parser text ≡ Some x

takes_word : TakesPart word_at is_word (λ w. word_text w ∷ [])
takes_word = record {
  is = λ text rest w more h spaced.
      let at = word_at-is text rest w h in
      (at.ok, (front is_blank text, rest, list_all-front is_blank text, at.spelled, at.ends, spaced));
  spaced = λ text w more ok (blanks, rest, all, is, ends, h). (rest, word_at-spelled text blanks rest w all is ok ends, h);
}

takes_variable : TakesPart variable_name is_variable (λ x. x ∷ [])
takes_variable = record {
  is = λ text rest name more h spaced.
      let k = cond_some (is_variable (run_of text)) (run_of text, past_run text) (name, rest) h in
      let e = same_pair (run_of text) name (past_run text) rest (ap Some k.1) in
      let whole = run_spaced text more (subst (λ xs. IsSpaced xs more) (sym e.1) spaced) in
      (subst (λ xs. is_variable xs ≡ true) e.0 k.0, subst (λ xs. IsSpaced text (xs ∷ more)) e.0 whole);
  spaced = λ text name more ok h.
      let k = spaced_run text name more (solid_name name ok) h in
      (past_run text, rw (k.0, ok) refl, k.1);
}

takes_both : {A B : Type 0} {one : List ℕ → Part A} {other : List ℕ → Part B} {ok : A → Bool} {ok' : B → Bool}
    {words : A → List (List ℕ)} {words' : B → List (List ℕ)}
    → TakesPart one ok words → TakesPart other ok' words'
    → TakesPart (then_part one other) (λ ab. ok ab.0 && ok' ab.1) (λ ab. words ab.0 ++ words' ab.1)
takes_both {A} {B} {one} {other} {ok} {ok'} {words} {words'} first second = record {
  is = λ text rest ab more h spaced.
      let (a, is_a, h') = bound (one text) (λ a. other a.1 >>= (λ b. Some ((a.0, b.0), b.1))) (ab, rest) h in
      let (b, is_b, same) = bound (other a.1) (λ b. Some ((a.0, b.0), b.1)) (ab, rest) h' in
      let e = same_pair (a.0, b.0) ab b.1 rest same in
      let right = second.is a.1 b.1 b.0 more is_b (subst (λ xs. IsSpaced xs more) (sym e.1) spaced) in
      let left = first.is text a.1 a.0 (words' b.0 ++ more) is_a right.1 in
      let regrouped = sym (append_assoc (words a.0) (words' b.0) more) in
      let P : A × B → Type 0 = λ ab. ((ok ab.0 && ok' ab.1) ≡ true) × IsSpaced text ((words ab.0 ++ words' ab.1) ++ more) in
      subst P e.0 (both_so (ok a.0) (ok' b.0) left.0 right.0, subst (IsSpaced text) regrouped left.1);
  spaced = λ text ab more oks h.
      let grouped = subst (IsSpaced text) (append_assoc (words ab.0) (words' ab.1) more) h in
      let (rest, is_a, h') = first.spaced text ab.0 (words' ab.1 ++ more) (first_so (ok ab.0) (ok' ab.1) oks) grouped in
      let (rest', is_b, h'') = second.spaced rest ab.1 more (second_so (ok ab.0) (ok' ab.1) oks) h' in
      (rest', then_is (one text) _ (ab.0, rest) _ is_a (then_is (other rest) _ (ab.1, rest') _ is_b refl), h'');
}

takes_past : {A : Type 0} {one : List ℕ → Part A} {ok : A → Bool} {words : A → List (List ℕ)} (word : List ℕ) → is_solid_word word ≡ true
    → TakesPart one ok words → TakesPart (then_past one word) ok (λ a. words a ++ word ∷ [])
takes_past {A} {one} {ok} {words} word solid first = record {
  is = λ text rest x more h spaced.
      let (a, is_a, h') = bound (one text) (λ a. past word a.1 >>= (λ rest. Some (a.0, rest))) (x, rest) h in
      let (r, is_past, same) = bound (past word a.1) (λ rest. Some (a.0, rest)) (x, rest) h' in
      let e = same_pair a.0 x r rest same in
      let right = past_is word a.1 r more is_past (subst (λ xs. IsSpaced xs more) (sym e.1) spaced) in
      let left = first.is text a.1 a.0 (word ∷ more) is_a right in
      let P : A → Type 0 = λ a. (ok a ≡ true) × IsSpaced text ((words a ++ word ∷ []) ++ more) in
      subst P e.0 (left.0, subst (IsSpaced text) (sym (append_assoc (words a.0) (word ∷ []) more)) left.1);
  spaced = λ text x more oks h.
      let grouped = subst (IsSpaced text) (append_assoc (words x) (word ∷ []) more) h in
      let (rest, is_a, h') = first.spaced text x (word ∷ more) oks grouped in
      let k = past-spaced word rest more solid h' in
      (past_run rest, then_is (one text) _ (x, rest) _ is_a (then_is (past word rest) _ (past_run rest) _ k.0 refl), k.1);
}

takes_whole : {A : Type 0} {part : List ℕ → Part A} {ok : A → Bool} {words : A → List (List ℕ)} → TakesPart part ok words
    → Takes (λ text. whole (part text)) ok words
takes_whole {A} {part} {ok} {words} first = record {
  is = λ text x h.
      let (a, is, more) = bound (part text) (λ a. ended a.0 a.1) x h in
      let e = ended_is a.0 x a.1 more in
      let left = first.is text a.1 a.0 [] is e.0 in
      let P : A → Type 0 = λ a. (ok a ≡ true) × IsSpaced text (words a) in
      subst P e.1 (left.0, subst (IsSpaced text) (append-nil (words a.0)) left.1);
  spaced = λ text x oks h.
      let (rest, is, blank) = first.spaced text x [] oks (subst (IsSpaced text) (sym (append-nil (words x))) h) in
      then_is (part text) _ (x, rest) _ is (ended-blank x rest blank);
}

takes_one_word : Takes one_word is_word (λ w. word_text w ∷ [])
unfolding one_word
takes_one_word = takes_whole takes_word

takes_two_words : Takes two_words (λ ws. is_word ws.0 && is_word ws.1) (λ ws. word_text ws.0 ∷ word_text ws.1 ∷ [])
unfolding two_words
takes_two_words = takes_whole (takes_both takes_word takes_word)

takes_three_words : Takes three_words (λ ws. is_word ws.0.0 && is_word ws.0.1 && is_word ws.1)
    (λ ws. word_text ws.0.0 ∷ word_text ws.0.1 ∷ word_text ws.1 ∷ [])
unfolding three_words
takes_three_words = takes_whole (takes_both (takes_both takes_word takes_word) takes_word)

takes_variable_and_word : Takes variable_and_word (λ xw. is_variable xw.0 && is_word xw.1) (λ xw. xw.0 ∷ word_text xw.1 ∷ [])
unfolding variable_and_word
takes_variable_and_word = takes_whole (takes_both takes_variable takes_word)

takes_turns : Takes turns_at (λ xw. is_variable xw.0 && is_word xw.1) (λ xw. xw.0 ∷ codes "in" ∷ word_text xw.1 ∷ brace ∷ [])
unfolding turns_at
takes_turns = takes_whole (takes_past brace refl (takes_both (takes_past (codes "in") refl takes_variable) takes_word))

takes_one_and_brace : Takes one_and_brace is_word (λ w. word_text w ∷ brace ∷ [])
takes_one_and_brace = takes_whole (takes_past brace refl takes_word)

takes_two_and_brace : Takes two_and_brace (λ ws. is_word ws.0 && is_word ws.1) (λ ws. word_text ws.0 ∷ word_text ws.1 ∷ brace ∷ [])
takes_two_and_brace = takes_whole (takes_past brace refl (takes_both takes_word takes_word))

-- ---- keywords

-- each row has its value's text as its key
abbrev IsTable : {A : Type 0} → (A → List ℕ) → List (List ℕ × A) → Type 0
IsTable text [] = Unit {0}
IsTable text (row ∷ rows) = (row.0 ≡ text row.1) × IsTable text rows

lookup_is : {A : Type 0} (text : A → List ℕ) (rows : List (List ℕ × A)) (bytes : List ℕ) (x : A) → IsTable text rows
    → lookup rows bytes ≡ Some x → bytes ≡ text x
lookup_is text [] bytes x is h = absurd cc
lookup_is {A} text (row ∷ rows) bytes x is h = by_test (bytes_eq bytes row.0) refl h (lookup_is text rows bytes x is.1)
  where
    by_test : (same : Bool) → bytes_eq bytes row.0 ≡ same → cond same (Some row.1) (lookup rows bytes) ≡ Some x
        → (lookup rows bytes ≡ Some x → bytes ≡ text x) → bytes ≡ text x
    by_test true e h go = let f : row.1 ≡ x = cc in same_bytes bytes row.0 e ∙ is.0 ∙ ap text f
    by_test false e h go = go h

abbrev pub one_text : One → List ℕ
one_text ones.Echo = codes "echo"
one_text ones.MakeDir = codes "mkdir"
one_text ones.RemoveDir = codes "rmdir"
one_text ones.Remove = codes "rm"
one_text ones.Cat = codes "cat"
one_text ones.List = codes "ls"

abbrev pub two_text : Two → List ℕ
two_text twos.Write = codes "write"
two_text twos.Append = codes "append"
two_text twos.Copy = codes "copy"
two_text twos.Move = codes "mv"
two_text twos.Keep = codes "keep"

abbrev pub named_text : Named → List ℕ
named_text nameds.Set = codes "set"
named_text nameds.Read = codes "read"

abbrev pub keyword_text : Keyword → List ℕ
keyword_text (keywords.One one) = one_text one
keyword_text (keywords.Two two) = two_text two
keyword_text (keywords.Named named) = named_text named
keyword_text keywords.Concat = codes "concat"
keyword_text keywords.Chmod = codes "chmod"
keyword_text keywords.If = codes "if"
keyword_text keywords.For = codes "for"
keyword_text keywords.Stop = codes "stop"
keyword_text keywords.Close = codes "}"

abbrev test_text : Test → List ℕ
test_text tests.File = codes "file"
test_text tests.Dir = codes "dir"
test_text tests.Exec = codes "exec"
test_text tests.Same = codes "same"
test_text tests.Ok = codes "ok"

keyword_at-is : (bytes : List ℕ) (name : Keyword) → keyword_at bytes ≡ Some name → bytes ≡ keyword_text name
keyword_at-is bytes name h =
    lookup_is keyword_text keyword_table bytes name (
      refl,
      (
        refl,
        (
          refl,
          (
            refl,
            (refl, (refl, (refl, (refl, (refl, (refl, (refl, (refl, (refl, (refl, (refl, (refl, (refl, (refl, (refl, tt))))))))))))))),
          ),
        ),
      ),
    )
    h

test_at-is : (bytes : List ℕ) (test : Test) → test_at bytes ≡ Some test → bytes ≡ test_text test
test_at-is bytes test h = lookup_is test_text test_table bytes test (refl, (refl, (refl, (refl, (refl, tt))))) h

switch_at-is : (bytes : List ℕ) (switch : Switch) → switch_at bytes ≡ Some switch → bytes ≡ switch_text switch
switch_at-is bytes switch h = lookup_is switch_text switch_table bytes switch (refl, (refl, tt)) h

-- a keyword is found by its text, which has no blanks and no newlines and begins no comment
pub record IsKeyword (name : Keyword) : Type 0 where
  pub found : keyword_at (keyword_text name) ≡ Some name
  pub solid : is_solid_word (keyword_text name) ≡ true
  pub said : begins (λ b. b == 35) (keyword_text name) ≡ false
  pub inside : list_all is_inside (keyword_text name) ≡ true

pub is_keyword : (name : Keyword) → IsKeyword name
is_keyword (keywords.One ones.Echo) = record { found = refl; solid = refl; said = refl; inside = refl }
is_keyword (keywords.One ones.MakeDir) = record { found = refl; solid = refl; said = refl; inside = refl }
is_keyword (keywords.One ones.RemoveDir) = record { found = refl; solid = refl; said = refl; inside = refl }
is_keyword (keywords.One ones.Remove) = record { found = refl; solid = refl; said = refl; inside = refl }
is_keyword (keywords.One ones.Cat) = record { found = refl; solid = refl; said = refl; inside = refl }
is_keyword (keywords.One ones.List) = record { found = refl; solid = refl; said = refl; inside = refl }
is_keyword (keywords.Two twos.Write) = record { found = refl; solid = refl; said = refl; inside = refl }
is_keyword (keywords.Two twos.Append) = record { found = refl; solid = refl; said = refl; inside = refl }
is_keyword (keywords.Two twos.Copy) = record { found = refl; solid = refl; said = refl; inside = refl }
is_keyword (keywords.Two twos.Move) = record { found = refl; solid = refl; said = refl; inside = refl }
is_keyword (keywords.Two twos.Keep) = record { found = refl; solid = refl; said = refl; inside = refl }
is_keyword (keywords.Named nameds.Set) = record { found = refl; solid = refl; said = refl; inside = refl }
is_keyword (keywords.Named nameds.Read) = record { found = refl; solid = refl; said = refl; inside = refl }
is_keyword keywords.Concat = record { found = refl; solid = refl; said = refl; inside = refl }
is_keyword keywords.Chmod = record { found = refl; solid = refl; said = refl; inside = refl }
is_keyword keywords.If = record { found = refl; solid = refl; said = refl; inside = refl }
is_keyword keywords.For = record { found = refl; solid = refl; said = refl; inside = refl }
is_keyword keywords.Stop = record { found = refl; solid = refl; said = refl; inside = refl }
is_keyword keywords.Close = record { found = refl; solid = refl; said = refl; inside = refl }

test_found : (test : Test) → (test_at (test_text test) ≡ Some test) × (is_solid_word (test_text test) ≡ true)
test_found tests.File = (refl, refl)
test_found tests.Dir = (refl, refl)
test_found tests.Exec = (refl, refl)
test_found tests.Same = (refl, refl)
test_found tests.Ok = (refl, refl)

-- ---- switches

switch_found : (switch : Switch) → (switch_at (switch_text switch) ≡ Some switch) × (is_solid_word (switch_text switch) ≡ true)
switch_found switches.Off = (refl, refl)
switch_found switches.On = (refl, refl)

takes_switch : TakesPart switch_name (λ s. true) (λ s. switch_text s ∷ [])
takes_switch = record {
  is = λ text rest switch more h spaced.
      let (s, is, same) = bound (switch_at (run_of text)) (λ s. Some (s, past_run text)) (switch, rest) h in
      let e = same_pair s switch (past_run text) rest same in
      let whole = run_spaced text more (subst (λ xs. IsSpaced xs more) (sym e.1) spaced) in
      (refl, subst (λ xs. IsSpaced text (xs ∷ more)) (switch_at-is (run_of text) s is ∙ ap switch_text e.0) whole);
  spaced = λ text switch more ok h.
      let k = spaced_run text (switch_text switch) more (switch_found switch).1 h in
      (past_run text, then_is (switch_at (run_of text)) _ switch _ (ap switch_at k.0 ∙ (switch_found switch).0) refl, k.1);
}

takes_switch_and_word : Takes switch_and_word (λ sp. is_word sp.1) (λ sp. switch_text sp.0 ∷ word_text sp.1 ∷ [])
unfolding switch_and_word
takes_switch_and_word = takes_whole (takes_both takes_switch takes_word)

-- ---- conditions

-- the words after a condition's name
abbrev condition_operands : Cond → List (List ℕ)
condition_operands (conditions.File p) = word_text p ∷ []
condition_operands (conditions.Dir p) = word_text p ∷ []
condition_operands (conditions.Exec p) = word_text p ∷ []
condition_operands (conditions.Same p q) = word_text p ∷ word_text q ∷ []
condition_operands conditions.Ok = []

abbrev test_of : Cond → Test
test_of (conditions.File p) = tests.File
test_of (conditions.Dir p) = tests.Dir
test_of (conditions.Exec p) = tests.Exec
test_of (conditions.Same p q) = tests.Same
test_of conditions.Ok = tests.Ok

condition_words-is : (c : Cond) → condition_words c ≡ test_text (test_of c) ∷ condition_operands c
condition_words-is (conditions.File p) = refl
condition_words-is (conditions.Dir p) = refl
condition_words-is (conditions.Exec p) = refl
condition_words-is (conditions.Same p q) = refl
condition_words-is conditions.Ok = refl

record OperandsAt (test : Test) (text : List ℕ) (c : Cond) : Type 0 where
  named : test_of c ≡ test
  ok : is_condition c ≡ true
  spaced : IsSpaced text (condition_operands c ++ brace ∷ [])

operands_at-is : (test : Test) (text : List ℕ) (c : Cond) → operands_at test text ≡ Some c → OperandsAt test text c
operands_at-is tests.File text c h =
    let (p, is, e) = bound (one_and_brace text) (λ p. Some (conditions.File p)) c h in
    let k = takes_one_and_brace.is text p is in
    let same : conditions.File p ≡ c = cc in
    subst (OperandsAt tests.File text) same (record { named = refl; ok = k.0; spaced = k.1 })
operands_at-is tests.Dir text c h =
    let (p, is, e) = bound (one_and_brace text) (λ p. Some (conditions.Dir p)) c h in
    let k = takes_one_and_brace.is text p is in
    let same : conditions.Dir p ≡ c = cc in
    subst (OperandsAt tests.Dir text) same (record { named = refl; ok = k.0; spaced = k.1 })
operands_at-is tests.Exec text c h =
    let (p, is, e) = bound (one_and_brace text) (λ p. Some (conditions.Exec p)) c h in
    let k = takes_one_and_brace.is text p is in
    let same : conditions.Exec p ≡ c = cc in
    subst (OperandsAt tests.Exec text) same (record { named = refl; ok = k.0; spaced = k.1 })
operands_at-is tests.Same text c h =
    let (ps, is, e) = bound (two_and_brace text) (λ ps. Some (conditions.Same ps.0 ps.1)) c h in
    let k = takes_two_and_brace.is text ps is in
    let same : conditions.Same ps.0 ps.1 ≡ c = cc in
    subst (OperandsAt tests.Same text) same (record { named = refl; ok = k.0; spaced = k.1 })
operands_at-is tests.Ok text c h =
    let e = opened_is conditions.Ok c text h in
    subst (OperandsAt tests.Ok text) e.1 (record { named = refl; ok = refl; spaced = e.0 })

operands_at-spaced : (c : Cond) (text : List ℕ) → is_condition c ≡ true → IsSpaced text (condition_operands c ++ brace ∷ [])
    → operands_at (test_of c) text ≡ Some c
operands_at-spaced (conditions.File p) text ok h = then_is (one_and_brace text) _ p _ (takes_one_and_brace.spaced text p ok h) refl
operands_at-spaced (conditions.Dir p) text ok h = then_is (one_and_brace text) _ p _ (takes_one_and_brace.spaced text p ok h) refl
operands_at-spaced (conditions.Exec p) text ok h = then_is (one_and_brace text) _ p _ (takes_one_and_brace.spaced text p ok h) refl
operands_at-spaced (conditions.Same p q) text ok h =
    then_is (two_and_brace text) _ (p, q) _ (takes_two_and_brace.spaced text (p, q) ok h) refl
operands_at-spaced conditions.Ok text ok h = opened-spaced conditions.Ok text h

takes_condition : Takes condition_at is_condition (λ c. condition_words c ++ brace ∷ [])
unfolding condition_at
takes_condition = record {
  is = λ text c h.
      let (test, is, more) = bound (test_at (run_of text)) (λ test. operands_at test (past_run text)) c h in
      let at = operands_at-is test (past_run text) c more in
      let name : run_of text ≡ test_text (test_of c) = test_at-is (run_of text) test is ∙ ap test_text (sym at.named) in
      let spaced = run_spaced text (condition_operands c ++ brace ∷ []) at.spaced in
      let named = subst (λ xs. IsSpaced text (xs ∷ (condition_operands c ++ brace ∷ []))) name spaced in
      (at.ok, rw (condition_words-is c) named);
  spaced = λ text c ok h.
      let named = subst (λ ws. IsSpaced text (ws ++ brace ∷ [])) (condition_words-is c) h in
      let k = spaced_run text (test_text (test_of c)) (condition_operands c ++ brace ∷ []) (test_found (test_of c)).1 named in
      then_is (test_at (run_of text)) _ (test_of c) _ (ap test_at k.0 ∙ (test_found (test_of c)).0)
      (operands_at-spaced c (past_run text) ok k.1);
}

-- ---- ends of blocks

record LineAt (name text : List ℕ) (line : Line) : Type 0 where
  ok : is_line line ≡ true
  spaced : (words : List (List ℕ)) × (line_words line ≡ name ∷ words) × IsSpaced text words

closing_at-is : (text : List ℕ) (line : Line) → closing_at text ≡ Some line → LineAt (codes "}") text line
unfolding closing_at
closing_at-is text line h = by_test (list_all is_blank text) refl h
  where
    by_test : (blank : Bool) → list_all is_blank text ≡ blank
        → cond blank (Some says.Close) (past (codes "else") text >>= (λ rest. opened says.Else rest)) ≡ Some line
        → LineAt (codes "}") text line
    by_test true all h = let e : says.Close ≡ line = cc in
        subst (λ l. LineAt (codes "}") text l) e (record { ok = refl; spaced = ([], refl, all) })
    by_test false all h =
        let (rest, is, more) = bound (past (codes "else") text) (λ rest. opened says.Else rest) line h in
        let e = opened_is says.Else line rest more in
        subst (λ l. LineAt (codes "}") text l) e.1
        (record { ok = refl; spaced = (codes "else" ∷ brace ∷ [], refl, past_is (codes "else") text rest (brace ∷ []) is e.0) })

closing_at-close : (text : List ℕ) → IsSpaced text [] → closing_at text ≡ Some says.Close
unfolding closing_at
closing_at-close text h = rw h refl

no_blanks : (text word : List ℕ) (words : List (List ℕ)) → is_solid_word word ≡ true → IsSpaced text (word ∷ words)
    → list_all is_blank text ≡ false
no_blanks text word words solid h = by_test (list_all is_blank text) refl
  where
    by_test : (blank : Bool) → list_all is_blank text ≡ blank → blank ≡ false
    by_test false all = refl
    by_test true all =
        let k = spaced_run text word words solid h in
        let left : without_blanks (text ++ []) ≡ [] = after_at is_blank text [] all refl in
        let none : run_of text ≡ [] = ap (λ xs. front_word xs) (ap (without_blanks) (sym (append-nil text)) ∙ left) in
        absurd (empty_word word (sym k.0 ∙ none) solid)
      where
        empty_word : (word : List ℕ) → word ≡ [] → is_solid_word word ≡ true → ⊥
        empty_word [] e solid = cc
        empty_word (b ∷ bs) e solid = cc

closing_at-else : (text : List ℕ) → IsSpaced text (codes "else" ∷ brace ∷ []) → closing_at text ≡ Some says.Else
unfolding closing_at
closing_at-else text h =
    let k = past-spaced (codes "else") text (brace ∷ []) refl h in
    rw (no_blanks text (codes "else") (brace ∷ []) refl h)
    (then_is (past (codes "else") text) (λ rest. opened says.Else rest) (past_run text) (Some says.Else) k.0
    (opened-spaced says.Else (past_run text) k.1))

-- ---- lines

pub one_words : (one : One) (w : List Piece)
    → (is_command (with_one one w) ≡ is_word w) × (command_words (with_one one w) ≡ one_text one ∷ word_text w ∷ [])
one_words ones.Echo w = (refl, refl)
one_words ones.MakeDir w = (refl, refl)
one_words ones.RemoveDir w = (refl, refl)
one_words ones.Remove w = (refl, refl)
one_words ones.Cat w = (refl, refl)
one_words ones.List w = (refl, refl)

pub two_words_of : (two : Two) (v w : List Piece)
    → (is_command (with_two two v w) ≡ (is_word v && is_word w))
    × (command_words (with_two two v w) ≡ two_text two ∷ word_text v ∷ word_text w ∷ [])
two_words_of twos.Write v w = (refl, refl)
two_words_of twos.Append v w = (refl, refl)
two_words_of twos.Copy v w = (refl, refl)
two_words_of twos.Move v w = (refl, refl)
two_words_of twos.Keep v w = (refl, refl)

pub named_words : (named : Named) (x : List ℕ) (w : List Piece)
    → (is_command (with_variable named x w) ≡ (is_variable x && is_word w))
    × (command_words (with_variable named x w) ≡ named_text named ∷ x ∷ word_text w ∷ [])
named_words nameds.Set x w = (refl, refl)
named_words nameds.Read x w = (refl, refl)

-- a command is one of these, by its name and operands
pub data Form : Command → Type 0 where
  one_form : (one : One) (w : List Piece) → Form (with_one one w)
  two_form : (two : Two) (v w : List Piece) → Form (with_two two v w)
  named_form : (named : Named) (x : List ℕ) (w : List Piece) → Form (with_variable named x w)
  concat_form : (u v w : List Piece) → Form (commands.Concat u v w)
  chmod_form : (switch : Switch) (w : List Piece) → Form (commands.Chmod switch w)

pub form_of : (c : Command) → Form c
form_of (commands.Echo w) = one_form ones.Echo w
form_of (commands.MakeDir w) = one_form ones.MakeDir w
form_of (commands.RemoveDir w) = one_form ones.RemoveDir w
form_of (commands.Remove w) = one_form ones.Remove w
form_of (commands.Cat w) = one_form ones.Cat w
form_of (commands.List w) = one_form ones.List w
form_of (commands.Write v w) = two_form twos.Write v w
form_of (commands.Append v w) = two_form twos.Append v w
form_of (commands.Copy v w) = two_form twos.Copy v w
form_of (commands.Move v w) = two_form twos.Move v w
form_of (commands.Keep v w) = two_form twos.Keep v w
form_of (commands.Set x w) = named_form nameds.Set x w
form_of (commands.Read x w) = named_form nameds.Read x w
form_of (commands.Concat u v w) = concat_form u v w
form_of (commands.Chmod switch w) = chmod_form switch w

-- what is made of the operands is a line that begins with this word
made_line : {A : Type 0} {parser : List ℕ → Option A} {ok : A → Bool} {words : A → List (List ℕ)} (name : List ℕ) (make : A → Line)
    → Takes parser ok words → ((x : A) → (is_line (make x) ≡ ok x) × (line_words (make x) ≡ name ∷ words x))
    → (text : List ℕ) (line : Line) → parser text >>= (λ x. Some (make x)) ≡ Some line → LineAt name text line
made_line {A} {parser} {ok} {words} name make takes told text line h =
    let (x, is, e) = bound (parser text) (λ x. Some (make x)) line h in
    let k = takes.is text x is in
    let same : make x ≡ line = cc in
    subst (LineAt name text) same (record { ok = (told x).0 ∙ k.0; spaced = (words x, (told x).1, k.1) })

line_at-is : (name : Keyword) (text : List ℕ) (line : Line) → line_at name text ≡ Some line → LineAt (keyword_text name) text line
line_at-is (keywords.One one) text line h =
    made_line (one_text one) (λ w. says.Do (with_one one w)) takes_one_word (λ w. one_words one w) text line h
line_at-is (keywords.Two two) text line h =
    made_line (two_text two) (λ ws. says.Do (with_two two ws.0 ws.1)) takes_two_words (λ ws. two_words_of two ws.0 ws.1) text line h
line_at-is (keywords.Named named) text line h =
    made_line (named_text named) (λ xw. says.Do (with_variable named xw.0 xw.1)) takes_variable_and_word (λ xw. named_words named xw.0 xw.1)
    text line h
line_at-is keywords.Concat text line h =
    made_line (codes "concat") (λ ws. says.Do (commands.Concat ws.0.0 ws.0.1 ws.1)) takes_three_words (λ ws. (refl, refl)) text line h
line_at-is keywords.Chmod text line h =
    made_line (codes "chmod") (λ sp. says.Do (commands.Chmod sp.0 sp.1)) takes_switch_and_word (λ sp. (refl, refl)) text line h
line_at-is keywords.If text line h = made_line (codes "if") (λ c. says.If c) takes_condition (λ c. (refl, refl)) text line h
line_at-is keywords.For text line h = made_line (codes "for") (λ xw. says.For xw.0 xw.1) takes_turns (λ xw. (refl, refl)) text line h
line_at-is keywords.Stop text line h =
    let e = ended_is says.Stop line text h in
    subst (LineAt (codes "stop") text) e.1 (record { ok = refl; spaced = ([], refl, e.0) })
line_at-is keywords.Close text line h = closing_at-is text line h

-- a line that is parsed is what the text spells
pub line_of-is : (text : List ℕ) (line : Line) → line_of text ≡ Some line → SpellsLine text line
unfolding line_of
line_of-is text line h =
    let (name, is, more) = bound (keyword_at (run_of text)) (λ name. line_at name (past_run text)) line h in
    let at = line_at-is name (past_run text) line more in
    let (words, are, spaced) = at.spaced in
    let whole : run_of text ∷ words ≡ line_words line = ap (λ xs. xs ∷ words) (keyword_at-is (run_of text) name is) ∙ sym are in
    (at.ok, subst (λ ws. IsSpaced text ws) whole (run_spaced text words spaced))

keyword_line : (name : Keyword) (text : List ℕ) (words : List (List ℕ)) → IsSpaced text (keyword_text name ∷ words)
    → (line_of text ≡ line_at name (past_run text)) × IsSpaced (past_run text) words
unfolding line_of
keyword_line name text words h =
    let k = spaced_run text (keyword_text name) words (is_keyword name).solid h in (
      then_is (keyword_at (run_of text)) (λ name. line_at name (past_run text)) name (line_at name (past_run text))
          (ap keyword_at k.0 ∙ (is_keyword name).found) refl,
      k.1,
    )

-- operands that are spelled after this keyword are parsed as what is made of them
made_spelled : {A : Type 0} {parser : List ℕ → Option A} {ok : A → Bool} {words : A → List (List ℕ)} (name : Keyword) (make : A → Line)
    → Takes parser ok words → ((text : List ℕ) → line_at name text ≡ parser text >>= (λ x. Some (make x)))
    → (text : List ℕ) (x : A) → ok x ≡ true → IsSpaced text (keyword_text name ∷ words x) → line_of text ≡ Some (make x)
made_spelled {A} {parser} {ok} {words} name make takes told text x oks h =
    let k = keyword_line name text (words x) h in
    k.0 ∙ told (past_run text) ∙ then_is (parser (past_run text)) _ x _ (takes.spaced (past_run text) x oks k.1) refl

spelled_command : (c : Command) (text : List ℕ) → Form c → is_command c ≡ true → IsSpaced text (command_words c)
    → line_of text ≡ Some (says.Do c)
spelled_command _ text (one_form one w) ok h =
    let (same, words) = one_words one w in
    made_spelled (keywords.One one) (λ w. says.Do (with_one one w)) takes_one_word (λ text. refl) text w (sym same ∙ ok)
    (subst (IsSpaced text) words h)
spelled_command _ text (two_form two v w) ok h =
    let (same, words) = two_words_of two v w in
    made_spelled (keywords.Two two) (λ ws. says.Do (with_two two ws.0 ws.1)) takes_two_words (λ text. refl) text (v, w) (sym same ∙ ok)
    (subst (IsSpaced text) words h)
spelled_command _ text (named_form named x w) ok h =
    let (same, words) = named_words named x w in
    made_spelled (keywords.Named named) (λ xw. says.Do (with_variable named xw.0 xw.1)) takes_variable_and_word (λ text. refl) text (x, w)
    (sym same ∙ ok) (subst (IsSpaced text) words h)
spelled_command _ text (concat_form u v w) ok h =
    made_spelled keywords.Concat (λ ws. says.Do (commands.Concat ws.0.0 ws.0.1 ws.1)) takes_three_words (λ text. refl) text ((u, v), w) ok h
spelled_command _ text (chmod_form switch w) ok h =
    made_spelled keywords.Chmod (λ sp. says.Do (commands.Chmod sp.0 sp.1)) takes_switch_and_word (λ text. refl) text (switch, w) ok h

-- a text that spells a line is parsed as it
pub line_of-spelled : (text : List ℕ) (line : Line) → SpellsLine text line → line_of text ≡ Some line
line_of-spelled text (says.Do command) (ok, h) = spelled_command command text (form_of command) ok h
line_of-spelled text says.Stop (ok, h) = let k = keyword_line keywords.Stop text [] h in k.0 ∙ ended-blank says.Stop (past_run text) k.1
line_of-spelled text (says.If c) (ok, h) = made_spelled keywords.If (λ c. says.If c) takes_condition (λ text. refl) text c ok h
line_of-spelled text (says.For x w) (ok, h) =
    made_spelled keywords.For (λ xw. says.For xw.0 xw.1) takes_turns (λ text. refl) text (x, w) ok h
line_of-spelled text says.Else (ok, h) =
    let k = keyword_line keywords.Close text (codes "else" ∷ brace ∷ []) h in k.0 ∙ closing_at-else (past_run text) k.1
line_of-spelled text says.Close (ok, h) = let k = keyword_line keywords.Close text [] h in k.0 ∙ closing_at-close (past_run text) k.1

-- ---- no line that says something is skipped

said_by_name : (name : Keyword) (text : List ℕ) (words : List (List ℕ)) → IsSpaced text (keyword_text name ∷ words)
    → is_skipped text ≡ false
said_by_name name text words h = let k = is_keyword name in not_skipped text (keyword_text name) words k.solid k.said h

said_command : (c : Command) (text : List ℕ) → Form c → IsSpaced text (command_words c) → is_skipped text ≡ false
said_command _ text (one_form one w) h =
    said_by_name (keywords.One one) text (word_text w ∷ []) (subst (IsSpaced text) (one_words one w).1 h)
said_command _ text (two_form two v w) h =
    said_by_name (keywords.Two two) text (word_text v ∷ word_text w ∷ []) (subst (IsSpaced text) (two_words_of two v w).1 h)
said_command _ text (named_form named x w) h =
    said_by_name (keywords.Named named) text (x ∷ word_text w ∷ []) (subst (IsSpaced text) (named_words named x w).1 h)
said_command _ text (concat_form u v w) h = said_by_name keywords.Concat text (word_text u ∷ word_text v ∷ word_text w ∷ []) h
said_command _ text (chmod_form switch w) h = said_by_name keywords.Chmod text (switch_text switch ∷ word_text w ∷ []) h

pub spelled_said : (text : List ℕ) (line : Line) → SpellsLine text line → is_skipped text ≡ false
spelled_said text (says.Do command) (ok, h) = said_command command text (form_of command) h
spelled_said text says.Stop (ok, h) = said_by_name keywords.Stop text [] h
spelled_said text (says.If c) (ok, h) = said_by_name keywords.If text (condition_words c ++ brace ∷ []) h
spelled_said text (says.For x w) (ok, h) = said_by_name keywords.For text (x ∷ codes "in" ∷ word_text w ∷ brace ∷ []) h
spelled_said text says.Else (ok, h) = said_by_name keywords.Close text (codes "else" ∷ brace ∷ []) h
spelled_said text says.Close (ok, h) = said_by_name keywords.Close text [] h
