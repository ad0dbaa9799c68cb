-- The laws of questions, answers and reads.
use Rattle.std.proofs.Common.{◌≡◌, ℕ, ◌<◌, ◌^◌, List, [], ◌∷◌, length, Ok, refl, ◌∙◌, arith}
use Rattle.iot_text.specs.Paths.{IsPath}
use Rattle.iot_tree.specs.declared.questions.Question.{Question}
use Rattle.iot_tree.specs.declared.questions.Question.TheVariants as asks
use Rattle.iot_tree.specs.declared.questions.Answer.{Answer}
use Rattle.iot_tree.specs.declared.questions.Answer.TheVariants as answers
use Rattle.iot_tree.specs.declared.acts.Read.{Read}
use Rattle.iot_codec.specs.Places.{LiesAt, IsSpelling}
use Rattle.iot_views.specs.Decoders.{◌>>=◌, done}
use Rattle.iot_views.specs.Decoding.{path_at, contents_at, children_at, question_table, question_at, answer_table, answer_at, read_at}
use Rattle.iot_views.specs.Decoding.{reads_at}
use Rattle.iot_views.specs.Rules.{IsContents, AreChildren, IsQuestion, IsAnswer, IsRead, AreReads}
use Rattle.iot_codec.specs.Spelling.{path_spelling, contents_spelling, children_spelling, question_spelling, answer_spelling}
use Rattle.iot_codec.specs.Spelling.{read_spelling, reads_spelling}
use Rattle.iot_codec.specs.Laws.Parts.{same_rule}
use Rattle.iot_codec.specs.Laws.Lists.{list_laws}
use Rattle.iot_codec.specs.Laws.Tags.{AreArms, empty_arm, single_arm, tagged_found, tagged_again, empty_again, single_again}
use Rattle.iot_codec.specs.Laws.Fields.{last_field, next_field, all_fields}
use Rattle.iot_codec.specs.Laws.Values.{path_laws, contents_laws, children_laws}

-- ---- questions

question_arms : AreArms IsQuestion question_spelling question_table
unfolding question_spelling
question_arms =
    let of = λ (tag : ℕ) (make : List (List ℕ) → Question) (has : (path : List (List ℕ)) → IsPath path → IsQuestion (make path))
    (spelled : (path : List (List ℕ)) → question_spelling (make path) ≡ tag ∷ path_spelling path).
    single_arm IsQuestion question_spelling tag IsPath path_spelling path_at path_laws make has spelled in (
      of 1 asks.Kind (λ x has. has) (λ x. refl),
      (
        of 2 asks.Content (λ x has. has) (λ x. refl),
        (of 3 asks.Names (λ x has. has) (λ x. refl), (of 4 asks.Mode (λ x has. has) (λ x. refl), tt)),
      ),
    )

question_again : (q : Question) (bytes : List ℕ) (at end : ℕ) → length bytes < 2 ^ 64 → IsQuestion q
    → LiesAt bytes at (question_spelling q) end → question_at bytes at ≡ Ok (q, end)
unfolding question_at question_spelling
question_again (asks.Kind path) bytes at end short has p =
    tagged_again question_table bytes at end 1 (path_spelling path) p
    ∙ single_again IsPath path_spelling path_at path_laws asks.Kind path bytes at end 1 short has p
question_again (asks.Content path) bytes at end short has p =
    tagged_again question_table bytes at end 2 (path_spelling path) p
    ∙ single_again IsPath path_spelling path_at path_laws asks.Content path bytes at end 2 short has p
question_again (asks.Names path) bytes at end short has p =
    tagged_again question_table bytes at end 3 (path_spelling path) p
    ∙ single_again IsPath path_spelling path_at path_laws asks.Names path bytes at end 3 short has p
question_again (asks.Mode path) bytes at end short has p =
    tagged_again question_table bytes at end 4 (path_spelling path) p
    ∙ single_again IsPath path_spelling path_at path_laws asks.Mode path bytes at end 4 short has p

question_some : (q : Question) → 0 < length (question_spelling q)
unfolding question_spelling
question_some (asks.Kind path) = omega arith
question_some (asks.Content path) = omega arith
question_some (asks.Names path) = omega arith
question_some (asks.Mode path) = omega arith

pub question_laws : IsSpelling IsQuestion question_spelling question_at
unfolding question_at
question_laws = record {
  found = λ bytes at read fit e. tagged_found IsQuestion question_spelling question_table bytes at read question_arms fit e;
  only = λ bytes at read short p. question_again read.0 bytes at read.1 short p.value p.place;
  some = question_some;
}

-- ---- answers

answer_arms : AreArms IsAnswer answer_spelling answer_table
unfolding answer_spelling
answer_arms =
    let empty =
    λ (tag : ℕ) (answer : Answer) (has : IsAnswer answer) (spelled : answer_spelling answer ≡ tag ∷ []). empty_arm IsAnswer
    answer_spelling tag answer has spelled in
    let bytes =
    single_arm IsAnswer answer_spelling 5 IsContents contents_spelling contents_at contents_laws answers.Bytes (λ x has. has)
    (λ x. refl) in
    let names =
    single_arm IsAnswer answer_spelling 6 AreChildren children_spelling children_at children_laws answers.Names (λ x has. has)
    (λ x. refl) in (
      empty 1 answers.Away tt refl,
      (
        empty 2 answers.Absent tt refl,
        (
          empty 3 answers.IsDir tt refl,
          (
            empty 4 answers.IsFile tt refl,
            (bytes, (names, (empty 7 answers.On tt refl, (empty 8 answers.Off tt refl, tt)))),
          ),
        ),
      ),
    )

answer_again : (a : Answer) (bytes : List ℕ) (at end : ℕ) → length bytes < 2 ^ 64 → IsAnswer a → LiesAt bytes at (answer_spelling a) end
    → answer_at bytes at ≡ Ok (a, end)
unfolding answer_at answer_spelling
answer_again answers.Away bytes at end short has p =
    tagged_again answer_table bytes at end 1 [] p ∙ empty_again answers.Away bytes at end 1 p
answer_again answers.Absent bytes at end short has p =
    tagged_again answer_table bytes at end 2 [] p ∙ empty_again answers.Absent bytes at end 2 p
answer_again answers.IsDir bytes at end short has p =
    tagged_again answer_table bytes at end 3 [] p ∙ empty_again answers.IsDir bytes at end 3 p
answer_again answers.IsFile bytes at end short has p =
    tagged_again answer_table bytes at end 4 [] p ∙ empty_again answers.IsFile bytes at end 4 p
answer_again (answers.Bytes contents) bytes at end short has p =
    tagged_again answer_table bytes at end 5 (contents_spelling contents) p
    ∙ single_again IsContents contents_spelling contents_at contents_laws answers.Bytes contents bytes at end 5 short has p
answer_again (answers.Names children) bytes at end short has p =
    tagged_again answer_table bytes at end 6 (children_spelling children) p
    ∙ single_again AreChildren children_spelling children_at children_laws answers.Names children bytes at end 6 short has p
answer_again answers.On bytes at end short has p =
    tagged_again answer_table bytes at end 7 [] p ∙ empty_again answers.On bytes at end 7 p
answer_again answers.Off bytes at end short has p =
    tagged_again answer_table bytes at end 8 [] p ∙ empty_again answers.Off bytes at end 8 p

answer_some : (a : Answer) → 0 < length (answer_spelling a)
unfolding answer_spelling
answer_some answers.Away = omega arith
answer_some answers.Absent = omega arith
answer_some answers.IsDir = omega arith
answer_some answers.IsFile = omega arith
answer_some (answers.Bytes contents) = omega arith
answer_some (answers.Names children) = omega arith
answer_some answers.On = omega arith
answer_some answers.Off = omega arith

pub answer_laws : IsSpelling IsAnswer answer_spelling answer_at
unfolding answer_at
answer_laws = record {
  found = λ bytes at read fit e. tagged_found IsAnswer answer_spelling answer_table bytes at read answer_arms fit e;
  only = λ bytes at read short p. answer_again read.0 bytes at read.1 short p.value p.place;
  some = answer_some;
}

-- ---- reads

pub read_laws : IsSpelling IsRead read_spelling read_at
unfolding read_at read_spelling
read_laws =
    let Fields : Read → Type 0 = λ r. IsQuestion r.question × IsAnswer r.answer in
    let fields : IsSpelling Fields read_spelling read_at =
    all_fields Fields read_spelling
    (λ f. question_at >>= λ question. answer_at >>= λ answer. done (record { question = question; answer = answer }))
    (next_field (λ r. tt) (λ r. r.question) IsQuestion question_spelling question_at question_laws (λ r. IsAnswer r.answer)
    (λ r. answer_spelling r.answer) (λ f. answer_at >>= λ answer. done (record { question = f.1; answer = answer }))
    (last_field (λ r. (tt, r.question)) (λ r. r.answer) IsAnswer answer_spelling answer_at answer_laws
    (λ f answer. record { question = f.1; answer = answer })
    (record { whole = λ r. refl; front_is = λ f y. refl; last_is = λ f y. refl }))) in
    same_rule Fields IsRead read_spelling read_at (λ r has. record { question = has.0; answer = has.1 })
    (λ r has. (has.question, has.answer)) fields

pub reads_laws : IsSpelling AreReads reads_spelling reads_at
unfolding reads_at
reads_laws = list_laws IsRead read_spelling read_at read_laws
