-- The laws of messages: what is decoded is what is spelled.
use Rattle.std.proofs.Common.{◌≡◌, ℕ, ◌+◌, ◌<◌, ◌≤◌, ◌^◌, List, [], ◌∷◌, ◌++◌, length, Ok, refl, ◌∙◌, arith}
use Rattle.iot_tree.specs.Profiles.{IsProfile, IsWalkLimit}
use Rattle.iot_codec.specs.Places.{LiesAt, IsSpelling}
use Rattle.iot_views.specs.Decoders.{Decoder, ◌>>=◌, go_on, done, number_at, at_most}
use Rattle.iot_views.specs.Decoding.{known_at, want_at, label_at, access_at, lines_at, changes_at, answer_at, profile_at}
use Rattle.iot_views.specs.Decoding.{walk_limit_at}
use Rattle.iot_views.specs.Rules.{IsNumber, AreKnown, IsWant, IsLabel, IsAccess, AreLines, AreChanges, IsAnswer}
use Rattle.iot_codec.specs.Spelling.{number_spelling, known_spelling, want_spelling, label_spelling, access_spelling, lines_spelling}
use Rattle.iot_codec.specs.Spelling.{changes_spelling, answer_spelling, profile_spelling}
use Rattle.iot_codec.specs.Laws.Changes.{known_laws, changes_laws}
use Rattle.iot_codec.specs.Laws.Labels.{label_laws}
use Rattle.iot_codec.specs.Laws.Parts.{number_laws, at_most_laws}
use Rattle.iot_codec.specs.Laws.Places.{lies_then, lies_first, lies_second, lies_after_tag}
use Rattle.iot_codec.specs.Laws.Profiles.{profile_laws, walk_limit_laws}
use Rattle.iot_codec.specs.Laws.Questions.{answer_laws}
use Rattle.iot_codec.specs.Laws.Steps.{step, carried}
use Rattle.iot_codec.specs.Laws.Tags.{IsAfter, IsArm, single_arm, double_arm, tagged_found, tagged_again, single_again, double_again}
use Rattle.iot_codec.specs.Laws.Bases.{access_laws}
use Rattle.iot_codec.specs.Laws.Values.{lines_laws}
use Rattle.iot_codec.specs.Laws.Wants.{want_laws}
use Rattle.iot_wire.specs.Decoding.{refresh_at, commit_at, walk_at, request_at, objects_at, committed_at, already_at}
use Rattle.iot_wire.specs.Decoding.{conflict_at, reply_at}
use Rattle.iot_wire.specs.Rules.{IsRequest, IsReply}
use Rattle.iot_wire.specs.Spelling.{request_spelling, reply_spelling}
use Rattle.iot_wire.specs.declared.requests.Request.{Request}
use Rattle.iot_wire.specs.declared.requests.Request.TheVariants.{Refresh, Commit, Walk}
use Rattle.iot_wire.specs.declared.replies.Reply.{Reply}
use Rattle.iot_wire.specs.declared.replies.Reply.TheVariants.{Objects, Committed, Already, Conflict}

-- ---- three values after a tag

module _ {X Y W : Type 0} (HasX : X → Type 0) (x_spelling : X → List ℕ) (x_decoder : Decoder X)
    (x_laws : IsSpelling HasX x_spelling x_decoder)
    (HasY : Y → Type 0) (y_spelling : Y → List ℕ) (y_decoder : Decoder Y) (y_laws : IsSpelling HasY y_spelling y_decoder)
    (HasW : W → Type 0) (w_spelling : W → List ℕ) (w_decoder : Decoder W) (w_laws : IsSpelling HasW w_spelling w_decoder) where
  triple_arm : {Z : Type 0} (HasSpelling : Z → Type 0) (spelling : Z → List ℕ) (tag : ℕ) (make : X → Y → W → Z)
      → ((x : X) (y : Y) (w : W) → HasX x → HasY y → HasW w → HasSpelling (make x y w))
      → ((x : X) (y : Y) (w : W) → spelling (make x y w) ≡ tag ∷ (x_spelling x ++ (y_spelling y ++ w_spelling w)))
      → IsArm HasSpelling spelling tag (x_decoder >>= λ x. y_decoder >>= λ y. w_decoder >>= λ w. done (make x y w))
  triple_arm HasSpelling spelling tag make has spelled bytes at read fit within e =
      let s =
      step (x_decoder bytes at)
      (λ x after. go_on (y_decoder bytes after) (λ y mid. go_on (w_decoder bytes mid) (λ w end. Ok (make x y w, end)))) read e in
      let p = x_laws.found bytes at s.0 fit s.1 in
      let t = step (y_decoder bytes s.0.1) (λ y mid. go_on (w_decoder bytes mid) (λ w end. Ok (make s.0.0 y w, end))) read s.2 in
      let q = y_laws.found bytes s.0.1 t.0 fit t.1 in
      let u = step (w_decoder bytes t.0.1) (λ w end. Ok (make s.0.0 t.0.0 w, end)) read t.2 in
      let r = w_laws.found bytes t.0.1 u.0 fit u.1 in
      let rest = lies_then bytes s.0.1 t.0.1 u.0.1 (y_spelling t.0.0) (w_spelling u.0.0) q.place r.place in
      carried (IsAfter HasSpelling spelling tag bytes at) (make s.0.0 t.0.0 u.0.0, u.0.1) read u.2
      (record {
        value = has s.0.0 t.0.0 u.0.0 p.value q.value r.value;
        text = x_spelling s.0.0 ++ (y_spelling t.0.0 ++ w_spelling u.0.0);
        spelled = spelled s.0.0 t.0.0 u.0.0;
        place = lies_then bytes at s.0.1 u.0.1 (x_spelling s.0.0) (y_spelling t.0.0 ++ w_spelling u.0.0) p.place rest;
      })

  triple_again : {Z : Type 0} (make : X → Y → W → Z) (x : X) (y : Y) (w : W) (bytes : List ℕ) (at end tag : ℕ) → length bytes < 2 ^ 64
      → HasX x → HasY y → HasW w → LiesAt bytes at (tag ∷ (x_spelling x ++ (y_spelling y ++ w_spelling w))) end
      → (x_decoder >>= λ a. y_decoder >>= λ b. w_decoder >>= λ c. done (make a b c)) bytes (at + 1) ≡ Ok (make x y w, end)
  triple_again make x y w bytes at end tag short has_x has_y has_w p =
      let others : List ℕ = y_spelling y ++ w_spelling w in
      let all = lies_after_tag bytes at end tag (x_spelling x ++ others) p in
      let first : ℕ = (at + 1) + length (x_spelling x) in
      let rest = lies_second bytes (at + 1) end (x_spelling x) others all in
      let second : ℕ = first + length (y_spelling y) in
      let one : x_decoder bytes (at + 1)
      ≡ Ok (x, first) =
      x_laws.only bytes (at + 1) (x, first) short
      (record { value = has_x; place = lies_first bytes (at + 1) end (x_spelling x) others all }) in
      let two : y_decoder bytes first
      ≡ Ok (y, second) =
      y_laws.only bytes first (y, second) short
      (record { value = has_y; place = lies_first bytes first end (y_spelling y) (w_spelling w) rest }) in
      let three : w_decoder bytes second
      ≡ Ok (w, end) =
      w_laws.only bytes second (w, end) short
      (record { value = has_w; place = lies_second bytes first end (y_spelling y) (w_spelling w) rest }) in
      rw (one, two, three) refl

-- ---- requests

client_laws : IsSpelling (λ n. n ≤ 7) number_spelling (at_most 7)
client_laws = at_most_laws 7 (omega arith)

request_table : List (ℕ × Decoder Request)
request_table = (1, refresh_at) ∷ (2, commit_at) ∷ (3, walk_at) ∷ []

refresh_arm : IsArm IsRequest request_spelling 1 refresh_at
unfolding refresh_at request_spelling
refresh_arm =
    triple_arm (λ n. n ≤ 7) number_spelling (at_most 7) client_laws AreKnown known_spelling known_at known_laws IsWant want_spelling want_at
    want_laws IsRequest request_spelling 1 Refresh (λ client known want c k w. (c, (k, w))) (λ client known want. refl)

commit_arm : IsArm IsRequest request_spelling 2 commit_at
unfolding commit_at request_spelling
commit_arm =
    triple_arm IsLabel label_spelling label_at label_laws IsAccess access_spelling access_at access_laws AreLines lines_spelling lines_at
    lines_laws IsRequest request_spelling 2 Commit (λ label access lines l a n. (l, (a, n))) (λ label access lines. refl)

walk_arm : IsArm IsRequest request_spelling 3 walk_at
unfolding walk_at request_spelling
walk_arm =
    triple_arm (λ n. n ≤ 7) number_spelling (at_most 7) client_laws IsProfile profile_spelling profile_at profile_laws IsWalkLimit
    number_spelling walk_limit_at walk_limit_laws IsRequest request_spelling 3 Walk (λ client profile limit c p l. (c, (p, l)))
    (λ client profile limit. refl)

request_again : (r : Request) (bytes : List ℕ) (at end : ℕ) → length bytes < 2 ^ 64 → IsRequest r → LiesAt bytes at (request_spelling r) end
    → request_at bytes at ≡ Ok (r, end)
unfolding request_at request_table refresh_at commit_at walk_at request_spelling
request_again (Refresh client known want) bytes at end short has p =
    tagged_again request_table bytes at end 1 (number_spelling client ++ (known_spelling known ++ want_spelling want)) p
    ∙ triple_again (λ n. n ≤ 7) number_spelling (at_most 7) client_laws AreKnown known_spelling known_at known_laws IsWant want_spelling
    want_at want_laws Refresh client known want bytes at end 1 short has.0 has.1.0 has.1.1 p
request_again (Commit label access lines) bytes at end short has p =
    tagged_again request_table bytes at end 2 (label_spelling label ++ (access_spelling access ++ lines_spelling lines)) p
    ∙ triple_again IsLabel label_spelling label_at label_laws IsAccess access_spelling access_at access_laws AreLines lines_spelling
    lines_at lines_laws Commit label access lines bytes at end 2 short has.0 has.1.0 has.1.1 p
request_again (Walk client profile limit) bytes at end short has p =
    tagged_again request_table bytes at end 3 (number_spelling client ++ (profile_spelling profile ++ number_spelling limit)) p
    ∙ triple_again (λ n. n ≤ 7) number_spelling (at_most 7) client_laws IsProfile profile_spelling profile_at profile_laws IsWalkLimit
    number_spelling walk_limit_at walk_limit_laws Walk client profile limit bytes at end 3 short has.0 has.1.0 has.1.1 p

request_some : (r : Request) → 0 < length (request_spelling r)
unfolding request_spelling
request_some (Refresh client known want) = omega arith
request_some (Commit label access lines) = omega arith
request_some (Walk client profile limit) = omega arith

pub request_laws : IsSpelling IsRequest request_spelling request_at
unfolding request_at request_table
request_laws = record {
  found = λ bytes at read fit e.
      tagged_found IsRequest request_spelling request_table bytes at read (refresh_arm, (commit_arm, (walk_arm, tt))) fit e;
  only = λ bytes at read short p. request_again read.0 bytes at read.1 short p.value p.place;
  some = request_some;
}

-- ---- replies

reply_table : List (ℕ × Decoder Reply)
reply_table = (1, objects_at) ∷ (2, committed_at) ∷ (3, already_at) ∷ (4, conflict_at) ∷ []

objects_arm : IsArm IsReply reply_spelling 1 objects_at
unfolding objects_at reply_spelling
objects_arm =
    single_arm IsReply reply_spelling 1 AreChanges changes_spelling changes_at changes_laws Objects (λ changes has. has) (λ changes. refl)

committed_arm : IsArm IsReply reply_spelling 2 committed_at
unfolding committed_at reply_spelling
committed_arm =
    single_arm IsReply reply_spelling 2 IsNumber number_spelling number_at number_laws Committed (λ n has. has) (λ n. refl)

already_arm : IsArm IsReply reply_spelling 3 already_at
unfolding already_at reply_spelling
already_arm = single_arm IsReply reply_spelling 3 IsNumber number_spelling number_at number_laws Already (λ n has. has) (λ n. refl)

conflict_arm : IsArm IsReply reply_spelling 4 conflict_at
unfolding conflict_at reply_spelling
conflict_arm =
    double_arm IsReply reply_spelling 4 IsNumber number_spelling number_at number_laws IsAnswer answer_spelling answer_at answer_laws
    Conflict (λ read answer r a. (r, a)) (λ read answer. refl)

reply_again : (r : Reply) (bytes : List ℕ) (at end : ℕ) → length bytes < 2 ^ 64 → IsReply r → LiesAt bytes at (reply_spelling r) end
    → reply_at bytes at ≡ Ok (r, end)
unfolding reply_at reply_table objects_at committed_at already_at conflict_at reply_spelling
reply_again (Objects changes) bytes at end short has p =
    tagged_again reply_table bytes at end 1 (changes_spelling changes) p
    ∙ single_again AreChanges changes_spelling changes_at changes_laws Objects changes bytes at end 1 short has p
reply_again (Committed number) bytes at end short has p =
    tagged_again reply_table bytes at end 2 (number_spelling number) p
    ∙ single_again IsNumber number_spelling number_at number_laws Committed number bytes at end 2 short has p
reply_again (Already number) bytes at end short has p =
    tagged_again reply_table bytes at end 3 (number_spelling number) p
    ∙ single_again IsNumber number_spelling number_at number_laws Already number bytes at end 3 short has p
reply_again (Conflict read answer) bytes at end short has p =
    tagged_again reply_table bytes at end 4 (number_spelling read ++ answer_spelling answer) p
    ∙ double_again IsNumber number_spelling number_at number_laws IsAnswer answer_spelling answer_at answer_laws Conflict read answer
    bytes at end 4 short has.0 has.1 p

reply_some : (r : Reply) → 0 < length (reply_spelling r)
unfolding reply_spelling
reply_some (Objects changes) = omega arith
reply_some (Committed number) = omega arith
reply_some (Already number) = omega arith
reply_some (Conflict read answer) = omega arith

pub reply_laws : IsSpelling IsReply reply_spelling reply_at
unfolding reply_at reply_table
reply_laws = record {
  found = λ bytes at read fit e.
      tagged_found IsReply reply_spelling reply_table bytes at read
      (objects_arm, (committed_arm, (already_arm, (conflict_arm, tt)))) fit e;
  only = λ bytes at read short p. reply_again read.0 bytes at read.1 short p.value p.place;
  some = reply_some;
}
