-- Records that are spelled out, and how they are found again.
use Rattle.std.proofs.Common.{◌≡◌, ◌≢◌, ◌≤◌, ◌<◌, inl, inr, ℕ, zero, suc, ◌+◌, ◌-◌, ◌*◌, ◌^◌, Bool, true, false, cond, List, [], ◌∷◌, ◌++◌}
use Rattle.std.proofs.Common.{length, get_or, take, drop, refl, sym, ◌∙◌, ap, subst, arith, append_assoc, length-append, length-drop}
use Rattle.std.specs.Prelude.{◌==◌, ◌&&◌}
use Rattle.std.specs.Int.{w64, from_be_bytes, to_be_bytes}
use Rattle.std.proofs.lemmas.Bool.{cases_lt}
use Rattle.std.proofs.lemmas.Bool.Decides.{nat_tests}
use Rattle.std.proofs.lemmas.List.{append-nil, take_at, drop_at, drop-drop, drop_more, take-append-drop, length-take-le}
use Rattle.std.proofs.lemmas.List.{get_or-take, get_or_past}
use Rattle.std.proofs.lemmas.Nat.{be_bytes_8}
use Rattle.iot_records.specs.Bytes.{number, number_in}
use Rattle.iot_records.specs.Records.{Series, Whole, Cut, spelled, records, prepended, is_whole, series_from, series_in}
use Rattle.iot_records.specs.Records.{front_from, front_bodies, IsSeries}
use Rattle.iot_records.proofs.BytesLaws.{length-number, number_in-number}

-- ---- what is spelled

pub length-spelled : (body : List ℕ) → length (spelled body) ≡ 8 + length body
length-spelled body = omega (arith, length-number (length body), length-append (number (length body)) body)

pub length-records : (body : List ℕ) (bodies : List (List ℕ)) → length (records (body ∷ bodies)) ≡ 9 + length body + length (records bodies)
length-records body bodies = omega (arith, length-spelled body, length-append (spelled body) (records bodies))

pub length-bodies-le : (bodies : List (List ℕ)) → 9 * length bodies ≤ length (records bodies)
length-bodies-le [] = omega arith
length-bodies-le (body ∷ bodies) = omega (arith, length-records body bodies, length-bodies-le bodies)

-- one record more
pub records-push : (bodies : List (List ℕ)) (body rest : List ℕ) →
    records (bodies ++ body ∷ []) ++ rest ≡ records bodies ++ 165 ∷ (spelled body ++ rest)
records-push [] body rest = ap (λ (l : List ℕ). 165 ∷ (l ++ rest)) (append-nil (spelled body))
records-push (b ∷ bodies) body rest = ap (λ (l : List ℕ). 165 ∷ l) (
    append_assoc (spelled b) (records (bodies ++ body ∷ [])) rest
    ∙ ap (λ (l : List ℕ). spelled b ++ l) (records-push bodies body rest)
    ∙ sym (append_assoc (spelled b) (records bodies) (165 ∷ (spelled body ++ rest))))

pub length-records-append : (front bodies : List (List ℕ)) →
    length (records (front ++ bodies)) ≡ length (records front) + length (records bodies)
length-records-append [] bodies = omega arith
length-records-append (body ∷ front) bodies =
    omega (arith, length-records body front, length-records body (front ++ bodies), length-records-append front bodies)

pub length-records-push : (bodies : List (List ℕ)) (body : List ℕ) →
    length (records (bodies ++ body ∷ [])) ≡ length (records bodies) + 9 + length body
length-records-push bodies body = omega (arith, length-records-append bodies (body ∷ []), length-records body [])

-- ---- what is decoded

-- an open gate, and after it a whole record
after_open : (steps at size : ℕ) (bytes : List ℕ) → number_in bytes ≡ size → 8 + size < length bytes →
    series_from (suc steps) at (165 ∷ bytes)
    ≡ prepended (take size (drop 8 bytes)) (series_from steps (at + 9 + size) (drop (8 + size) bytes))
after_open steps at size bytes is whole =
    let after : ℕ → Series = λ n. prepended (take n (drop 8 bytes)) (series_from steps (at + 9 + n) (drop (8 + n) bytes)) in
    let test : is_whole bytes ≡ true = grind (arith, nat_tests) in
    ap (λ (b : Bool). cond b (after (number_in bytes)) (Cut at)) test ∙ ap after is

-- an open gate, and no whole record after it
after_cut : (steps at : ℕ) (bytes : List ℕ) → length bytes ≤ 8 + number_in bytes → series_from (suc steps) at (165 ∷ bytes) ≡ Cut at
after_cut steps at bytes short =
    let after : ℕ → Series = λ n. prepended (take n (drop 8 bytes)) (series_from steps (at + 9 + n) (drop (8 + n) bytes)) in
    let test : is_whole bytes ≡ false = grind (arith, nat_tests) in
    ap (λ (b : Bool). cond b (after (number_in bytes)) (Cut at)) test

-- a closed gate
at_shut : (steps at gate : ℕ) (bytes : List ℕ) → gate ≢ 165 → series_from (suc steps) at (gate ∷ bytes) ≡ Whole []
at_shut steps at gate bytes shut = grind (arith, nat_tests)

-- more steps than there are bytes make no difference
front_enough : (m n : ℕ) (bytes : List ℕ) → length bytes ≤ m → length bytes ≤ n → front_from m bytes ≡ front_from n bytes
front_enough zero zero bytes few less = refl
front_enough zero (suc n) [] few less = refl
front_enough (suc m) zero [] few less = refl
front_enough (suc m) (suc n) [] few less = refl
front_enough zero n (gate ∷ bytes) few less = absurd (omega (arith, few))
front_enough (suc m) zero (gate ∷ bytes) few less = absurd (omega (arith, less))
front_enough (suc m) (suc n) (gate ∷ bytes) few less =
    let size = number_in bytes in
    let left = length-drop (8 + size) bytes in
    ap (λ (l : List (List ℕ)). cond (gate == 165 && is_whole bytes) (take size (drop 8 bytes) ∷ l) [])
    (front_enough m n (drop (8 + size) bytes) (omega (arith, few, left)) (omega (arith, less, left)))

-- an open gate after which no whole record stands
front_none : (bytes : List ℕ) → front_bodies (165 ∷ bytes) ≡ [] → length bytes ≤ 8 + number_in bytes
front_none bytes none = elim (cases_lt (8 + number_in bytes) (length bytes)) [
  | inl whole ↦
      let test : is_whole bytes ≡ true = grind (arith, nat_tests) in
      let one = take (number_in bytes) (drop 8 bytes) ∷ front_from (length bytes) (drop (8 + number_in bytes) bytes) in
      let clash : one ≡ [] = ap (λ (b : Bool). cond b one []) (sym test) ∙ none in
      absurd cc
  | inr short ↦ short
]

-- a record that is spelled out
module _ (body rest : List ℕ) (fits : length body < 2 ^ 64) (more : 0 < length rest) where
  abbrev all : List ℕ
  all = spelled body ++ rest

  all_whole : 8 + length body < length all
  all_whole = omega (arith, length-spelled body, length-append (spelled body) rest)

  all_number : number_in all ≡ length body
  all_number =
      ap number_in (append_assoc (number (length body)) body rest) ∙ number_in-number (length body) (body ++ rest) fits

  all_body : take (length body) (drop 8 all) ≡ body
  all_body =
      let digits = number (length body) in
      ap (λ (l : List ℕ). take (length body) (drop 8 l)) (append_assoc digits body rest)
      ∙ ap (take (length body)) (drop_at digits (body ++ rest) 8 (length-number (length body)))
      ∙ take_at body rest (length body) refl

  all_rest : drop (8 + length body) all ≡ rest
  all_rest = drop_at (spelled body) rest (8 + length body) (length-spelled body)

  record_step : (steps at : ℕ) → series_from (suc steps) at (165 ∷ all) ≡ prepended body (series_from steps (at + 9 + length body) rest)
  record_step steps at =
      let next : List ℕ → Series = λ l. series_from steps (at + 9 + length body) l in
      after_open steps at (length body) all all_number all_whole
      ∙ ap (λ (l : List ℕ). prepended l (next (drop (8 + length body) all))) all_body
      ∙ ap (λ (l : List ℕ). prepended body (next l)) all_rest

  pub front_step : front_bodies (165 ∷ all) ≡ body ∷ front_bodies rest
  front_step =
      let next : List ℕ → List (List ℕ) = λ l. front_from (length all) l in
      let after : ℕ → List (List ℕ) = λ n. take n (drop 8 all) ∷ next (drop (8 + n) all) in
      let whole : 8 + number_in all < length all = omega (arith, all_whole, all_number) in
      let test : is_whole all ≡ true = grind (arith, nat_tests) in
      ap (λ (b : Bool). cond b (after (number_in all)) []) test
      ∙ ap after all_number
      ∙ ap (λ (l : List ℕ). l ∷ next (drop (8 + length body) all)) all_body
      ∙ ap (λ (l : List ℕ). body ∷ next l) all_rest
      ∙ ap (λ (l : List (List ℕ)). body ∷ l)
      (front_enough (length all) (length rest) rest (omega (arith, length-append (spelled body) rest)) (omega arith))

-- more bodies before the others
abbrev all_prepended : List (List ℕ) → Series → Series
all_prepended [] series = series
all_prepended (body ∷ bodies) series = prepended body (all_prepended bodies series)

all_prepended-whole : (bodies : List (List ℕ)) → all_prepended bodies (Whole []) ≡ Whole bodies
all_prepended-whole [] = refl
all_prepended-whole (body ∷ bodies) = ap (prepended body) (all_prepended-whole bodies)

all_prepended-cut : (bodies : List (List ℕ)) (at : ℕ) → all_prepended bodies (Cut at) ≡ Cut at
all_prepended-cut [] at = refl
all_prepended-cut (body ∷ bodies) at = ap (prepended body) (all_prepended-cut bodies at)

records_step : (body rest : List ℕ) (bodies : List (List ℕ)) →
    records (body ∷ bodies) ++ rest ≡ 165 ∷ (spelled body ++ (records bodies ++ rest))
records_step body rest bodies = ap (λ (l : List ℕ). 165 ∷ l) (append_assoc (spelled body) (records bodies) rest)

front_records : (bodies : List (List ℕ)) (rest : List ℕ) → length (records bodies) < 2 ^ 64 → 0 < length rest →
    front_bodies (records bodies ++ rest) ≡ bodies ++ front_bodies rest
front_records [] rest fits more = refl
front_records (body ∷ bodies) rest fits more =
    let size = length-records body bodies in
    ap front_bodies (records_step body rest bodies)
    ∙ front_step body (records bodies ++ rest) (omega arith) (omega (arith, length-append (records bodies) rest))
    ∙ ap (λ (l : List (List ℕ)). body ∷ l) (front_records bodies rest (omega arith) more)

series_from-records : (bodies : List (List ℕ)) (steps at : ℕ) (rest : List ℕ) → length (records bodies) < 2 ^ 64 → 0 < length rest →
    series_from (length bodies + steps) at (records bodies ++ rest)
    ≡ all_prepended bodies (series_from steps (at + length (records bodies)) rest)
series_from-records [] steps at rest fits more =
    let zero_steps : 0 + steps ≡ steps = omega arith in
    let here : at ≡ at + 0 = omega arith in
    ap (λ (n : ℕ). series_from n at rest) zero_steps ∙ ap (λ (n : ℕ). series_from steps n rest) here
series_from-records (body ∷ bodies) steps at rest fits more =
    let size = length-records body bodies in
    let left = length bodies + steps in
    let one : length (body ∷ bodies) + steps ≡ suc left = omega arith in
    let place : at + 9 + length body + length (records bodies) ≡ at + length (records (body ∷ bodies)) = omega arith in
    ap (λ (n : ℕ). series_from n at (records (body ∷ bodies) ++ rest)) one
    ∙ ap (λ (l : List ℕ). series_from (suc left) at l) (records_step body rest bodies)
    ∙ record_step body (records bodies ++ rest) (omega arith) (omega (arith, length-append (records bodies) rest)) left at
    ∙ ap (prepended body) (series_from-records bodies steps (at + 9 + length body) rest (omega arith) more)
    ∙ ap (λ (n : ℕ). prepended body (all_prepended bodies (series_from steps n rest))) place

-- with as many steps as there are bytes one is left at the gate after the records
series_at_gate : (bodies : List (List ℕ)) (at : ℕ) (rest : List ℕ) → length (records bodies) < 2 ^ 64 → 0 < length rest →
    (steps : ℕ)
    × (series_in at (records bodies ++ rest) ≡ all_prepended bodies (series_from (suc steps) (at + length (records bodies)) rest))
series_at_gate bodies at rest fits more =
    let all = records bodies ++ rest in
    let steps = length all - length bodies - 1 in
    let left : length all ≡ length bodies + suc steps = omega (arith, length-bodies-le bodies, length-append (records bodies) rest) in
    (steps, ap (λ (n : ℕ). series_from n at all) left ∙ series_from-records bodies (suc steps) at rest fits more)

-- a closed gate after the records ends them, whatever follows it
pub series_whole : (bodies : List (List ℕ)) (at gate : ℕ) (rest : List ℕ) → length (records bodies) < 2 ^ 64 → gate ≢ 165 →
    series_in at (records bodies ++ gate ∷ rest) ≡ Whole bodies
series_whole bodies at gate rest fits shut =
    let here = series_at_gate bodies at (gate ∷ rest) fits (omega arith) in
    here.1 ∙ ap (all_prepended bodies) (at_shut here.0 (at + length (records bodies)) gate rest shut) ∙ all_prepended-whole bodies

-- an open gate after which no whole record stands
pub series_cut : (bodies : List (List ℕ)) (at : ℕ) (rest : List ℕ) → length (records bodies) < 2 ^ 64 → length rest ≤ 8 + number_in rest →
    series_in at (records bodies ++ 165 ∷ rest) ≡ Cut (at + length (records bodies))
series_cut bodies at rest fits short =
    let here = series_at_gate bodies at (165 ∷ rest) fits (omega arith) in
    here.1
    ∙ ap (all_prepended bodies) (after_cut here.0 (at + length (records bodies)) rest short)
    ∙ all_prepended-cut bodies (at + length (records bodies))

-- ---- looking at one record after another

-- these are left after so many records
pub record AreLeft (bytes rest : List ℕ) (count : ℕ) : Type 0 where
  pub front : List (List ℕ)
  pub split : bytes ≡ records front ++ rest
  pub number : count ≡ length front
  pub more : 0 < length rest

module _ (bytes rest : List ℕ) (count : ℕ) (left : AreLeft bytes rest count) where
  size : length bytes ≡ length (records left.front) + length rest
  size = ap length left.split ∙ length-append (records left.front) rest

  pub left_few : count ≤ length bytes
  left_few = omega (arith, left.number, length-bodies-le left.front, size)

  -- one record more
  pub left_next : (body after : List ℕ) → rest ≡ 165 ∷ (spelled body ++ after) → 0 < length after → AreLeft bytes after (count + 1)
  left_next body after is more = record {
    front = left.front ++ body ∷ [];
    split = left.split ∙ ap (λ (l : List ℕ). records left.front ++ l) is ∙ sym (records-push left.front body after);
    number = omega (arith, left.number, length-append left.front (body ∷ []));
    more = more;
  }

  module _ (none : front_bodies rest ≡ []) (fits : length bytes < 2 ^ 64) where
    first : rest ≡ get_or rest 0 0 ∷ drop 1 rest
    first = drop_more rest 0 0 left.more

    all_left : front_bodies bytes ≡ left.front
    all_left =
        ap front_bodies left.split
        ∙ front_records left.front rest (omega (arith, size)) left.more
        ∙ ap (λ (l : List (List ℕ)). left.front ++ l) none
        ∙ append-nil left.front

    pub left_count : count ≡ length (front_bodies bytes)
    left_count = left.number ∙ ap length (sym all_left)

    -- an open gate before no whole record
    pub left_cut : (at : ℕ) → get_or rest 0 0 ≡ 165 → series_in at bytes ≡ Cut (at + (length bytes - length rest))
    left_cut at is_open =
        let here : rest ≡ 165 ∷ drop 1 rest = first ∙ ap (λ (g : ℕ). g ∷ drop 1 rest) is_open in
        ap (series_in at) (left.split ∙ ap (λ (l : List ℕ). records left.front ++ l) here)
        ∙ series_cut left.front at (drop 1 rest) (omega (arith, size))
        (front_none (drop 1 rest) (subst (λ (l : List ℕ). front_bodies l ≡ []) here none))
        ∙ ap Cut (omega (arith, size))

    -- a closed gate
    pub left_shut : (at : ℕ) → get_or rest 0 0 ≢ 165 → IsSeries bytes at (front_bodies bytes) (at + (length bytes - length rest))
    left_shut at shut =
        subst (λ (bodies : List (List ℕ)). IsSeries bytes at bodies (at + (length bytes - length rest))) (sym all_left) (record {
          byte = get_or rest 0 0;
          rest = drop 1 rest;
          is = left.split ∙ ap (λ (l : List ℕ). records left.front ++ l) first;
          shut = shut;
          place = omega (arith, size);
        })

-- the body after a number that is whole, and what is left
pub whole_is : (bytes digits rest : List ℕ) (size : ℕ) → digits ≡ take 8 bytes → rest ≡ drop 8 bytes → 8 ≤ length bytes →
    size ≡ from_be_bytes w64 digits → ((i : ℕ) → get_or bytes i 0 < 256) → size < length rest →
    bytes ≡ spelled (take size rest) ++ drop (8 + length (take size rest)) bytes
unfolding number
whole_is bytes digits rest size digits_are rest_is long size_is small fits =
    let count : length (take size rest) ≡ size = length-take-le size rest (omega arith) in
    let digits_long : length (take 8 bytes) ≡ 8 = length-take-le 8 bytes long in
    let front : to_be_bytes w64 size ≡ take 8 bytes =
    be_bytes_8 (take 8 bytes) size digits_long small_front (size_is ∙ ap (λ (l : List ℕ). from_be_bytes w64 l) digits_are) in
    let back : drop 8 bytes ≡ take size rest ++ drop (8 + size) bytes =
    sym rest_is
    ∙ sym (take-append-drop size rest)
    ∙ ap (λ (l : List ℕ). take size rest ++ drop size l) rest_is
    ∙ ap (λ (l : List ℕ). take size rest ++ l) (drop-drop size 8 bytes) in
    sym (take-append-drop 8 bytes)
    ∙ ap (λ (l : List ℕ). l ++ drop 8 bytes) (sym front)
    ∙ ap (λ (l : List ℕ). to_be_bytes w64 size ++ l) back
    ∙ sym (append_assoc (to_be_bytes w64 size) (take size rest) (drop (8 + size) bytes))
    ∙ ap (λ (n : ℕ). (to_be_bytes w64 n ++ take size rest) ++ drop (8 + n) bytes) (sym count)
  where
    small_front : (i : ℕ) → get_or (take 8 bytes) i 0 < 256
    small_front i = elim (cases_lt i 8) [
      | inl below ↦ subst (λ (n : ℕ). n < 256) (sym (get_or-take 8 bytes i 0 below)) (small i)
      | inr past ↦
          subst (λ (n : ℕ). n < 256) (sym (get_or_past (take 8 bytes) i 0 (omega (arith, length-take-le 8 bytes long)))) (omega arith)
    ]

-- no whole record
pub not_whole : (bytes digits rest : List ℕ) (size : ℕ) → digits ≡ take 8 bytes → length rest + 8 ≡ length bytes →
    size ≡ from_be_bytes w64 digits → length rest ≤ size → length bytes ≤ 8 + number_in bytes
unfolding number_in
not_whole bytes digits rest size digits_are long size_is short =
    let is : size ≡ from_be_bytes w64 (take 8 bytes) = size_is ∙ ap (λ (l : List ℕ). from_be_bytes w64 l) digits_are in
    subst (λ (n : ℕ). length bytes ≤ 8 + n) is (omega arith)
