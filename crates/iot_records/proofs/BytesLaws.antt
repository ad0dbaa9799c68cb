-- Parts of a disk at offsets, before and after writes.
use Rattle.std.proofs.Common.{◌≡◌, ◌≢◌, ◌≤◌, ◌<◌, ◌⊎◌, inl, inr, ℕ, ◌+◌, ◌-◌, ◌^◌, List, [], ◌∷◌, ◌++◌, length, get_or, take, drop}
use Rattle.std.proofs.Common.{refl, sym, ◌∙◌, ap, subst, arith, length-append, length-drop, take-append-drop, true}
use Rattle.std.specs.Int.{w64, from_be_bytes}
use Rattle.std.proofs.lemmas.Bool.{cases_lt}
use Rattle.std.proofs.lemmas.Bool.Decides.{nat_tests}
use Rattle.std.proofs.lemmas.List.{drop-drop, length-take-le, get_or-take, get_or-drop, get_or_append_left, get_or-append-add}
use Rattle.std.proofs.lemmas.List.{get_or-append_right, ext_get_or}
use Rattle.std.proofs.lemmas.Nat.{from_be_bytes-to_be_bytes_8}
use Rattle.iot_disk.specs.Disk.{overwritten, Torn}
use Rattle.iot_disk.proofs.DiskLaws.{get_or-overwritten_in, get_or-overwritten_out, length-overwritten}
use Rattle.iot_records.specs.Bytes.{Has, is_closed, number, number_in, number_at}

pub length-number : (n : ℕ) → length (number n) ≡ 8
unfolding number
length-number n = refl

pub number_in-number : (n : ℕ) (rest : List ℕ) → n < 2 ^ 64 → number_in (number n ++ rest) ≡ n
unfolding number number_in
number_in-number n rest fits = from_be_bytes-to_be_bytes_8 n fits

-- a closed first gate
pub closed_more : (bytes : List ℕ) → is_closed bytes ≡ true → 0 < length bytes
closed_more bytes closed = grind (arith, nat_tests)

pub closed_shut : (bytes : List ℕ) → is_closed bytes ≡ true → get_or bytes 0 0 ≢ 165
closed_shut bytes closed is = grind (arith, nat_tests)

-- ---- parts

-- a part and what follows it
pub has_split : (bytes : List ℕ) (at : ℕ) (part : List ℕ) → Has bytes at part → drop at bytes ≡ part ++ drop (at + length part) bytes
has_split bytes at part has =
    let here = take (length part) (drop at bytes) in
    let size : length here ≡ length part = length-take-le (length part) (drop at bytes) (omega (arith, length-drop at bytes, has.inside)) in
    let is : here ≡ part = ext_get_or 0 here part size (λ k below.
    get_or-take (length part) (drop at bytes) k 0 (omega (arith, size))
    ∙ get_or-drop at bytes k 0
    ∙ has.each k (omega (arith, size))) in
    sym (take-append-drop (length part) (drop at bytes))
    ∙ ap (λ (l : List ℕ). l ++ drop (length part) (drop at bytes)) is
    ∙ ap (λ (l : List ℕ). part ++ l) (drop-drop (length part) at bytes)

-- what stands first from an offset on
pub split_has : (bytes : List ℕ) (at : ℕ) (part rest : List ℕ) → at ≤ length bytes → drop at bytes ≡ part ++ rest → Has bytes at part
split_has bytes at part rest fits is = record {
  inside = omega (arith, ap length is, length-append part rest, length-drop at bytes);
  each = λ k below.
      sym (get_or-drop at bytes k 0) ∙ ap (λ (l : List ℕ). get_or l k 0) is ∙ get_or_append_left part rest 0 k below;
}

-- two parts one after the other
pub has_left : (bytes : List ℕ) (at : ℕ) (one two : List ℕ) → Has bytes at (one ++ two) → Has bytes at one
has_left bytes at one two has = record {
  inside = omega (arith, has.inside, length-append one two);
  each = λ k below. has.each k (omega (arith, length-append one two)) ∙ get_or_append_left one two 0 k below;
}

pub has_right : (bytes : List ℕ) (at next : ℕ) (one two : List ℕ) → next ≡ at + length one → Has bytes at (one ++ two) → Has bytes next two
has_right bytes at next one two is has = record {
  inside = omega (arith, has.inside, length-append one two);
  each = λ k below.
      ap (λ (n : ℕ). get_or bytes n 0) (omega arith)
      ∙ has.each (length one + k) (omega (arith, length-append one two))
      ∙ get_or-append-add one two k 0;
}

pub has_both : (bytes : List ℕ) (at next : ℕ) (one two : List ℕ) → next ≡ at + length one → Has bytes at one → Has bytes next two →
    Has bytes at (one ++ two)
has_both bytes at next one two is first second = record {
  inside = omega (arith, second.inside, length-append one two);
  each = λ k below. elim (cases_lt k (length one)) [
    | inl inside ↦ first.each k inside ∙ sym (get_or_append_left one two 0 k inside)
    | inr past ↦
        ap (λ (n : ℕ). get_or bytes n 0) (omega arith)
        ∙ second.each (k - length one) (omega (arith, length-append one two))
        ∙ sym (get_or-append_right one two (length one) k 0 refl past)
  ];
}

-- a part of no bytes, one byte, a number
pub has_none : (bytes : List ℕ) (at : ℕ) → at ≤ length bytes → Has bytes at []
has_none bytes at inside = record { inside = omega arith; each = λ k below. absurd (omega arith) }

pub has_byte : (bytes : List ℕ) (at byte : ℕ) → Has bytes at (byte ∷ []) → get_or bytes at 0 ≡ byte
has_byte bytes at byte has = ap (λ (n : ℕ). get_or bytes n 0) (omega arith) ∙ has.each 0 (omega arith)

pub byte_has : (bytes : List ℕ) (at byte : ℕ) → at < length bytes → get_or bytes at 0 ≡ byte → Has bytes at (byte ∷ [])
byte_has bytes at byte inside is = record {
  inside = omega arith;
  each = λ k below.
      let zero : k ≡ 0 = omega arith in
      subst (λ (n : ℕ). get_or bytes (at + n) 0 ≡ get_or (byte ∷ []) n 0) (sym zero) (ap (λ (n : ℕ). get_or bytes n 0) (omega arith) ∙ is);
}

pub has_number : (bytes : List ℕ) (at n : ℕ) → n < 2 ^ 64 → Has bytes at (number n) → number_at bytes at ≡ n
has_number bytes at n fits has =
    ap number_in (has_split bytes at (number n) has) ∙ number_in-number n (drop (at + length (number n)) bytes) fits

pub has_number_first : (bytes : List ℕ) (at n : ℕ) (more : List ℕ) → n < 2 ^ 64 → Has bytes at (number n ++ more) → number_at bytes at ≡ n
has_number_first bytes at n more fits has = has_number bytes at n fits (has_left bytes at (number n) more has)

-- ---- writes

-- a write elsewhere, whole or cut short, leaves a part
module _ (at end : ℕ) (old new : List ℕ) (torn : Torn at end old new) where
  pub byte_torn : (k : ℕ) → (k < at) ⊎ (end ≤ k) → k < length old → get_or new k 0 ≡ get_or old k 0
  byte_torn k out inside = torn.outside k inside out

  same_part : (place size : ℕ) → (place + size ≤ at) ⊎ (end ≤ place) → place + size ≤ length old → (k : ℕ) → k < size →
      get_or new (place + k) 0 ≡ get_or old (place + k) 0
  same_part place size (inl before) inside k below = torn.outside (place + k) (omega arith) (inl (omega arith))
  same_part place size (inr after) inside k below = torn.outside (place + k) (omega arith) (inr (omega arith))

  pub has_torn : (place : ℕ) (part : List ℕ) → (place + length part ≤ at) ⊎ (end ≤ place) → Has old place part → Has new place part
  has_torn place part out has = record {
    inside = omega (arith, torn.no_shorter, has.inside);
    each = λ k below. same_part place (length part) out has.inside k below ∙ has.each k below;
  }

  pub number_torn : (place : ℕ) → (place + 8 ≤ at) ⊎ (end ≤ place) → place + 8 ≤ length old → number_at new place ≡ number_at old place
  unfolding number_in
  number_torn place out inside =
      let one = take 8 (drop place new) in
      let two = take 8 (drop place old) in
      let one_size : length one ≡ 8 = length-take-le 8 (drop place new) (omega (arith, length-drop place new, torn.no_shorter)) in
      let two_size : length two ≡ 8 = length-take-le 8 (drop place old) (omega (arith, length-drop place old)) in
      ap (λ (l : List ℕ). from_be_bytes w64 l) (ext_get_or 0 one two (one_size ∙ sym two_size) (λ k below.
      let within : k < 8 = omega (arith, one_size) in
      get_or-take 8 (drop place new) k 0 within
      ∙ get_or-drop place new k 0
      ∙ same_part place 8 out inside k within
      ∙ sym (get_or-drop place old k 0)
      ∙ sym (get_or-take 8 (drop place old) k 0 within)))

-- bytes that are written stand there, and the write is one that was cut short nowhere
module _ (old : List ℕ) (at : ℕ) (bytes new : List ℕ) (is : new ≡ overwritten old at bytes) (inside : at ≤ length old) where
  pub has_written : Has new at bytes
  has_written = record {
    inside = omega (arith, ap length is, length-overwritten old bytes at 0 inside);
    each = λ k below.
        ap (λ (l : List ℕ). get_or l (at + k) 0) is
        ∙ get_or-overwritten_in old bytes at 0 inside (at + k) (omega arith) (omega arith)
        ∙ ap (λ (n : ℕ). get_or bytes n 0) (omega arith);
  }

  pub torn_written : Torn at (at + length bytes) old new
  torn_written = record {
    no_shorter = omega (arith, ap length is, length-overwritten old bytes at 0 inside);
    no_longer = omega (arith, ap length is, length-overwritten old bytes at 0 inside);
    outside = λ k below out. ap (λ (l : List ℕ). get_or l k 0) is ∙ get_or-overwritten_out old bytes at 0 inside k out;
  }
