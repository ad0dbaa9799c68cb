-- Numbers, and bytes after their number.
use Rattle.std.proofs.Common.{◌≡◌, ℕ, ◌+◌, ◌<◌, ◌≤◌, ◌^◌, Bool, true, ◌&&◌, List, length, take, drop, Ok, refl, sym, subst, arith, inl, inr}
use Rattle.std.proofs.Common.{length-append}
use Rattle.std.specs.Cmp.{first_so, second_so}
use Rattle.std.specs.Cmp.Derive.{both_true}
use Rattle.std.specs.Prelude.{nat_le}
use Rattle.std.specs.Int.{w64, from_be_bytes, to_be_bytes}
use Rattle.std.proofs.lemmas.Bool.{cases_lt, leb-true, le-leb}
use Rattle.std.proofs.lemmas.List.{length-take, get_or-drop, get_or-take, get_or_past}
use Rattle.std.proofs.lemmas.Nat.{be_bytes_8, from_be_bytes-to_be_bytes_8}
use Rattle.iot_codec.specs.Places.{LiesAt, IsSpelledAt, AreBytes, IsSpelling}
use Rattle.iot_views.specs.Decoders.{Decoder, ◌>>=◌, tested, bytes_at, number_at, at_most, from_to}
use Rattle.iot_views.specs.Rules.{IsNumber}
use Rattle.iot_codec.specs.Spelling.{number_spelling, counted}
use Rattle.iot_codec.specs.Laws.Places.{lies_then, lies_first, lies_second, lies_short}
use Rattle.iot_codec.specs.Laws.Steps.{step, step_tested, tested_again, carried, part_found, part_again}

AreBytes-part : (n at : ℕ) (bytes : List ℕ) → AreBytes bytes → AreBytes (take n (drop at bytes))
AreBytes-part n at bytes fit i =
    elim (cases_lt i n) [
      | inl lt ↦ rw (get_or-take n (drop at bytes) i 0 lt, get_or-drop at bytes i 0) (fit (at + i))
      | inr le ↦ rw (get_or_past (take n (drop at bytes)) i 0 (omega (arith, length-take n (drop at bytes)))) (omega arith)
    ]

below_limit : (part : List ℕ) → AreBytes part → from_be_bytes w64 part < 2 ^ 64
below_limit part fit = omega (arith, fit 0, fit 1, fit 2, fit 3, fit 4, fit 5, fit 6, fit 7)

pub length-number : (n : ℕ) → length (number_spelling n) ≡ 8
unfolding number_spelling
length-number n = refl

number_found : (bytes : List ℕ) (at : ℕ) (read : ℕ × ℕ) → AreBytes bytes → number_at bytes at ≡ Ok read
    → IsSpelledAt IsNumber number_spelling bytes at read
unfolding number_at number_spelling
number_found bytes at read fit e =
    let s = step (bytes_at 8 bytes at) (λ digits after. Ok (from_be_bytes w64 digits, after)) read e in
    let p = part_found 8 bytes at s.0 s.1 in
    let digits_fit : AreBytes s.0.0 = subst (λ (t : List ℕ). AreBytes t) (sym p.part) (AreBytes-part 8 at bytes fit) in
    let digits : to_be_bytes w64 (from_be_bytes w64 s.0.0) ≡ s.0.0 = be_bytes_8 s.0.0 _ p.len digits_fit refl in
    let made : IsSpelledAt IsNumber number_spelling bytes at (from_be_bytes w64 s.0.0, s.0.1) = record {
      value = below_limit s.0.0 digits_fit;
      place = subst (λ (t : List ℕ). LiesAt bytes at t s.0.1) (sym digits) p.place;
    } in
    carried (IsSpelledAt IsNumber number_spelling bytes at) (from_be_bytes w64 s.0.0, s.0.1) read s.2 made

number_again : (bytes : List ℕ) (at : ℕ) (read : ℕ × ℕ) → IsSpelledAt IsNumber number_spelling bytes at read → number_at bytes at ≡ Ok read
unfolding number_at number_spelling
number_again bytes at read p =
    let digits : bytes_at 8 bytes at ≡ Ok (to_be_bytes w64 read.0, read.1) = part_again bytes at read.1 (to_be_bytes w64 read.0) p.place in
    rw (digits, from_be_bytes-to_be_bytes_8 read.0 p.value) refl

-- a number
pub number_laws : IsSpelling IsNumber number_spelling number_at
number_laws = record {
  found = number_found;
  only = λ bytes at read short p. number_again bytes at read p;
  some = λ n. omega (arith, length-number n);
}

-- a number up to a limit
pub at_most_laws : (limit : ℕ) → limit < 2 ^ 64 → IsSpelling (λ n. n ≤ limit) number_spelling (at_most limit)
at_most_laws limit small = record {
  found = λ bytes at read fit e.
      let t = step_tested (λ n. nat_le n limit) number_at bytes at read e in
      record { value = leb-true read.0 limit t.1; place = (number_found bytes at read fit t.0).place };
  only = λ bytes at read short p.
      let stands : IsSpelledAt IsNumber number_spelling bytes at read = record { value = omega (arith, p.value); place = p.place } in
      tested_again (λ n. nat_le n limit) number_at bytes at read (number_again bytes at read stands) (le-leb read.0 limit p.value);
  some = λ n. omega (arith, length-number n);
}

-- a number from the least to the greatest
within_limits : (least greatest n : ℕ) → least ≤ n → n ≤ greatest → nat_le least n && nat_le n greatest ≡ true
within_limits least greatest n low high = both_true (le-leb least n low) (le-leb n greatest high)

pub from_to_laws : (least greatest : ℕ) → greatest < 2 ^ 64
    → IsSpelling (λ n. (least ≤ n) × (n ≤ greatest)) number_spelling (from_to least greatest)
from_to_laws least greatest small = record {
  found = λ bytes at read fit e.
      let t = step_tested (λ n. nat_le least n && nat_le n greatest) number_at bytes at read e in
      record {
        value = (
          leb-true least read.0 (first_so (nat_le least read.0) _ t.1),
          leb-true read.0 greatest (second_so (nat_le least read.0) _ t.1),
        );
        place = (number_found bytes at read fit t.0).place;
      };
  only = λ bytes at read short p.
      let stands : IsSpelledAt IsNumber number_spelling bytes at read = record { value = omega (arith, p.value.1); place = p.place } in
      tested_again (λ n. nat_le least n && nat_le n greatest) number_at bytes at read (number_again bytes at read stands)
      (within_limits least greatest read.0 p.value.0 p.value.1);
  some = λ n. omega (arith, length-number n);
}

-- bytes after their number, which may have a limit, by a rule
module _ (Small : ℕ → Type 0) (len : Decoder ℕ) (len_laws : IsSpelling Small number_spelling len) (rule : List ℕ → Bool) where
  counted_decoder : Decoder (List ℕ)
  counted_decoder = len >>= λ n. tested rule (bytes_at n)

  counted_found : (bytes : List ℕ) (at : ℕ) (read : List ℕ × ℕ) → AreBytes bytes → counted_decoder bytes at ≡ Ok read
      → IsSpelledAt (λ part. Small (length part) × (rule part ≡ true)) counted bytes at read
  unfolding counted_decoder
  counted_found bytes at read fit e =
      let s = step (len bytes at) (λ n after. tested rule (bytes_at n) bytes after) read e in
      let first = len_laws.found bytes at s.0 fit s.1 in
      let t = step_tested rule (bytes_at s.0.0) bytes s.0.1 read s.2 in
      let p = part_found s.0.0 bytes s.0.1 read t.0 in
      let count : LiesAt bytes at (number_spelling (length read.0)) s.0.1 =
      subst (λ (n : ℕ). LiesAt bytes at (number_spelling n) s.0.1) (sym p.len) first.place in
      record {
        value = (subst Small (sym p.len) first.value, t.1);
        place = lies_then bytes at s.0.1 read.1 (number_spelling (length read.0)) read.0 count p.place;
      }

  counted_again : (bytes : List ℕ) (at : ℕ) (read : List ℕ × ℕ) → length bytes < 2 ^ 64
      → IsSpelledAt (λ part. Small (length part) × (rule part ≡ true)) counted bytes at read → counted_decoder bytes at ≡ Ok read
  unfolding counted_decoder
  counted_again bytes at read short p =
      let count : LiesAt bytes at (number_spelling (length read.0)) (at + length (number_spelling (length read.0))) =
      lies_first bytes at read.1 (number_spelling (length read.0)) read.0 p.place in
      let part : LiesAt bytes (at + length (number_spelling (length read.0))) read.0 read.1 =
      lies_second bytes at read.1 (number_spelling (length read.0)) read.0 p.place in
      let number : len bytes at
      ≡ Ok (length read.0, at + length (number_spelling (length read.0))) =
      len_laws.only bytes at (length read.0, at + length (number_spelling (length read.0))) short
      (record { value = p.value.0; place = count }) in
      rw number (tested_again rule (bytes_at (length read.0)) bytes _ read (part_again bytes _ read.1 read.0 part) p.value.1)

  pub counted_laws : IsSpelling (λ part. Small (length part) × (rule part ≡ true)) counted (len >>= λ n. tested rule (bytes_at n))
  unfolding counted_decoder
  counted_laws = record {
    found = counted_found;
    only = counted_again;
    some = λ part. omega (arith, length-append (number_spelling (length part)) part, length-number (length part));
  }

-- a limit that the number of the bytes meets by itself
pub without_count : {X : Type 0} (count : X → ℕ) (HasSpelling : X → Type 0) (spelling : X → List ℕ) (decoding : Decoder X)
    → ((x : X) → count x ≤ length (spelling x))
    → IsSpelling (λ x. IsNumber (count x) × HasSpelling x) spelling decoding → IsSpelling HasSpelling spelling decoding
without_count count HasSpelling spelling decoding no_more laws = record {
  found = λ bytes at read fit e.
      let s = laws.found bytes at read fit e in
      record { value = s.value.1; place = s.place };
  only = λ bytes at read short p.
      let few : count read.0 < 2 ^ 64 = omega (arith, no_more read.0, lies_short bytes at read.1 (spelling read.0) p.place) in
      laws.only bytes at read short (record { value = (few, p.value); place = p.place });
  some = laws.some;
}

-- the same rule in other words
pub same_rule : {X : Type 0} (One Other : X → Type 0) (spelling : X → List ℕ) (decoding : Decoder X) → ((x : X) → One x → Other x)
    → ((x : X) → Other x → One x)
    → IsSpelling One spelling decoding → IsSpelling Other spelling decoding
same_rule One Other spelling decoding there back laws = record {
  found = λ bytes at read fit e.
      let s = laws.found bytes at read fit e in
      record { value = there read.0 s.value; place = s.place };
  only = λ bytes at read short p. laws.only bytes at read short (record { value = back read.0 p.value; place = p.place });
  some = laws.some;
}

-- the same spelling in other words
pub same_spelling : {X : Type 0} (HasSpelling : X → Type 0) (one other : X → List ℕ) (decoding : Decoder X) → ((x : X) → one x ≡ other x)
    → IsSpelling HasSpelling one decoding → IsSpelling HasSpelling other decoding
same_spelling HasSpelling one other decoding same laws = record {
  found = λ bytes at read fit e.
      let s = laws.found bytes at read fit e in
      record { value = s.value; place = subst (λ (t : List ℕ). LiesAt bytes at t read.1) (same read.0) s.place };
  only = λ bytes at read short p.
      laws.only bytes at read short
      (record { value = p.value; place = subst (λ (t : List ℕ). LiesAt bytes at t read.1) (sym (same read.0)) p.place });
  some = λ x. rw (← same x) (laws.some x);
}

-- values that pass a test
pub tested_laws : {X : Type 0} (test : X → Bool) (HasSpelling : X → Type 0) (spelling : X → List ℕ) (decoder : Decoder X)
    → IsSpelling HasSpelling spelling decoder
    → IsSpelling (λ x. (test x ≡ true) × HasSpelling x) spelling (tested test decoder)
tested_laws test HasSpelling spelling decoder laws = record {
  found = λ bytes at read fit e.
      let t = step_tested test decoder bytes at read e in
      let s = laws.found bytes at read fit t.0 in
      record { value = (t.1, s.value); place = s.place };
  only = λ bytes at read short p.
      tested_again test decoder bytes at read (laws.only bytes at read short (record { value = p.value.1; place = p.place })) p.value.0;
  some = laws.some;
}
