-- Two values at the front of the same bytes are one, and so is what is left.
use Rattle.std.proofs.Common.{◌≡◌, ℕ, ◌<◌, ◌^◌, List, [], ◌++◌, length, drop, Result, Ok, refl, sym, ap, ◌∙◌, append-nil, arith}
use Rattle.std.proofs.Common.{length-append}
use Rattle.std.proofs.lemmas.List.{drop_at}
use Rattle.iot_codec.specs.Places.{LiesAt, IsSpelling}
use Rattle.iot_views.specs.Decoders.{Decoder}

-- what is left after the front
left_is : (bytes text rest : List ℕ) → bytes ≡ text ++ rest → drop (length text) bytes ≡ rest
left_is bytes text rest is = ap (λ (t : List ℕ). drop (length text) t) is ∙ drop_at text rest (length text) refl

lies_front : (bytes text rest : List ℕ) → bytes ≡ text ++ rest → LiesAt bytes 0 text (length text)
lies_front bytes text rest is = record {
  there = is ∙ ap (λ (t : List ℕ). text ++ t) (sym (left_is bytes text rest is));
  long = omega arith;
  within = omega (arith, ap length is, length-append text rest);
}

-- it is no longer than all
pub left_short : (bytes text rest : List ℕ) → bytes ≡ text ++ rest → length bytes < 2 ^ 64 → length rest < 2 ^ 64
left_short bytes text rest is short = omega (arith, ap length is, length-append text rest)

same_ok : {X : Type 0} (decoded : Result X ℕ) (one other : X) → decoded ≡ Ok one → decoded ≡ Ok other → one ≡ other
same_ok decoded one other p q = cc

module _ {X : Type 0} (HasSpelling : X → Type 0) (spelling : X → List ℕ) (decoding : Decoder X)
    (laws : IsSpelling HasSpelling spelling decoding) where
  pub read_front : (bytes : List ℕ) (x : X) (rest : List ℕ) → length bytes < 2 ^ 64 → HasSpelling x → bytes ≡ spelling x ++ rest
      → decoding bytes 0 ≡ Ok (x, length (spelling x))
  read_front bytes x rest short has is =
      laws.only bytes 0 (x, length (spelling x)) short (record { value = has; place = lies_front bytes (spelling x) rest is })

  pub front_one : (bytes : List ℕ) (one other : X) (rest rest_too : List ℕ) → length bytes < 2 ^ 64 → HasSpelling one → HasSpelling other
      → bytes ≡ spelling one ++ rest → bytes ≡ spelling other ++ rest_too → (one ≡ other) × (rest ≡ rest_too)
  front_one bytes one other rest rest_too short has has_too is is_too =
      let same : (one, length (spelling one)) ≡ (other, length (spelling other)) =
      same_ok (decoding bytes 0) (one, length (spelling one)) (other, length (spelling other))
      (read_front bytes one rest short has is) (read_front bytes other rest_too short has_too is_too) in (
        ap (λ (p : X × ℕ). p.0) same,
        sym (left_is bytes (spelling one) rest is)
            ∙ ap (λ (p : X × ℕ). drop p.1 bytes) same
            ∙ left_is bytes (spelling other) rest_too is_too,
      )

  -- two values that are all of the same bytes
  pub whole_one : (bytes : List ℕ) (one other : X) → length bytes < 2 ^ 64 → HasSpelling one → HasSpelling other → bytes ≡ spelling one
      → bytes ≡ spelling other → one ≡ other
  whole_one bytes one other short has has_too is is_too =
      (front_one bytes one other [] [] short has has_too (is ∙ sym (append-nil (spelling one)))
      (is_too ∙ sym (append-nil (spelling other)))).0
