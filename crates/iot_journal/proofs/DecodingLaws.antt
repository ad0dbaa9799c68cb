-- What bytes encode that are spelled out.
use Rattle.std.proofs.Common.{◌≡◌, ◌≢◌, ◌<◌, ◌⊎◌, inl, inr, ℕ, ◌+◌, ◌^◌, Bool, true, false, cond, List, [], ◌∷◌, ◌++◌}
use Rattle.std.proofs.Common.{length, get_or, drop, refl, sym, ◌∙◌, ap, arith, length-append}
use Rattle.std.specs.Prelude.{nat_eq, nat_le, ◌&&◌}
use Rattle.std.specs.List.{starts_with}
use Rattle.std.proofs.lemmas.Bool.{cases_eq, cases_Bool}
use Rattle.std.proofs.lemmas.Bool.Decides.{nat_tests}
use Rattle.iot_records.specs.Records.{series_in}
use Rattle.iot_journal.specs.Decoding.{Encodes, Foreign, header, started, spelled, records, is_started, with_records, decoded}
use Rattle.iot_records.proofs.RecordsLaws.{series_whole}
pub use Rattle.iot_records.proofs.BytesLaws.{length-number, closed_more, closed_shut}
pub use Rattle.iot_records.proofs.RecordsLaws.{length-spelled, length-bodies-le, length-records-append, length-records-push, records-push}

-- if no journal was started, there are no bodies
pub not_started : (bytes : List ℕ) → is_started bytes ≡ false → decoded bytes ≡ Encodes []
unfolding decoded
not_started bytes not =
    let has = starts_with nat_eq (drop 1 bytes) header in
    ap (λ (b : Bool). cond b (cond has (with_records (series_in 9 (drop 9 bytes))) Foreign) (Encodes [])) not

-- if one was started, the header decides
pub by_header : (bytes : List ℕ) (b : Bool) → is_started bytes ≡ true → starts_with nat_eq (drop 1 bytes) header ≡ b →
    decoded bytes ≡ cond b (with_records (series_in 9 (drop 9 bytes))) Foreign
unfolding decoded
by_header bytes b is has_is =
    let has = starts_with nat_eq (drop 1 bytes) header in
    ap (λ (b : Bool). cond b (cond has (with_records (series_in 9 (drop 9 bytes))) Foreign) (Encodes [])) is
    ∙ ap (λ (b : Bool). cond b (with_records (series_in 9 (drop 9 bytes))) Foreign) has_is

-- too few bytes, or a closed gate before the header: no journal was started
pub short_encodes : (bytes : List ℕ) → length bytes < 10 → decoded bytes ≡ Encodes []
short_encodes bytes short = let not : is_started bytes ≡ false = grind (arith, nat_tests) in not_started bytes not

pub shut_encodes : (bytes : List ℕ) → get_or bytes 0 0 ≢ 165 → decoded bytes ≡ Encodes []
shut_encodes bytes shut = let not : is_started bytes ≡ false = grind (arith, nat_tests) in not_started bytes not

-- a closed gate after the records ends them, whatever follows it
pub encodes_shut : (bodies : List (List ℕ)) (gate : ℕ) (rest : List ℕ) → length (records bodies) < 2 ^ 64 → gate ≢ 165
    → decoded (started (records bodies ++ gate ∷ rest)) ≡ Encodes bodies
encodes_shut bodies gate rest fits shut =
    let all = records bodies ++ gate ∷ rest in
    let enough : nat_le 10 (length (started all)) ≡ true = grind (arith, nat_tests, length-append (records bodies) (gate ∷ rest)) in
    let is : is_started (started all) ≡ true = ap (λ (b : Bool). b && true) enough in
    by_header (started all) true is refl ∙ ap with_records (series_whole bodies 9 gate rest fits shut)

-- a whole record counts or it doesn't, by its gate
pub encodes_either : (bodies : List (List ℕ)) (gate next : ℕ) (body rest : List ℕ) → length (records bodies) + 9 + length body < 2 ^ 64
    → next ≢ 165
    → (decoded (started (records bodies ++ gate ∷ (spelled body ++ next ∷ rest))) ≡ Encodes bodies)
    ⊎ (decoded (started (records bodies ++ gate ∷ (spelled body ++ next ∷ rest))) ≡ Encodes (bodies ++ body ∷ []))
encodes_either bodies gate next body rest fits shut = elim (cases_eq gate 165) [
  | inl is_open ↦ inr (
      ap (λ (g : ℕ). decoded (started (records bodies ++ g ∷ (spelled body ++ next ∷ rest)))) is_open
      ∙ ap (λ (l : List ℕ). decoded (started l)) (sym (records-push bodies body (next ∷ rest)))
      ∙ encodes_shut (bodies ++ body ∷ []) next rest (omega (arith, length-records-push bodies body)) shut
      )
  | inr is_shut ↦ inl (encodes_shut bodies gate (spelled body ++ next ∷ rest) (omega arith) is_shut)
]
