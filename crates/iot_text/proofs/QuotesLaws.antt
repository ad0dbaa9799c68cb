-- Laws of quoted bytes, as they are written one after another.
use Rattle.std.proofs.Common.{◌≡◌, ℕ, ◌+◌, ◌-◌, ◌<◌, ◌≤◌, List, [], ◌∷◌, ◌++◌, length, take, drop, sym, ◌∙◌, ap, arith, append_assoc}
use Rattle.std.proofs.Common.{get_or, take-append-drop, append-nil, length-drop}
use Rattle.std.specs.List.{flat_map}
use Rattle.std.proofs.lemmas.Grind.{flat_map-append}
use Rattle.std.proofs.lemmas.List.{take_more, take_all, get_or-drop}
use Rattle.iot_text.specs.Quotes.{quoted_byte, quoted}

-- `at` bytes were read, of which those from `done` on are not yet written and need no escape
pub record Quoting (old out bytes : List ℕ) (done at : ℕ) : Type 0 where
  pub in_order : done ≤ at
  pub written : List ℕ
  pub appended : out ≡ old ++ written
  pub so_far : written ++ take (at - done) (drop done bytes) ≡ 34 ∷ flat_map quoted_byte (take at bytes)

-- what the bytes up to one, it among them, are between quotes
more_read : (bytes : List ℕ) (at : ℕ) → at < length bytes
    → flat_map quoted_byte (take (at + 1) bytes) ≡ flat_map quoted_byte (take at bytes) ++ quoted_byte (get_or bytes at 0)
more_read bytes at within =
    ap (flat_map quoted_byte) (take_more bytes at 0 within)
    ∙ flat_map-append quoted_byte (take at bytes) (get_or bytes at 0 ∷ [])
    ∙ ap (λ t. flat_map quoted_byte (take at bytes) ++ t) (append-nil (quoted_byte (get_or bytes at 0)))

-- the run that is not yet written, with one byte more
longer_run : (bytes : List ℕ) (done at : ℕ) → done ≤ at → at < length bytes
    → take (at + 1 - done) (drop done bytes) ≡ take (at - done) (drop done bytes) ++ get_or bytes at 0 ∷ []
longer_run bytes done at order within =
    let size : at + 1 - done ≡ (at - done) + 1 = omega arith in
    let place : done + (at - done) ≡ at = omega arith in
    let room : at - done < length (drop done bytes) = omega (arith, length-drop done bytes) in
    ap (λ n. take n (drop done bytes)) size
    ∙ take_more (drop done bytes) (at - done) 0 room
    ∙ ap (λ b. take (at - done) (drop done bytes) ++ b ∷ []) (get_or-drop done bytes (at - done) 0 ∙ ap (λ n. get_or bytes n 0) place)

-- a byte that needs no escape
pub plain_byte : (old out bytes : List ℕ) (done at : ℕ) → Quoting old out bytes done at → at < length bytes
    → quoted_byte (get_or bytes at 0) ≡ get_or bytes at 0 ∷ []
    → Quoting old out bytes done (at + 1)
plain_byte old out bytes done at q within plain = record {
  in_order = omega (arith, q.in_order);
  written = q.written;
  appended = q.appended;
  so_far = ap (λ t. q.written ++ t) (longer_run bytes done at q.in_order within)
      ∙ sym (append_assoc q.written (take (at - done) (drop done bytes)) (get_or bytes at 0 ∷ []))
      ∙ ap (λ t. t ++ get_or bytes at 0 ∷ []) q.so_far
      ∙ ap (λ t. 34 ∷ (flat_map quoted_byte (take at bytes) ++ t)) (sym plain)
      ∙ ap (λ t. 34 ∷ t) (sym (more_read bytes at within));
}

-- a byte that is escaped, with the run before it
pub escaped_byte : (old out new bytes escaped : List ℕ) (done at : ℕ) → Quoting old out bytes done at → at < length bytes
    → quoted_byte (get_or bytes at 0) ≡ escaped
    → new ≡ out ++ (take (at - done) (drop done bytes) ++ escaped) → Quoting old new bytes (at + 1) (at + 1)
escaped_byte old out new bytes escaped done at q within is e =
    let run : List ℕ = take (at - done) (drop done bytes) in
    let none : at + 1 - (at + 1) ≡ 0 = omega arith in
    record {
      in_order = omega arith;
      written = q.written ++ (run ++ escaped);
      appended = e ∙ ap (λ t. t ++ (run ++ escaped)) q.appended ∙ append_assoc old q.written (run ++ escaped);
      so_far = ap (λ n. (q.written ++ (run ++ escaped)) ++ take n (drop (at + 1) bytes)) none
          ∙ append-nil (q.written ++ (run ++ escaped))
          ∙ sym (append_assoc q.written run escaped)
          ∙ ap (λ t. t ++ escaped) q.so_far
          ∙ ap (λ t. 34 ∷ (flat_map quoted_byte (take at bytes) ++ t)) (sym is)
          ∙ ap (λ t. 34 ∷ t) (sym (more_read bytes at within));
    }

-- what is between the quotes: the bytes up to one, its escape, and those after it
pub at_escape : (old out bytes escaped : List ℕ) (done at : ℕ) (q : Quoting old out bytes done at) → at < length bytes
    → quoted_byte (get_or bytes at 0) ≡ escaped
    → q.written ++ ((take (at - done) (drop done bytes) ++ escaped) ++ (flat_map quoted_byte (drop (at + 1) bytes) ++ 34 ∷ []))
    ≡ quoted bytes
at_escape old out bytes escaped done at q within is =
    let run : List ℕ = take (at - done) (drop done bytes) in
    let rest : List ℕ = flat_map quoted_byte (drop (at + 1) bytes) in
    let whole : flat_map quoted_byte (take (at + 1) bytes) ++ rest ≡ flat_map quoted_byte bytes =
    sym (flat_map-append quoted_byte (take (at + 1) bytes) (drop (at + 1) bytes))
    ∙ ap (flat_map quoted_byte) (take-append-drop (at + 1) bytes) in
    let front : (q.written ++ run) ++ escaped ≡ 34 ∷ flat_map quoted_byte (take (at + 1) bytes) =
    ap (λ t. t ++ escaped) q.so_far ∙ ap (λ t. 34 ∷ (flat_map quoted_byte (take at bytes) ++ t)) (sym is)
    ∙ ap (λ t. 34 ∷ t) (sym (more_read bytes at within)) in
    sym (append_assoc q.written (run ++ escaped) (rest ++ 34 ∷ []))
    ∙ ap (λ t. t ++ (rest ++ 34 ∷ [])) (sym (append_assoc q.written run escaped) ∙ front)
    ∙ ap (λ t. 34 ∷ t) (sym (append_assoc (flat_map quoted_byte (take (at + 1) bytes)) rest (34 ∷ [])) ∙ ap (λ t. t ++ 34 ∷ []) whole)

-- what is between the quotes once all bytes were read
pub at_end_of_bytes : (old out bytes : List ℕ) (done at : ℕ) (q : Quoting old out bytes done at) → at ≡ length bytes
    → q.written ++ (take (length bytes - done) (drop done bytes) ++ 34 ∷ []) ≡ quoted bytes
at_end_of_bytes old out bytes done at q e =
    let run : List ℕ = take (at - done) (drop done bytes) in
    ap (λ n. q.written ++ (take (n - done) (drop done bytes) ++ 34 ∷ [])) (sym e)
    ∙ sym (append_assoc q.written run (34 ∷ []))
    ∙ ap (λ t. t ++ 34 ∷ []) q.so_far
    ∙ ap (λ t. 34 ∷ (flat_map quoted_byte t ++ 34 ∷ [])) (take_all at bytes (omega arith))
