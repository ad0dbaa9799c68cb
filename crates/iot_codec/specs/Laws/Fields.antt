-- Values of several fields, whose spellings follow one another.
use Rattle.std.proofs.Common.{◌≡◌, ℕ, ◌+◌, ◌<◌, ◌^◌, List, ◌++◌, length, Ok, refl, sym, ap, subst, arith, length-append}
use Rattle.iot_codec.specs.Places.{LiesAt, IsSpelledAt, AreBytes, IsSpelling}
use Rattle.iot_views.specs.Decoders.{Decoder, ◌>>=◌, done}
use Rattle.iot_codec.specs.Laws.Places.{lies_then, lies_first, lies_second}
use Rattle.iot_codec.specs.Laws.Steps.{step, same_read}

-- the fields of Z after those that are in F: a decoder of them, given those in F
pub record AreFields {F Z : Type 0} (front : Z → F) (Has : Z → Type 0) (spelling : Z → List ℕ) (rest : F → Decoder Z) : Type 0 where
  pub found : (f : F) (bytes : List ℕ) (at : ℕ) (read : Z × ℕ) → AreBytes bytes → rest f bytes at ≡ Ok read
      → (front read.0 ≡ f) × IsSpelledAt Has spelling bytes at read
  pub only : (bytes : List ℕ) (at : ℕ) (read : Z × ℕ) → length bytes < 2 ^ 64 → IsSpelledAt Has spelling bytes at read
      → rest (front read.0) bytes at ≡ Ok read
  pub some : (z : Z) → 0 < length (spelling z)

-- how a value is made of the fields in F and of its last one
pub record IsMade {F Y Z : Type 0} (front : Z → F) (last : Z → Y) (make : F → Y → Z) : Type 0 where
  pub whole : (z : Z) → make (front z) (last z) ≡ z
  pub front_is : (f : F) (y : Y) → front (make f y) ≡ f
  pub last_is : (f : F) (y : Y) → last (make f y) ≡ y

module _ {F Y Z : Type 0} (front : Z → F) (field : Z → Y) (HasField : Y → Type 0) (field_spelling : Y → List ℕ) (decoder : Decoder Y)
    (laws : IsSpelling HasField field_spelling decoder) where
  -- the last field
  pub last_field : (make : F → Y → Z) → IsMade front field make
      → AreFields front (λ z. HasField (field z)) (λ z. field_spelling (field z)) (λ f. decoder >>= λ y. done (make f y))
  last_field make made = record {
    found = λ f bytes at read fit e.
        let s = step (decoder bytes at) (λ y after. Ok (make f y, after)) read e in
        let one = laws.found bytes at s.0 fit s.1 in
        let both : (front (make f s.0.0) ≡ f)
        × IsSpelledAt (λ z. HasField (field z)) (λ z. field_spelling (field z)) bytes at (make f s.0.0, s.0.1) = (
          made.front_is f s.0.0,
          record {
            value = subst HasField (sym (made.last_is f s.0.0)) one.value;
            place = subst (λ (y : Y). LiesAt bytes at (field_spelling y) s.0.1) (sym (made.last_is f s.0.0)) one.place;
          },
        ) in
        subst (λ (r : Z × ℕ). (front r.0 ≡ f) × IsSpelledAt (λ z. HasField (field z)) (λ z. field_spelling (field z)) bytes at r)
        (same_read (make f s.0.0, s.0.1) read s.2) both;
    only = λ bytes at read short p.
        rw (laws.only bytes at (field read.0, read.1) short (record { value = p.value; place = p.place }), made.whole read.0) refl;
    some = λ z. laws.some (field z);
  }

  -- a field with more after it
  pub next_field : (Has : Z → Type 0) (spelling : Z → List ℕ) (rest : F × Y → Decoder Z)
      → AreFields (λ z. (front z, field z)) Has spelling rest
      → AreFields front (λ z. HasField (field z) × Has z) (λ z. field_spelling (field z) ++ spelling z) (λ f. decoder >>= λ y. rest (f, y))
  next_field Has spelling rest more = record {
    found = λ f bytes at read fit e.
        let s = step (decoder bytes at) (λ y after. rest (f, y) bytes after) read e in
        let one = laws.found bytes at s.0 fit s.1 in
        let others = more.found (f, s.0.0) bytes s.0.1 read fit s.2 in
        let field_is : s.0.0 ≡ field read.0 = ap (λ (p : F × Y). p.1) (sym others.0) in
        let place : LiesAt bytes at (field_spelling (field read.0)) s.0.1 =
        subst (λ (y : Y). LiesAt bytes at (field_spelling y) s.0.1) field_is one.place in (
          ap (λ (p : F × Y). p.0) others.0,
          record {
            value = (subst HasField field_is one.value, others.1.value);
            place = lies_then bytes at s.0.1 read.1 (field_spelling (field read.0)) (spelling read.0) place others.1.place;
          },
        );
    only = λ bytes at read short p.
        let text : List ℕ = field_spelling (field read.0) in
        let mid : ℕ = at + length text in
        let one : decoder bytes at
        ≡ Ok (field read.0, mid) =
        laws.only bytes at (field read.0, mid) short
        (record { value = p.value.0; place = lies_first bytes at read.1 text (spelling read.0) p.place }) in
        rw one
        (more.only bytes mid read short
        (record { value = p.value.1; place = lies_second bytes at read.1 text (spelling read.0) p.place }));
    some = λ z. omega (arith, length-append (field_spelling (field z)) (spelling z), laws.some (field z));
  }

-- all fields
pub all_fields : {Z : Type 0} (Has : Z → Type 0) (spelling : Z → List ℕ) (rest : Unit {0} → Decoder Z)
    → AreFields (λ _. tt) Has spelling rest → IsSpelling Has spelling (rest tt)
all_fields Has spelling rest fields = record {
  found = λ bytes at read fit e. (fields.found tt bytes at read fit e).1;
  only = fields.only;
  some = fields.some;
}
