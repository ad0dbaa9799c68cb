-- Tags, and what follows them.
use Rattle.std.proofs.Common.{◌≡◌, ℕ, zero, suc, ◌+◌, ◌<◌, ◌≤◌, ◌^◌, ◌⊎◌, inl, inr, Bool, true, false, cond, eqb, List, [], ◌∷◌, ◌++◌}
use Rattle.std.proofs.Common.{length, get_or, Option, Some, None, Result, Ok, Err, refl, sym, ap, subst, arith}
use Rattle.std.specs.Prelude.{slice_get}
use Rattle.std.proofs.lemmas.Bool.{eqb-true}
use Rattle.iot_codec.specs.Places.{LiesAt, IsSpelledAt, AreBytes, IsSpelling}
use Rattle.iot_views.specs.Decoders.{Decoder, ◌>>=◌, go_on, done, after_tag, after_byte, tagged, unless_zero, optional_at}
use Rattle.iot_codec.specs.Laws.Places.{lies_none, lies_then, lies_first, lies_second, lies_tag, tag_within, tag_is, lies_after_tag}
use Rattle.iot_codec.specs.Laws.Steps.{read_ok, step, carried}

-- which way a test went
way : {X : Type 0} (b : Bool) (one other : Result X ℕ) (x : X) → cond b one other ≡ Ok x
    → ((b ≡ true) × (one ≡ Ok x)) ⊎ ((b ≡ false) × (other ≡ Ok x))
way true one other x e = inl (refl, e)
way false one other x e = inr (refl, e)

never : {X : Type 0} (at : ℕ) (x : X) {G : Type 0} → Err at ≡ read_ok x → G
never at x e = absurd cc

-- a byte that is there
got : (bytes : List ℕ) (at tag : ℕ) → slice_get bytes at ≡ Some tag → (at < length bytes) × (get_or bytes at 0 ≡ tag)
got [] at tag e = absurd cc
got (b ∷ bytes) zero tag e = (omega arith, cc)
got (b ∷ bytes) (suc at) tag e = let rest = got bytes at tag e in (omega (arith, rest.0), rest.1)

there_is : (bytes : List ℕ) (at tag : ℕ) → at < length bytes → get_or bytes at 0 ≡ tag → slice_get bytes at ≡ Some tag
there_is [] at tag inside is = absurd (omega arith)
there_is (b ∷ bytes) zero tag inside is = cc
there_is (b ∷ bytes) (suc at) tag inside is = there_is bytes at tag (omega arith) is

module _ {X : Type 0} (HasSpelling : X → Type 0) (spelling : X → List ℕ) where
  -- a value that was decoded after a tag, and the rest of its spelling
  pub record IsAfter (tag : ℕ) (bytes : List ℕ) (at : ℕ) (read : X × ℕ) : Type 0 where
    pub value : HasSpelling read.0
    pub text : List ℕ
    pub spelled : spelling read.0 ≡ tag ∷ text
    pub place : LiesAt bytes at text read.1

  -- what is decoded after the tag is spelled with the tag and the bytes that were taken
  abbrev pub IsArm : ℕ → Decoder X → Type 0
  IsArm tag arm =
      (bytes : List ℕ) (at : ℕ) (read : X × ℕ) → AreBytes bytes → at ≤ length bytes → arm bytes at ≡ Ok read → IsAfter tag bytes at read

  -- so at each tag of a table
  abbrev pub AreArms : List (ℕ × Decoder X) → Type 0
  AreArms [] = Unit {0}
  AreArms (row ∷ rows) = IsArm row.0 row.1 × AreArms rows

  after_found : (table : List (ℕ × Decoder X)) (tag : ℕ) (bytes : List ℕ) (at : ℕ) (read : X × ℕ) → AreArms table → AreBytes bytes
      → at + 1 ≤ length bytes → after_tag table tag bytes at ≡ Ok read → IsAfter tag bytes (at + 1) read
  after_found [] tag bytes at read arms fit within e = never at read e
  after_found (row ∷ rows) tag bytes at read arms fit within e =
      elim (way (eqb tag row.0) (row.1 bytes (at + 1)) (after_tag rows tag bytes at) read e) [
        | inl this ↦
            subst (λ (t : ℕ). IsAfter t bytes (at + 1) read) (sym (eqb-true tag row.0 this.0))
            (arms.0 bytes (at + 1) read fit within this.1)
        | inr that ↦ after_found rows tag bytes at read arms.1 fit within that.1
      ]

  by_byte : (byte : Option ℕ) (table : List (ℕ × Decoder X)) (bytes : List ℕ) (at : ℕ) (read : X × ℕ) → slice_get bytes at ≡ byte
      → AreArms table → AreBytes bytes → after_byte byte table bytes at ≡ Ok read → IsSpelledAt HasSpelling spelling bytes at read
  by_byte None table bytes at read is arms fit e = never at read e
  by_byte (Some tag) table bytes at read is arms fit e =
      let inside = got bytes at tag is in
      let b = after_found table tag bytes at read arms fit (omega (arith, inside.0)) e in
      record {
        value = b.value;
        place =
            subst (λ (t : List ℕ). LiesAt bytes at t read.1) (sym b.spelled)
            (lies_tag bytes at read.1 tag b.text inside.0 inside.1 b.place);
      }

  pub tagged_found : (table : List (ℕ × Decoder X)) (bytes : List ℕ) (at : ℕ) (read : X × ℕ) → AreArms table → AreBytes bytes
      → tagged table bytes at ≡ Ok read → IsSpelledAt HasSpelling spelling bytes at read
  tagged_found table bytes at read arms fit e = by_byte (slice_get bytes at) table bytes at read refl arms fit e

-- the first byte of a text that lies there
pub byte_is : (bytes : List ℕ) (at end tag : ℕ) (text : List ℕ) → LiesAt bytes at (tag ∷ text) end → slice_get bytes at ≡ Some tag
byte_is bytes at end tag text p = there_is bytes at tag (tag_within bytes at end tag text p) (tag_is bytes at end tag text p)

-- a tag that is there is looked up
pub tagged_again : {X : Type 0} (table : List (ℕ × Decoder X)) (bytes : List ℕ) (at end tag : ℕ) (text : List ℕ)
    → LiesAt bytes at (tag ∷ text) end → tagged table bytes at ≡ after_tag table tag bytes at
tagged_again table bytes at end tag text p = rw (byte_is bytes at end tag text p) refl

-- ---- what follows a tag

module _ {Z : Type 0} (HasSpelling : Z → Type 0) (spelling : Z → List ℕ) (tag : ℕ) where
  -- nothing
  pub empty_arm : (z : Z) → HasSpelling z → spelling z ≡ tag ∷ [] → IsArm HasSpelling spelling tag (done z)
  empty_arm z has spelled bytes at read fit within e =
      carried (IsAfter HasSpelling spelling tag bytes at) (z, at) read e
      (record { value = has; text = []; spelled = spelled; place = lies_none bytes at within })

  -- one value
  pub single_arm : {X : Type 0} (HasX : X → Type 0) (x_spelling : X → List ℕ) (x_decoder : Decoder X) → IsSpelling HasX x_spelling x_decoder
      → (make : X → Z) → ((x : X) → HasX x → HasSpelling (make x)) → ((x : X) → spelling (make x) ≡ tag ∷ x_spelling x)
      → IsArm HasSpelling spelling tag (x_decoder >>= λ x. done (make x))
  single_arm HasX x_spelling x_decoder x_laws make has spelled bytes at read fit within e =
      let s = step (x_decoder bytes at) (λ x after. Ok (make x, after)) read e in
      let p = x_laws.found bytes at s.0 fit s.1 in
      carried (IsAfter HasSpelling spelling tag bytes at) (make s.0.0, s.0.1) read s.2
      (record { value = has s.0.0 p.value; text = x_spelling s.0.0; spelled = spelled s.0.0; place = p.place })

  -- two values
  pub double_arm : {X Y : Type 0} (HasX : X → Type 0) (x_spelling : X → List ℕ) (x_decoder : Decoder X)
      → IsSpelling HasX x_spelling x_decoder
      → (HasY : Y → Type 0) (y_spelling : Y → List ℕ) (y_decoder : Decoder Y) → IsSpelling HasY y_spelling y_decoder
      → (make : X → Y → Z) → ((x : X) (y : Y) → HasX x → HasY y → HasSpelling (make x y))
      → ((x : X) (y : Y) → spelling (make x y) ≡ tag ∷ (x_spelling x ++ y_spelling y))
      → IsArm HasSpelling spelling tag (x_decoder >>= λ x. y_decoder >>= λ y. done (make x y))
  double_arm HasX x_spelling x_decoder x_laws HasY y_spelling y_decoder y_laws make has spelled bytes at read fit within e =
      let s = step (x_decoder bytes at) (λ x after. go_on (y_decoder bytes after) (λ y end. Ok (make x y, end))) read e in
      let p = x_laws.found bytes at s.0 fit s.1 in
      let t = step (y_decoder bytes s.0.1) (λ y end. Ok (make s.0.0 y, end)) read s.2 in
      let q = y_laws.found bytes s.0.1 t.0 fit t.1 in
      carried (IsAfter HasSpelling spelling tag bytes at) (make s.0.0 t.0.0, t.0.1) read t.2
      (record {
        value = has s.0.0 t.0.0 p.value q.value;
        text = x_spelling s.0.0 ++ y_spelling t.0.0;
        spelled = spelled s.0.0 t.0.0;
        place = lies_then bytes at s.0.1 t.0.1 (x_spelling s.0.0) (y_spelling t.0.0) p.place q.place;
      })

-- nothing after a tag that is there
pub empty_again : {Z : Type 0} (z : Z) (bytes : List ℕ) (at end tag : ℕ) → LiesAt bytes at (tag ∷ []) end
    → done z bytes (at + 1) ≡ Ok (z, end)
empty_again z bytes at end tag p = ap (λ (k : ℕ). read_ok (z, k)) (omega (arith, p.long))

-- a value after a tag that is there is decoded
pub single_again : {X Z : Type 0} (HasX : X → Type 0) (x_spelling : X → List ℕ) (x_decoder : Decoder X)
    → IsSpelling HasX x_spelling x_decoder
    → (make : X → Z) (x : X) (bytes : List ℕ) (at end tag : ℕ) → length bytes < 2 ^ 64 → HasX x → LiesAt bytes at (tag ∷ x_spelling x) end
    → (x_decoder >>= λ y. done (make y)) bytes (at + 1) ≡ Ok (make x, end)
single_again HasX x_spelling x_decoder x_laws make x bytes at end tag short has p =
    rw (x_laws.only bytes (at + 1) (x, end) short (record { value = has; place = lies_after_tag bytes at end tag (x_spelling x) p })) refl

-- two values after a tag are decoded
pub double_again : {X Y Z : Type 0} (HasX : X → Type 0) (x_spelling : X → List ℕ) (x_decoder : Decoder X)
    → IsSpelling HasX x_spelling x_decoder
    → (HasY : Y → Type 0) (y_spelling : Y → List ℕ) (y_decoder : Decoder Y) → IsSpelling HasY y_spelling y_decoder
    → (make : X → Y → Z) (x : X) (y : Y) (bytes : List ℕ) (at end tag : ℕ) → length bytes < 2 ^ 64 → HasX x → HasY y
    → LiesAt bytes at (tag ∷ (x_spelling x ++ y_spelling y)) end
    → (x_decoder >>= λ v. y_decoder >>= λ w. done (make v w)) bytes (at + 1) ≡ Ok (make x y, end)
double_again HasX x_spelling x_decoder x_laws HasY y_spelling y_decoder y_laws make x y bytes at end tag short has_x has_y p =
    let both = lies_after_tag bytes at end tag (x_spelling x ++ y_spelling y) p in
    let mid : ℕ = (at + 1) + length (x_spelling x) in
    let one : x_decoder bytes (at + 1)
    ≡ Ok (x, mid) =
    x_laws.only bytes (at + 1) (x, mid) short
    (record { value = has_x; place = lies_first bytes (at + 1) end (x_spelling x) (y_spelling y) both }) in
    let other : y_decoder bytes mid
    ≡ Ok (y, end) =
    y_laws.only bytes mid (y, end) short
    (record { value = has_y; place = lies_second bytes (at + 1) end (x_spelling x) (y_spelling y) both }) in
    rw (one, other) refl

-- ---- three values after a tag

module _ {X Y W : Type 0} (HasX : X → Type 0) (x_spelling : X → List ℕ) (x_decoder : Decoder X)
    (x_laws : IsSpelling HasX x_spelling x_decoder)
    (HasY : Y → Type 0) (y_spelling : Y → List ℕ) (y_decoder : Decoder Y) (y_laws : IsSpelling HasY y_spelling y_decoder)
    (HasW : W → Type 0) (w_spelling : W → List ℕ) (w_decoder : Decoder W) (w_laws : IsSpelling HasW w_spelling w_decoder) where
  pub triple_arm : {Z : Type 0} (HasSpelling : Z → Type 0) (spelling : Z → List ℕ) (tag : ℕ) (make : X → Y → W → Z)
      → ((x : X) (y : Y) (w : W) → HasX x → HasY y → HasW w → HasSpelling (make x y w))
      → ((x : X) (y : Y) (w : W) → spelling (make x y w) ≡ tag ∷ (x_spelling x ++ (y_spelling y ++ w_spelling w)))
      → IsArm HasSpelling spelling tag (x_decoder >>= λ x. y_decoder >>= λ y. w_decoder >>= λ w. done (make x y w))
  triple_arm HasSpelling spelling tag make has spelled bytes at read fit within e =
      let s =
      step (x_decoder bytes at)
      (λ x after. go_on (y_decoder bytes after) (λ y mid. go_on (w_decoder bytes mid) (λ w end. Ok (make x y w, end)))) read e in
      let p = x_laws.found bytes at s.0 fit s.1 in
      let t = step (y_decoder bytes s.0.1) (λ y mid. go_on (w_decoder bytes mid) (λ w end. Ok (make s.0.0 y w, end))) read s.2 in
      let q = y_laws.found bytes s.0.1 t.0 fit t.1 in
      let u = step (w_decoder bytes t.0.1) (λ w end. Ok (make s.0.0 t.0.0 w, end)) read t.2 in
      let r = w_laws.found bytes t.0.1 u.0 fit u.1 in
      let rest = lies_then bytes s.0.1 t.0.1 u.0.1 (y_spelling t.0.0) (w_spelling u.0.0) q.place r.place in
      carried (IsAfter HasSpelling spelling tag bytes at) (make s.0.0 t.0.0 u.0.0, u.0.1) read u.2
      (record {
        value = has s.0.0 t.0.0 u.0.0 p.value q.value r.value;
        text = x_spelling s.0.0 ++ (y_spelling t.0.0 ++ w_spelling u.0.0);
        spelled = spelled s.0.0 t.0.0 u.0.0;
        place = lies_then bytes at s.0.1 u.0.1 (x_spelling s.0.0) (y_spelling t.0.0 ++ w_spelling u.0.0) p.place rest;
      })

  pub triple_again : {Z : Type 0} (make : X → Y → W → Z) (x : X) (y : Y) (w : W) (bytes : List ℕ) (at end tag : ℕ) → length bytes < 2 ^ 64
      → HasX x → HasY y → HasW w → LiesAt bytes at (tag ∷ (x_spelling x ++ (y_spelling y ++ w_spelling w))) end
      → (x_decoder >>= λ a. y_decoder >>= λ b. w_decoder >>= λ c. done (make a b c)) bytes (at + 1) ≡ Ok (make x y w, end)
  triple_again make x y w bytes at end tag short has_x has_y has_w p =
      let others : List ℕ = y_spelling y ++ w_spelling w in
      let all = lies_after_tag bytes at end tag (x_spelling x ++ others) p in
      let first : ℕ = (at + 1) + length (x_spelling x) in
      let rest = lies_second bytes (at + 1) end (x_spelling x) others all in
      let second : ℕ = first + length (y_spelling y) in
      let one : x_decoder bytes (at + 1)
      ≡ Ok (x, first) =
      x_laws.only bytes (at + 1) (x, first) short
      (record { value = has_x; place = lies_first bytes (at + 1) end (x_spelling x) others all }) in
      let two : y_decoder bytes first
      ≡ Ok (y, second) =
      y_laws.only bytes first (y, second) short
      (record { value = has_y; place = lies_first bytes first end (y_spelling y) (w_spelling w) rest }) in
      let three : w_decoder bytes second
      ≡ Ok (w, end) =
      w_laws.only bytes second (w, end) short
      (record { value = has_w; place = lies_second bytes first end (y_spelling y) (w_spelling w) rest }) in
      rw (one, two, three) refl

-- ---- a zero, or a value

module _ {X : Type 0} (HasX : X → Type 0) (spelling : X → List ℕ) (decoder : Decoder X) (laws : IsSpelling HasX spelling decoder)
    (HasOption : Option X → Type 0) (option_spelling : Option X → List ℕ) (has_none : HasOption None)
    (has_some : (x : X) → HasX x → HasOption (Some x)) (of_some : (x : X) → HasOption (Some x) → HasX x)
    (none_spelled : option_spelling None ≡ 0 ∷ []) (some_spelled : (x : X) → option_spelling (Some x) ≡ spelling x)
    (tag_of : (x : X) → (tag : ℕ) × (text : List ℕ) × (spelling x ≡ suc tag ∷ text)) where
  value_found : (bytes : List ℕ) (at : ℕ) (read : Option X × ℕ) → AreBytes bytes
      → go_on (decoder bytes at) (λ x end. Ok (Some x, end)) ≡ Ok read → IsSpelledAt HasOption option_spelling bytes at read
  value_found bytes at read fit e =
      let s = step (decoder bytes at) (λ x end. Ok (Some x, end)) read e in
      let p = laws.found bytes at s.0 fit s.1 in
      carried (IsSpelledAt HasOption option_spelling bytes at) (Some s.0.0, s.0.1) read s.2
      (record {
        value = has_some s.0.0 p.value;
        place = subst (λ (t : List ℕ). LiesAt bytes at t s.0.1) (sym (some_spelled s.0.0)) p.place;
      })

  option_found : (byte : Option ℕ) (bytes : List ℕ) (at : ℕ) (read : Option X × ℕ) → slice_get bytes at ≡ byte → AreBytes bytes
      → unless_zero byte decoder bytes at ≡ Ok read → IsSpelledAt HasOption option_spelling bytes at read
  option_found None bytes at read is fit e = value_found bytes at read fit e
  option_found (Some (suc tag)) bytes at read is fit e = value_found bytes at read fit e
  option_found (Some zero) bytes at read is fit e =
      let inside = got bytes at 0 is in
      let place : LiesAt bytes at (0 ∷ []) (at + 1) =
      lies_tag bytes at (at + 1) 0 [] inside.0 inside.1 (lies_none bytes (at + 1) (omega (arith, inside.0))) in
      carried (IsSpelledAt HasOption option_spelling bytes at) (None, at + 1) read e
      (record { value = has_none; place = subst (λ (t : List ℕ). LiesAt bytes at t (at + 1)) (sym none_spelled) place })

  option_again : (o : Option X) (bytes : List ℕ) (at end : ℕ) → length bytes < 2 ^ 64 → HasOption o
      → LiesAt bytes at (option_spelling o) end → optional_at decoder bytes at ≡ Ok (o, end)
  option_again None bytes at end short has p =
      let place : LiesAt bytes at (0 ∷ []) end = subst (λ (t : List ℕ). LiesAt bytes at t end) none_spelled p in
      rw (byte_is bytes at end 0 [] place) (empty_again None bytes at end 0 place)
  option_again (Some x) bytes at end short has p =
      let t = tag_of x in
      let place : LiesAt bytes at (spelling x) end = subst (λ (s : List ℕ). LiesAt bytes at s end) (some_spelled x) p in
      let tagged_place : LiesAt bytes at (suc t.0 ∷ t.1) end = subst (λ (s : List ℕ). LiesAt bytes at s end) t.2 place in
      rw (
        byte_is bytes at end (suc t.0) t.1 tagged_place,
        laws.only bytes at (x, end) short (record { value = of_some x has; place = place }),
      )
      refl

  option_some : (o : Option X) → 0 < length (option_spelling o)
  option_some None = rw none_spelled (omega arith)
  option_some (Some x) = rw (some_spelled x) (laws.some x)

  pub optional_laws : IsSpelling HasOption option_spelling (optional_at decoder)
  optional_laws = record {
    found = λ bytes at read fit e. option_found (slice_get bytes at) bytes at read refl fit e;
    only = λ bytes at read short p. option_again read.0 bytes at read.1 short p.value p.place;
    some = option_some;
  }
