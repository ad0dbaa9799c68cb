-- What is laid out, and where the next checkpoint goes.
use Rattle.std.proofs.Common.{◌≡◌, ◌≤◌, ◌<◌, ◌⊎◌, inl, inr, ℕ, ◌+◌, Bool, true, false, cond, Option, Some, None, List, length, refl}
use Rattle.std.proofs.Common.{sym, ◌∙◌, ap, subst, arith}
use Rattle.std.specs.Prelude.{nat_le, nat_lt, ◌||◌}
use Rattle.std.proofs.lemmas.Bool.{cases_lt}
use Rattle.std.proofs.lemmas.Bool.Decides.{nat_tests}
use Rattle.iot_disk.specs.Disk.{Torn}
use Rattle.iot_records.proofs.BytesLaws.{byte_torn, number_torn}
use Rattle.iot_records.specs.Records.{records}
use Rattle.iot_slots.specs.Cells.{place_named, next, is_old}
use Rattle.iot_slots.specs.Decoding.{Encodes, State, decoded, opened}
use Rattle.iot_slots.specs.Layouts.{IsOther, IsLaidOut, place_by, place_in, next_place, renewed_layout, reaches, is_due, MakesRoom}
use Rattle.iot_slots.specs.Looked.{found_state}
use Rattle.iot_slots.specs.Start.{IsFound}
use Rattle.iot_slots.specs.declared.cell.Force.{Force}
use Rattle.iot_slots.specs.declared.copying.Opened.{Opened}
use Rattle.iot_slots.specs.declared.layout.Layout.{Layout}
use Rattle.iot_slots.specs.declared.layout.TheConstants.{MANY}
use Rattle.iot_slots.specs.declared.version.Version.{Version}
use Rattle.iot_slots.specs.declared.version.Version.TheVariants.{One, Two}
use Rattle.iot_slots.proofs.CellsLaws.{place_back}
use Rattle.iot_slots.proofs.PartsLaws.{encodes, in_force_is, shut_torn}

-- what is laid out is decoded as its state
pub laid_encodes : (header bytes : List ℕ) (state : State) (layout : Layout) → IsLaidOut header bytes state layout →
    decoded header bytes ≡ Encodes state
laid_encodes header bytes state layout laid = encodes header bytes layout state laid.in_force

-- it is at the layout's place
pub laid_place : (header bytes : List ℕ) (state : State) (layout : Layout) → IsLaidOut header bytes state layout →
    layout.place ≡ place_in bytes
laid_place header bytes state layout laid =
    let cell = laid.in_force.cell in
    let checkpoint = laid.in_force.checkpoint in
    sym (
    ap (λ (f : Force). place_by f bytes) (in_force_is header bytes layout state laid.in_force)
    ∙ ap place_named cell.place
    ∙ place_back layout.version layout.place (omega (arith, checkpoint.end, checkpoint.limit)))

-- what was found in the bytes of a disk is what they encode
pub found_encodes : (header bytes body : List ℕ) (found : Option Opened) → IsFound header bytes found →
    opened body (decoded header bytes) ≡ Encodes (found_state body found)
found_encodes header bytes body None not = ap (opened body) not
found_encodes header bytes body (Some found) laid =
    ap (opened body) (laid_encodes header bytes (found_state body (Some found)) found.layout laid)

-- a write after the cells leaves what the other cell says
pub other_torn : (at end : ℕ) (old new : List ℕ) (other generation : ℕ) (named : Option ℕ) → Torn at end old new →
    other + 17 ≤ at → other + 17 ≤ length old → IsOther old other generation named → IsOther new other generation named
other_torn at end old new other generation None torn past room is = shut_torn at end old new torn other (inl (omega arith)) (omega arith) is
other_torn at end old new other generation (Some place) torn past room is = (
  byte_torn at end old new torn other (inl (omega arith)) (omega arith) ∙ is.0,
  is.1 ∙ ap next (sym (number_torn at end old new torn (other + 1) (inl (omega arith)) (omega arith))),
  ap place_named (number_torn at end old new torn (other + 9) (inl (omega arith)) (omega arith)) ∙ is.2,
)

-- ---- the version

-- if no checkpoint is due, what is laid out is of version 2
pub not_due_is_new : (bodies : List (List ℕ)) (layout : Layout) (size : ℕ) → is_due bodies layout size ≡ false → layout.version ≡ Two
not_due_is_new bodies layout size =
    by layout.version (nat_lt MANY (length (records bodies)) || reaches layout.place (layout.gate + 10 + size) layout.other)
  where
    by : (version : Version) (rest : Bool) → (is_old version || rest) ≡ false → version ≡ Two
    by One rest is = absurd cc
    by Two rest is = refl

-- ---- the next checkpoint

-- nothing that counts stands there
abbrev pub IsFree : (place gate len size at : ℕ) → Type 0
IsFree place gate len size at = (43 ≤ at) × ((at + 17 + size ≤ place) ⊎ (gate < at)) × (at ≤ len)

pub next_place_free : (place gate len size : ℕ) → 43 ≤ len → gate < len → IsFree place gate len size (next_place place len size)
next_place_free place gate len size room inside = elim (cases_lt place (43 + 16 + size + 2097152)) [
  | inl low ↦
      let not : nat_le (43 + 16 + size + 2097152) place ≡ false = grind (arith, nat_tests) in
      subst (λ (b : Bool). IsFree place gate len size (cond b 43 len)) (sym not) (room, inr inside, omega arith)
  | inr high ↦
      let is : nat_le (43 + 16 + size + 2097152) place ≡ true = grind (arith, nat_tests) in
      subst (λ (b : Bool). IsFree place gate len size (cond b 43 len)) (sym is) (omega arith, inl (omega arith), room)
]

next_place_near : (place len size : ℕ) → (next_place place len size ≡ 43) ⊎ (next_place place len size ≡ len)
next_place_near place len size = by (nat_le (43 + 16 + size + 2097152) place)
  where
    by : (b : Bool) → (cond b 43 len ≡ 43) ⊎ (cond b 43 len ≡ len)
    by true = inl refl
    by false = inr refl

reaches_past : (place gate other : ℕ) → reaches place gate (Some other) ≡ true → place < other
reaches_past place gate other is = grind (arith, nat_tests)

reaches_never : (place gate other : ℕ) → other ≤ place → reaches place gate (Some other) ≡ false
reaches_never place gate other past = grind (arith, nat_tests)

-- after at most two checkpoints none is due
pub makes_room : (old new : Layout) (len size : ℕ) → 43 ≤ old.place → old.place < len → new ≡ renewed_layout old len size
    → MakesRoom old new
makes_room old new len size past inside is =
    let spot : ℕ = next_place old.place len size in
    let near : (spot ≡ 43) ⊎ (spot ≡ len) = next_place_near old.place len size in
    subst (λ (l : Layout). MakesRoom old l) (sym is) (record {
      once = λ n due. elim near [
        | inl first ↦ first
        | inr last ↦ absurd (omega (arith, reaches_past spot (spot + 16 + size + 10 + n) old.place due))
      ];
      twice = λ front n.
          reaches_never spot (spot + 16 + size + 10 + n) old.place (elim near [ inl first ↦ omega arith | inr last ↦ omega arith ]);
    })
