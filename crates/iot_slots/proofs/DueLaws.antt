-- When a checkpoint is due, by the parts that count.
use Rattle.std.proofs.Common.{◌≡◌, ℕ, ◌+◌, Bool, true, false, cond, Option, Some, None, List, [], ◌∷◌, ◌++◌, length}
use Rattle.std.proofs.Common.{refl, sym, ◌∙◌, ap, arith}
use Rattle.std.specs.Prelude.{nat_lt, ◌||◌, if◌then◌else◌}
use Rattle.std.proofs.lemmas.Bool.Decides.{nat_tests}
use Rattle.std.proofs.lemmas.List.{length_push}
use Rattle.iot_disk.specs.Disk.{Only}
use Rattle.iot_records.specs.Bytes.{number_at, is_open}
use Rattle.iot_records.specs.Records.{records}
use Rattle.iot_records.proofs.ImagesLaws.{each_only}
use Rattle.iot_slots.specs.Cells.{cell_at, place_named, other_of, is_old, in_force}
use Rattle.iot_slots.specs.Decoding.{Encodes, NotStarted, Foreign, State, Decoded, decoded, decoded_by, is_foreign, state_of}
use Rattle.iot_slots.specs.Due.{due_by, due_on, EachTakes}
use Rattle.iot_slots.specs.Layouts.{IsOther, IsLaidOut, named_in, is_due, reaches}
use Rattle.iot_slots.specs.Parts.{IsInForce}
use Rattle.iot_slots.specs.Slots.{appended, EachEncodes}
use Rattle.iot_slots.specs.declared.cell.Cell.{Cell}
use Rattle.iot_slots.specs.declared.cell.Force.{Force}
use Rattle.iot_slots.specs.declared.cell.Force.TheVariants.{NoCell, Clash, Is}
use Rattle.iot_slots.specs.declared.layout.Layout.{Layout}
use Rattle.iot_slots.specs.declared.layout.TheConstants.{MANY}
use Rattle.iot_slots.specs.declared.version.Version.{Version}
use Rattle.iot_slots.specs.declared.version.Version.TheVariants.{One, Two}
use Rattle.iot_slots.proofs.CellsLaws.{place_back}
use Rattle.iot_slots.proofs.PartsLaws.{encodes, in_force_is}

-- the place that the other cell names
named_is : (bytes : List ℕ) (cell : Cell) (generation : ℕ) (named : Option ℕ) → IsOther bytes (cell_at cell) generation named
    → named_in bytes cell ≡ named
named_is bytes cell generation None shut =
    let is : is_open bytes (cell_at cell) ≡ false = grind (arith, nat_tests) in
    ap (λ (b : Bool). cond b (Some (place_named (number_at bytes (cell_at cell + 9)))) None) is
named_is bytes cell generation (Some place) open_there =
    let gate = open_there.0 in
    let is : is_open bytes (cell_at cell) ≡ true = grind (arith, nat_tests) in
    ap (λ (b : Bool). cond b (Some (place_named (number_at bytes (cell_at cell + 9)))) None) is ∙ ap Some open_there.2

-- the law: by the layout
module _ (header bytes : List ℕ) (layout : Layout) (state : State) (size : ℕ) where
  abbrev late : Version → (place gate : ℕ) → Option ℕ → Bool
  late version place gate other =
      is_old version || (nat_lt MANY (length (records state.bodies)) || reaches place (gate + 10 + size) other)

  abbrev gate_after : (place : ℕ) → ℕ
  gate_after place = place + 16 + length state.body + length (records state.bodies)

  pub due_in_force : IsInForce header bytes layout state → IsOther bytes (cell_at (other_of layout.cell)) layout.generation layout.other →
      due_on header bytes size ≡ is_due state.bodies layout size
  unfolding due_on
  due_in_force is other =
      let named = named_in bytes (other_of layout.cell) in
      let place : place_named (number_at bytes (cell_at layout.cell + 9)) ≡ layout.place = ap place_named is.cell.place
      ∙ place_back layout.version layout.place (omega (arith, is.checkpoint.end, is.checkpoint.limit)) in
      ap (λ (f : Force). due_by f (decoded header bytes) bytes size) (in_force_is header bytes layout state is)
      ∙ ap (λ (d : Decoded). due_by (Is layout.cell) d bytes size) (encodes header bytes layout state is)
      ∙ ap (λ (p : ℕ). late state.version p (gate_after p) named) place
      ∙ ap (λ (v : Version). late v layout.place (gate_after layout.place) named) (sym is.version)
      ∙ ap (λ (g : ℕ). late layout.version layout.place g named) (sym is.checkpoint.end)
      ∙ ap (λ (o : Option ℕ). late layout.version layout.place layout.gate o)
      (named_is bytes (other_of layout.cell) layout.generation layout.other other)

  pub due_laid : IsLaidOut header bytes state layout → due_on header bytes size ≡ is_due state.bodies layout size
  due_laid laid = due_in_force laid.in_force laid.other

-- if none is due, what is encoded is of version 2
two_is : (version : Version) (rest : Bool) → (is_old version || rest) ≡ false → version ≡ Two
two_is One rest is = absurd cc
two_is Two rest is = refl

pub not_due_version : (header bytes : List ℕ) (state : State) (size : ℕ) → decoded header bytes ≡ Encodes state →
    due_on header bytes size ≡ false → state.version ≡ Two
unfolding decoded due_on
not_due_version header bytes state size is not_due =
    by (is_foreign header bytes) (in_force bytes) is (ap (λ (d : Decoded). due_by (in_force bytes) d bytes size) (sym is) ∙ not_due)
  where
    by : (b : Bool) (f : Force) → (if b then Foreign else decoded_by f bytes) ≡ Encodes state →
        due_by f (Encodes state) bytes size ≡ false → state.version ≡ Two
    by true f is not = absurd cc
    by false NoCell is not = absurd cc
    by false Clash is not = absurd cc
    by false (Is cell) is not = two_is state.version _ not

-- nothing is due where nothing was started
pub due_never : (header bytes : List ℕ) (size : ℕ) → decoded header bytes ≡ NotStarted → due_on header bytes size ≡ false
unfolding due_on
due_never header bytes size not =
    ap (λ (d : Decoded). due_by (in_force bytes) d bytes size) not ∙ by (in_force bytes)
  where
    by : (f : Force) → due_by f NotStarted bytes size ≡ false
    by NoCell = refl
    by Clash = refl
    by (Is cell) = refl

-- ---- images

-- a state with one record more is another
pub never_appended : (state : State) (body : List ℕ) → Encodes state ≡ Encodes (appended state body) → ⊥
never_appended state body is =
    let longer : length state.bodies ≡ length (state.bodies ++ body ∷ []) = ap (λ (d : Decoded). length (state_of d).bodies) is in
    omega (arith, longer, length_push state.bodies body)

-- no image encodes the state before once each encodes the one after
pub takes_none : (header : List ℕ) (images : List ℕ → Type 0) (state : State) (body : List ℕ) (size : ℕ) →
    EachEncodes header images (appended state body) → EachTakes header images state size
takes_none header images state body size all = record {
  each = λ image left same. absurd (never_appended state body (sym same ∙ all.each image left));
}

-- a disk with one image on which none is due
pub takes_only : (header bytes : List ℕ) (images : List ℕ → Type 0) (state : State) (layout : Layout) (size : ℕ) → Only bytes images →
    IsLaidOut header bytes state layout → is_due state.bodies layout size ≡ false → EachTakes header images state size
takes_only header bytes images state layout size only laid not_due =
    each_only (λ image. decoded header image ≡ Encodes state → due_on header image size ≡ false) bytes images only
    (λ same. due_laid header bytes layout state size laid ∙ not_due)
