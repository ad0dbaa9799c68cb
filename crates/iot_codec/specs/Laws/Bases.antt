-- The laws of accesses.
use Rattle.std.proofs.Common.{◌≡◌, ℕ, suc, List, [], ◌∷◌, length, Ok, refl, sym, ap, subst}
use Rattle.std.specs.List.{zip, AllByRecursion}
use Rattle.std.proofs.lemmas.Slice.Zip.{firsts-zip, seconds-zip}
use Rattle.iot_tree.specs.declared.access.Access.{Access}
use Rattle.iot_tree.specs.declared.acts.Read.{Read}
use Rattle.iot_tree.specs.declared.updates.Update.{Update}
use Rattle.iot_codec.specs.Places.{LiesAt, IsSpelledAt, IsSpelling}
use Rattle.iot_views.specs.Decoders.{Decoder, ◌>>=◌, done, number_at, list_at}
use Rattle.iot_views.specs.Decoding.{read_at, update_at, base_at, parted, bases_at, updates_at, access_at}
use Rattle.iot_views.specs.Rules.{IsNumber, IsRead, AreReads, IsUpdate, AreUpdates, AreBases, IsAccess}
use Rattle.iot_codec.specs.Spelling.{number_spelling, list_spelling, read_spelling, base_spelling, bases_spelling, update_spelling}
use Rattle.iot_codec.specs.Spelling.{updates_spelling, access_spelling}
use Rattle.iot_codec.specs.Laws.Steps.{step, carried}
use Rattle.iot_codec.specs.Laws.Parts.{number_laws, same_rule}
use Rattle.iot_codec.specs.Laws.Lists.{list_laws}
use Rattle.iot_codec.specs.Laws.Fields.{last_field, next_field, all_fields}
use Rattle.iot_codec.specs.Laws.Questions.{read_laws}
use Rattle.iot_codec.specs.Laws.Updates.{update_laws}

-- a value that is made of another one, and seen as that one
pub record IsMadeOf {X Y : Type 0} (HasX : X → Type 0) (HasY : Y → Type 0) (make : X → Y) (view : Y → X) : Type 0 where
  pub has : (x : X) → HasX x → HasY (make x)
  pub had : (y : Y) → HasY y → HasX (view y)
  pub seen : (x : X) → HasX x → view (make x) ≡ x
  pub made : (y : Y) → HasY y → make (view y) ≡ y

pub made_laws : {X Y : Type 0} (HasX : X → Type 0) (HasY : Y → Type 0) (make : X → Y) (view : Y → X) (spelling : X → List ℕ)
    (decoder : Decoder X) → IsMadeOf HasX HasY make view → IsSpelling HasX spelling decoder
    → IsSpelling HasY (λ y. spelling (view y)) (decoder >>= λ x. done (make x))
made_laws HasX HasY make view spelling decoder m laws = record {
  found = λ bytes at read fit e.
      let s = step (decoder bytes at) (λ x after. Ok (make x, after)) read e in
      let one = laws.found bytes at s.0 fit s.1 in
      let whole : IsSpelledAt HasY (λ y. spelling (view y)) bytes at (make s.0.0, s.0.1) = record {
        value = m.has s.0.0 one.value;
        place = subst (λ (x : _). LiesAt bytes at (spelling x) s.0.1) (sym (m.seen s.0.0 one.value)) one.place;
      } in
      carried (IsSpelledAt HasY (λ y. spelling (view y)) bytes at) (make s.0.0, s.0.1) read s.2 whole;
  only = λ bytes at read short p.
      rw (laws.only bytes at (view read.0, read.1) short (record { value = m.had read.0 p.value; place = p.place }), m.made read.0 p.value)
      refl;
  some = λ y. laws.some (view y);
}

-- ---- base reads

IsBase : Read × ℕ → Type 0
IsBase base = IsRead base.0 × IsNumber base.1

base_laws : IsSpelling IsBase base_spelling base_at
unfolding base_at IsBase
base_laws =
    all_fields IsBase base_spelling (λ f. read_at >>= λ read. number_at >>= λ place. done (read, place))
    (next_field (λ b. tt) (λ b. b.0) IsRead read_spelling read_at read_laws (λ b. IsNumber b.1)
    (λ b. number_spelling b.1) (λ f. number_at >>= λ place. done (f.1, place))
    (last_field (λ b. (tt, b.0)) (λ b. b.1) IsNumber number_spelling number_at number_laws
    (λ f place. (f.1, place))
    (record { whole = λ b. refl; front_is = λ f y. refl; last_is = λ f y. refl })))

zip_parted : (bases : List (Read × ℕ)) → zip (parted bases).0 (parted bases).1 ≡ bases
zip_parted [] = refl
zip_parted (base ∷ bases) = ap (λ (rest : List (Read × ℕ)). base ∷ rest) (zip_parted bases)

parted_even : (bases : List (Read × ℕ)) → length (parted bases).1 ≡ length (parted bases).0
parted_even [] = refl
parted_even (base ∷ bases) = ap suc (parted_even bases)

reads_of : (bases : List (Read × ℕ)) → AllByRecursion IsBase bases → AreReads (parted bases).0
unfolding IsBase
reads_of [] all = tt
reads_of (base ∷ bases) all = (all.0.0, reads_of bases all.1)

places_of : (bases : List (Read × ℕ)) → AllByRecursion IsBase bases → AllByRecursion IsNumber (parted bases).1
unfolding IsBase
places_of [] all = tt
places_of (base ∷ bases) all = (all.0.1, places_of bases all.1)

zip_all : (reads : List Read) (places : List ℕ) → AreReads reads → AllByRecursion IsNumber places → AllByRecursion IsBase (zip reads places)
unfolding IsBase
zip_all [] places r p = tt
zip_all (read ∷ reads) [] r p = tt
zip_all (read ∷ reads) (place ∷ places) r p = ((r.0, p.0), zip_all reads places r.1 p.1)

parted_zip : (bases : List Read × List ℕ) → AreBases bases → parted (zip bases.0 bases.1) ≡ bases
parted_zip bases has = rw (firsts-zip bases.0 bases.1 has.even, seconds-zip bases.0 bases.1 has.even) refl

pub bases_laws : IsSpelling AreBases bases_spelling bases_at
bases_laws =
    made_laws (AllByRecursion IsBase) AreBases parted (λ bases. zip bases.0 bases.1) (list_spelling base_spelling) (list_at base_at)
    (record {
      has = λ bases all. record { even = parted_even bases; reads = reads_of bases all; places = places_of bases all };
      had = λ bases has. zip_all bases.0 bases.1 has.reads has.places;
      seen = λ bases all. zip_parted bases;
      made = parted_zip;
    })
    (list_laws IsBase base_spelling base_at base_laws)

-- ---- accesses

updates_laws : IsSpelling AreUpdates updates_spelling updates_at
updates_laws = list_laws IsUpdate update_spelling update_at update_laws

pub access_laws : IsSpelling IsAccess access_spelling access_at
unfolding access_at access_spelling
access_laws =
    let Fields : Access → Type 0 = λ a. AreBases (a.reads, a.places) × AreUpdates a.updates in
    let made : List Read × List ℕ → List Update
    → Access = λ bases updates. record { reads = bases.0; updates = updates; places = bases.1 } in
    let fields : IsSpelling Fields access_spelling access_at =
    all_fields Fields access_spelling (λ f. bases_at >>= λ bases. updates_at >>= λ updates. done (made bases updates))
    (next_field (λ a. tt) (λ a. (a.reads, a.places)) AreBases bases_spelling bases_at bases_laws (λ a. AreUpdates a.updates)
    (λ a. updates_spelling a.updates) (λ f. updates_at >>= λ updates. done (made f.1 updates))
    (last_field (λ a. (tt, (a.reads, a.places))) (λ a. a.updates) AreUpdates updates_spelling updates_at updates_laws
    (λ f updates. made f.1 updates)
    (record { whole = λ a. refl; front_is = λ f y. refl; last_is = λ f y. refl }))) in
    same_rule Fields IsAccess access_spelling access_at (λ a has. record { bases = has.0; updates = has.1 })
    (λ a has. (has.bases, has.updates)) fields
