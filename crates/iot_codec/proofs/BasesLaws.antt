-- Base reads, in a list of reads and a list of their places.
use Rattle.std.proofs.Common.{◌≡◌, ℕ, ◌+◌, ◌-◌, ◌<◌, ◌≤◌, List, [], ◌∷◌, ◌++◌, length, take, get_or, None, Result, Ok, Err, refl, sym}
use Rattle.std.proofs.Common.{ap, ◌∙◌, append_assoc, append-nil, arith}
use Rattle.std.specs.Prelude.{min}
use Rattle.std.specs.List.{flat_map, zip}
use Rattle.std.proofs.lemmas.Grind.{flat_map-append}
use Rattle.std.proofs.lemmas.List.{take_all, take_more, length_push}
use Rattle.std.proofs.lemmas.List.Concat.{flat_map-cons}
use Rattle.std.proofs.lemmas.Slice.Zip.{length-zip, get_or-zip, firsts-zip, seconds-zip}
use Rattle.iot_text.specs.Texts.{AppendsPart}
use Rattle.iot_text.proofs.TextsLaws.{part_after, part_of_list}
use Rattle.iot_tree.specs.declared.acts.Read.{Read}
use Rattle.iot_codec.specs.declared.faults.CodecFault.{CodecFault}
use Rattle.iot_codec.specs.declared.faults.CodecFault.TheVariants.{NoMemory, Malformed}
use Rattle.iot_codec.specs.Outcomes.{IsOutcome}
use Rattle.iot_views.specs.Decoders.{number_at, items_at}
use Rattle.iot_views.specs.Decoding.{base_at, bases_at}
use Rattle.iot_codec.specs.Spelling.{number_spelling, base_spelling, bases_spelling}
use Rattle.iot_views.proofs.DecodersLaws.{with_front, IsOnWay, goes_on, is_done}
use Rattle.iot_codec.proofs.FaultsLaws.{ends}

-- a pair more
pub zip_push : {A B : Type 0} (xs : List A) (ys : List B) (x : A) (y : B) → length ys ≡ length xs
    → zip (xs ++ x ∷ []) (ys ++ y ∷ []) ≡ zip xs ys ++ (x, y) ∷ []
zip_push [] [] x y even = refl
zip_push [] (b ∷ ys) x y even = absurd (omega (arith, even))
zip_push (a ∷ xs) [] x y even = absurd (omega (arith, even))
zip_push (a ∷ xs) (b ∷ ys) x y even = ap (λ rest. (a, b) ∷ rest) (zip_push xs ys x y (omega (arith, even)))

-- the list up to an element and with it
flat_map-more : {X : Type 0} (spelling : X → List ℕ) (xs : List X) (i : ℕ) (x : X) → i < length xs → x ≡ get_or xs i x
    → flat_map spelling (take (i + 1) xs) ≡ flat_map spelling (take i xs) ++ spelling x
flat_map-more spelling xs i x within is =
    ap (flat_map spelling) (take_more xs i x within)
    ∙ flat_map-append spelling (take i xs) (get_or xs i x ∷ [])
    ∙ ap (λ t. flat_map spelling (take i xs) ++ t) (flat_map-cons spelling (get_or xs i x) [] ∙ append-nil _ ∙ ap spelling (sym is))

module _ (reads : List Read) (places : List ℕ) where
  -- the number of the base reads and the first n of them follow the old text
  abbrev pub IsWritten : ℕ → List ℕ → List ℕ → Type 0
  IsWritten n old out = out ≡ old ++ (number_spelling (length (zip reads places)) ++ flat_map base_spelling (take n (zip reads places)))

  pub number_part : (count : ℕ) (old new : List ℕ) → count ≡ min (length reads) (length places)
      → AppendsPart old new (number_spelling count) → AppendsPart old new (bases_spelling (reads, places))
  number_part count old new least p =
      part_after old old new [] (number_spelling count) (flat_map base_spelling (zip reads places)) (bases_spelling (reads, places))
      (sym (append-nil old)) p
      (rw (length-zip reads places, least) refl)

  pub written_number : (count : ℕ) (old out : List ℕ) → count ≡ min (length reads) (length places) → out ≡ old ++ number_spelling count
      → IsWritten 0 old out
  written_number count old out least is =
      rw (length-zip reads places, ← least) (is ∙ ap (λ t. old ++ t) (sym (append-nil (number_spelling count))))

  is_base : (i : ℕ) (read : Read) (place : ℕ) → i < length reads → i < length places → read ≡ get_or reads i read
      → place ≡ get_or places i place → (read, place) ≡ get_or (zip reads places) i (read, place)
  is_base i read place in_reads in_places r p =
      ap (λ x. (x, place)) r ∙ ap (λ y. (get_or reads i read, y)) p ∙ sym (get_or-zip reads places i (read, place) in_reads in_places)

  is_within : (i : ℕ) → i < length reads → i < length places → i < length (zip reads places)
  is_within i in_reads in_places = rw (length-zip reads places) (omega (arith, in_reads, in_places))

  pub written_more : (i : ℕ) (read : Read) (place : ℕ) (old mid out : List ℕ) → i < length reads → i < length places
      → read ≡ get_or reads i read → place ≡ get_or places i place → IsWritten i old mid → out ≡ mid ++ base_spelling (read, place)
      → IsWritten (i + 1) old out
  written_more i read place old mid out in_reads in_places r p so_far is =
      let bases = zip reads places in
      let head = number_spelling (length bases) in
      let before = flat_map base_spelling (take i bases) in
      is
      ∙ ap (λ t. t ++ base_spelling (read, place)) so_far
      ∙ append_assoc old (head ++ before) (base_spelling (read, place))
      ∙ ap (λ t. old ++ t) (append_assoc head before (base_spelling (read, place)))
      ∙ ap (λ t. old ++ (head ++ t))
      (sym (flat_map-more base_spelling bases i (read, place) (is_within i in_reads in_places)
      (is_base i read place in_reads in_places r p)))

  pub written_all : (n : ℕ) (old out : List ℕ) → n ≡ min (length reads) (length places) → IsWritten n old out
      → out ≡ old ++ bases_spelling (reads, places)
  written_all n old out all so_far =
      let whole : take n (zip reads places) ≡ zip reads places = take_all n (zip reads places) (rw length-zip (omega (arith, all))) in
      so_far
      ∙ ap (λ bases. old ++ (number_spelling (length (zip reads places)) ++ flat_map base_spelling bases)) whole

  pub base_part : (i : ℕ) (read : Read) (place : ℕ) (old mid new : List ℕ) → i < length reads → i < length places
      → read ≡ get_or reads i read → place ≡ get_or places i place → IsWritten i old mid → AppendsPart mid new (base_spelling (read, place))
      → AppendsPart old new (bases_spelling (reads, places))
  base_part i read place old mid new in_reads in_places r p so_far part =
      part_of_list base_spelling (zip reads places) i (read, place) (number_spelling (length (zip reads places))) old mid new
      (is_within i in_reads in_places) (is_base i read place in_reads in_places r p) so_far part

-- ---- decoding

same_front : {X : Type 0} (read : Result (List X × ℕ) ℕ) → with_front [] read ≡ read
same_front (Ok read) = refl
same_front (Err at) = refl

-- as many places as reads, which are those so far
abbrev pub AreOnWay : List ℕ → ℕ → ℕ → List Read → List ℕ → ℕ → ℕ → Type 0
AreOnWay bytes count mid reads places i end =
    (length places ≡ length reads)
    × IsOnWay (λ _. base_at) bytes count (items_at (λ _. base_at) count None bytes mid) (zip reads places) i end

pub begin : (bytes : List ℕ) (count mid : ℕ) → AreOnWay bytes count mid [] [] 0 mid
begin bytes count mid =
    let whole : count - 0 ≡ count = omega arith in
    rw whole (refl, same_front (items_at (λ _. base_at) count None bytes mid))

pub goes_on_even : (bytes : List ℕ) (count mid : ℕ) (reads : List Read) (places : List ℕ) (i end : ℕ) (read : Read) (place after : ℕ)
    → i < count → base_at bytes end ≡ Ok ((read, place), after) → AreOnWay bytes count mid reads places i end
    → AreOnWay bytes count mid (reads ++ read ∷ []) (places ++ place ∷ []) (i + 1) after
goes_on_even bytes count mid reads places i end read place after lt base so_far =
    rw (length_push reads read, length_push places place, so_far.0, zip_push reads places read place so_far.0) (
      refl,
      goes_on (λ _. base_at) bytes count (items_at (λ _. base_at) count None bytes mid) (zip reads places) i end (read, place) after lt base
          so_far.1,
    )

module _ (bytes : List ℕ) (at : ℕ) where
  pub number_fault : (place : ℕ) → number_at bytes at ≡ Err place → bases_at bytes at ≡ Err place
  number_fault place h = rw h refl

  module _ (count mid : ℕ) (number : number_at bytes at ≡ Ok (count, mid)) where
    pub base_fault : (fault : CodecFault)
        → IsOutcome {X = List (Read × ℕ) × ℕ} (Err fault) (items_at (λ _. base_at) count None bytes mid)
        → IsOutcome {X = (List Read × List ℕ) × ℕ} (Err fault) (bases_at bytes at)
    base_fault NoMemory h = tt
    base_fault (Malformed place) h = rw (number, h) refl

    pub ends_at_fault : (fault : CodecFault) (reads : List Read) (places : List ℕ) (i end : ℕ) → i < count
        → IsOutcome {X = (Read × ℕ) × ℕ} (Err fault) (base_at bytes end) → AreOnWay bytes count mid reads places i end
        → IsOutcome {X = (List Read × List ℕ) × ℕ} (Err fault) (bases_at bytes at)
    ends_at_fault fault reads places i end lt base so_far =
        base_fault fault
        (ends (λ _. base_at) bytes count (items_at (λ _. base_at) count None bytes mid) fault (zip reads places) i end lt base so_far.1)

    pub are_read : (reads : List Read) (places : List ℕ) (i end : ℕ) → count ≤ i → AreOnWay bytes count mid reads places i end
        → bases_at bytes at ≡ Ok ((reads, places), end)
    are_read reads places i end le so_far =
        let h = is_done (λ _. base_at) bytes count (items_at (λ _. base_at) count None bytes mid) (zip reads places) i end le so_far.1 in
        rw (number, h, firsts-zip reads places so_far.0, seconds-zip reads places so_far.0) refl
