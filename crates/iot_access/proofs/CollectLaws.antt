-- Base reads collected in turn.
use Rattle.std.proofs.Common.{◌≡◌, ℕ, suc, ◌+◌, ◌<◌, ◌≤◌, Bool, true, false, List, [], ◌∷◌, ◌++◌, map, length}
use Rattle.std.proofs.Common.{Option, Some, None, drop, get_or}
use Rattle.std.proofs.Common.{refl, sym, ap, subst, ◌∙◌, arith}
use Rattle.std.proofs.lemmas.List.{append-nil, drop_more}
use Rattle.std.specs.List.{zip}
use Rattle.iot_tree.specs.Tree.{Nodes, Path}
use Rattle.iot_tree.specs.Updates.{FitsMove}
use Rattle.iot_tree.specs.declared.updates.Update.{Update}
use Rattle.iot_tree.specs.declared.updates.Update.TheVariants.{Put, MakeDir, Remove, Move, SetMode}
use Rattle.iot_tree.specs.declared.acts.Act.{Act}
use Rattle.iot_tree.specs.declared.acts.Read.{Read}
use Rattle.iot_acts.specs.Traces.{FitsIfAny, ActsHold, after_update}
use Rattle.iot_tree.specs.declared.questions.Question.{Question}
use Rattle.iot_access.specs.Asked.{cons_unless, first_asked, none_asked, or_asked}
use Rattle.iot_access.specs.BaseReads.{Base, base_of, cons_base, based_reads, based, done_more}
use Rattle.iot_tree.specs.declared.access.Access.{Access}
use Rattle.iot_access.specs.Access.{Rise, access_of, cons_update, updates_of}
use Rattle.iot_access.proofs.AskedLaws.{same_asked}
use Rattle.iot_access.proofs.BaseReadsLaws.{reads_beside}
use Rattle.iot_access.specs.Entries.{AreApart, IsApartIfAny}
use Rattle.iot_access.specs.Origins.{TellAfter}
use Rattle.iot_access.specs.declared.origins.Origins.{Origins}

-- two lists of one length, and one item more in each
pub zip_more : (places : List ℕ) (reads : List Read) (place : ℕ) (read : Read) (rest : List Base) → length places ≡ length reads
    → zip (places ++ place ∷ []) (reads ++ read ∷ []) ++ rest ≡ zip places reads ++ (place, read) ∷ rest
zip_more [] [] place read rest even = refl
zip_more [] (r ∷ reads) place read rest even = absurd (omega (arith, even))
zip_more (p ∷ places) [] place read rest even = absurd (omega (arith, even))
zip_more (p ∷ places) (r ∷ reads) place read rest even =
    ap (λ (rest : List Base). (p, r) ∷ rest) (zip_more places reads place read rest (omega (arith, even)))

-- places beside their base reads are all of them
places_beside : (places : List ℕ) (reads : List Read) → length places ≡ length reads → map (λ base. base.0) (zip places reads) ≡ places
places_beside [] reads even = refl
places_beside (place ∷ places) [] even = absurd (omega (arith, even))
places_beside (place ∷ places) (read ∷ reads) even =
    ap (λ (places : List ℕ). place ∷ places) (places_beside places reads (omega (arith, even)))

-- what was collected is the access
pub is_of : (access : Access) (acts list : List Act) (before : Nodes) → list ≡ acts → length access.places ≡ length access.reads
    → zip access.places access.reads ≡ first_asked none_asked (based list before [] 1) → access.updates ≡ updates_of list
    → access ≡ access_of acts before
is_of access acts list before same even is are =
    let bases : zip access.places access.reads ≡ first_asked none_asked (based acts before [] 1) =
    is ∙ ap (λ (acts : List Act). first_asked none_asked (based acts before [] 1)) same in
    let reads = sym (reads_beside access.places access.reads even) ∙ ap (map (λ base. base.1)) bases in
    let places = sym (places_beside access.places access.reads even) ∙ ap (map (λ base. base.0)) bases in
    let updates = are ∙ ap updates_of same in
    λ i. record { reads = reads i; updates = updates i; places = places i }

-- places of base reads rise
abbrev BasesRise : List Base → ℕ → Type 0
BasesRise [] from = Unit {0}
BasesRise (base ∷ bases) from = (from ≤ base.0) × BasesRise bases (suc base.0)

later : (bases : List Base) (a b : ℕ) → a ≤ b → BasesRise bases b → BasesRise bases a
later [] a b le rising = tt
later (base ∷ bases) a b le rising = (omega (arith, le, rising.0), rising.1)

cons_rising : (place : ℕ) (found : Option Read) (rest : List Base) → BasesRise rest (suc place)
    → BasesRise (cons_base place found rest) place
cons_rising place None rest rising = later rest place (suc place) (omega arith) rising
cons_rising place (Some read) rest rising = (omega arith, rising)

reads_rising : (reads : List Read) (before : Nodes) (done : List Update) (place : ℕ) (rest : List Base)
    → BasesRise rest (length reads + place) → BasesRise (based_reads reads before done place rest) place
reads_rising [] before done place rest rising = later rest place (0 + place) (omega arith) rising
reads_rising (read ∷ reads) before done place rest rising =
    cons_rising place (base_of before done read) (based_reads reads before done (suc place) rest)
    (reads_rising reads before done (suc place) rest
    (later rest (length reads + suc place) (suc (length reads) + place) (omega arith) rising))

based_rising : (acts : List Act) (before : Nodes) (done : List Update) (place : ℕ) → BasesRise (based acts before done place) place
based_rising [] before done place = tt
based_rising (act ∷ acts) before done place =
    reads_rising act.reads before done place (based acts before (done_more done act.update) (length act.reads + place))
    (based_rising acts before (done_more done act.update) (length act.reads + place))

places_rising : (places : List ℕ) (reads : List Read) (from : ℕ) → length places ≡ length reads → BasesRise (zip places reads) from
    → Rise from places
places_rising [] reads from even rising = tt
places_rising (p ∷ places) [] from even rising = absurd (omega (arith, even))
places_rising (p ∷ places) (r ∷ reads) from even rising = (rising.0, places_rising places reads (suc p) (omega (arith, even)) rising.1)

-- those of some of them do, too
some_rising : (bases : List Base) (f : Question → Bool) (from : ℕ) → BasesRise bases from → BasesRise (first_asked f bases) from
some_rising [] f from rising = tt
some_rising (base ∷ bases) f from rising =
    by (f base.1.question) (some_rising bases (or_asked f base.1.question) (suc base.0) rising.1)
  where
    by : (b : Bool) → BasesRise (first_asked (or_asked f base.1.question) bases) (suc base.0)
        → BasesRise (cons_unless b base (first_asked (or_asked f base.1.question) bases)) from
    by true rest = later (first_asked (or_asked f base.1.question) bases) from (suc base.0) (omega (arith, rising.0)) rest
    by false rest = (rising.0, rest)

pub places_of : (places : List ℕ) (reads : List Read) (acts : List Act) (before : Nodes) → length places ≡ length reads
    → zip places reads ≡ first_asked none_asked (based acts before [] 1) → Rise 1 places
places_of places reads acts before even is =
    places_rising places reads 1 even
    (subst (λ (bases : List Base). BasesRise bases 1) (sym is)
    (some_rising (based acts before [] 1) none_asked 1 (based_rising acts before [] 1)))

-- ---- one act more

-- neither path of any move is at or below the other
abbrev pub AllApart : List Act → Type 0
AllApart [] = Unit {0}
AllApart (act ∷ acts) = IsApartIfAny act.update × AllApart acts

apart_move : (t : Nodes) (p q : Path) → FitsMove t p q → AreApart p q
apart_move t p q fits = record {
  first = λ rest is. by_first rest is;
  second = λ rest is. by_second rest is;
}
  where
    by_first : (rest : Path) → p ≡ q ++ rest → ⊥
    by_first [] is = fits.differ (is ∙ append-nil q)
    by_first (name ∷ rest) is = fits.from_apart (name, rest, is)

    by_second : (rest : Path) → q ≡ p ++ rest → ⊥
    by_second [] is = fits.differ (sym (is ∙ append-nil p))
    by_second (name ∷ rest) is = fits.to_apart (name, rest, is)

apart_if_fits : (t : Nodes) (update : Option Update) → FitsIfAny t update → IsApartIfAny update
apart_if_fits t None fits = tt
apart_if_fits t (Some (Put p bytes)) fits = tt
apart_if_fits t (Some (MakeDir p)) fits = tt
apart_if_fits t (Some (Remove p)) fits = tt
apart_if_fits t (Some (Move p q)) fits = apart_move t p q fits
apart_if_fits t (Some (SetMode p mode)) fits = tt

pub all_apart : (acts : List Act) (t : Nodes) → ActsHold t acts → AllApart acts
all_apart [] t hold = tt
all_apart (act ∷ acts) t hold = (apart_if_fits t act.update hold.1, all_apart acts (after_update t act.update) hold.2)

-- what the loop keeps: the updates so far, and what is left to add; and the entries tell where all comes from after the updates done
pub record Collected (acts left : List Act) (before : Nodes) (place : ℕ) (found : List Base) (asked : Question → Bool)
    (updates : List Update) (origins : Origins) : Type 0 where
  pub updates_are : updates ++ updates_of left ≡ updates_of acts
  pub apart : AllApart left
  pub done : List Update
  pub tells : TellAfter origins done
  pub bases : found ++ first_asked asked (based left before done place) ≡ first_asked none_asked (based acts before [] 1)

pub collected_first : (acts : List Act) (before : Nodes) (found : List Base) (asked : Question → Bool) (updates : List Update)
    (origins : Origins) → ActsHold before acts → found ≡ [] → ((q : Question) → asked q ≡ none_asked q) → updates ≡ []
    → TellAfter origins [] → Collected acts acts before 1 found asked updates origins
collected_first acts before found asked updates origins hold no_base no_question no_update tells = record {
  updates_are = ap (λ (updates : List Update). updates ++ updates_of acts) no_update;
  apart = all_apart acts before hold;
  done = [];
  tells = tells;
  bases =
      ap (λ (found : List Base). found ++ first_asked asked (based acts before [] 1)) no_base
      ∙ same_asked asked none_asked no_question (based acts before [] 1);
}

-- one read more
pub reads_more : (reads : List Read) (i : ℕ) (read : Read) (before : Nodes) (done : List Update) (place : ℕ) (rest : List Base)
    → i < length reads → read ≡ get_or reads i read
    → based_reads (drop i reads) before done place rest
    ≡ cons_base place (base_of before done read) (based_reads (drop (i + 1) reads) before done (suc place) rest)
reads_more reads i read before done place rest within is =
    ap (λ (left : List Read). based_reads left before done place rest)
    (drop_more reads i read within ∙ ap (λ (r : Read). r ∷ drop (i + 1) reads) (sym is))

pub collected_more : (acts : List Act) (i : ℕ) (act : Act) (before : Nodes) (place next : ℕ) (found now : List Base)
    (asked then_asked : Question → Bool) (updates more : List Update) (origins later : Origins) → i < length acts → act ≡ get_or acts i act
    → Collected acts (drop i acts) before place found asked updates origins → next ≡ length act.reads + place
    → ((done : List Update) (rest : List Base) → TellAfter origins done
    → now ++ first_asked then_asked rest ≡ found ++ first_asked asked (based_reads act.reads before done place rest))
    → ((rest : List Update) → more ++ rest ≡ updates ++ cons_update act.update rest)
    → ((done : List Update) → TellAfter origins done → TellAfter later (done_more done act.update))
    → Collected acts (drop (i + 1) acts) before next now then_asked more later
collected_more acts i act before place next found now asked then_asked updates more origins later within is kept next_is bases made tells =
    let left : List Act = drop (i + 1) acts in
    let split : drop i acts ≡ act ∷ left = drop_more acts i act within ∙ ap (λ (a : Act). a ∷ left) (sym is) in
    let done : List Update = done_more kept.done act.update in
    record {
      updates_are = made (updates_of left) ∙ ap (λ (l : List Act). updates ++ updates_of l) (sym split) ∙ kept.updates_are;
      apart = (subst AllApart split kept.apart).1;
      done = done;
      tells = tells kept.done kept.tells;
      bases =
          ap (λ (place : ℕ). now ++ first_asked then_asked (based left before done place)) next_is
          ∙ bases kept.done (based left before done (length act.reads + place)) kept.tells
          ∙ ap (λ (l : List Act). found ++ first_asked asked (based l before kept.done place)) (sym split) ∙ kept.bases;
    }
