-- Pairs of images: in an append, in a checkpoint, and of slots without anything under way.
use Rattle.std.proofs.Common.{◌≡◌, ◌≢◌, inl, inr, ℕ, true, false, List, [], ◌∷◌, ◌++◌, length, Option, Some, None, refl, sym, ◌∙◌}
use Rattle.std.proofs.Common.{ap, subst, arith}
use Rattle.std.proofs.lemmas.Bool.Decides.{nat_tests}
use Rattle.std.proofs.lemmas.List.{length_push}
use Rattle.iot_disk.specs.Disk.{Medium}
use Rattle.iot_records.specs.Images.{Each}
use Rattle.iot_records.proofs.ImagesLaws.{each_only}
use Rattle.iot_slots.specs.Cells.{next}
use Rattle.iot_slots.specs.Decoding.{Decoded, State, Encodes, decoded, opened, state_of}
use Rattle.iot_slots.specs.Due.{due_on, EachTakes}
use Rattle.iot_slots.specs.Layouts.{is_due}
use Rattle.iot_slots.specs.Slots.{appended, renewed, EachEncodes, EachEncodesEither}
use Rattle.iot_slots.specs.Slots.{disk_of, header_of, count_of, layout_of, state_on, IsSynced}
use Rattle.iot_slots.specs.declared.slots.Slots.{Slots}
use Rattle.iot_slots.proofs.DueLaws.{due_laid}
use Rattle.iot_backup.specs.Pairs.{counted, follows, AreInStep, EachPair, EachInStep, AppendsInTurn}
use Rattle.iot_backup.specs.Start.{last_or, last_of, MayBeBehind}
use Rattle.iot_backup.specs.Twin as twins
use Rattle.iot_backup.specs.Parts.{Changes, If, IsThere}
use Rattle.iot_backup.specs.Twin.{due_by}
use Rattle.iot_backup.specs.declared.twin.Twin.{Twin}

-- ---- counts

pub follows_same : (a b : ℕ) → a ≡ b → follows a b ≡ true
follows_same a b is = grind (arith, nat_tests)

pub follows_next : (a b : ℕ) → a ≡ next b → follows a b ≡ true
follows_next a b is = grind (arith, nat_tests)

pub no_next : (n : ℕ) → n ≡ next n → ⊥
no_next n is = omega (arith, is)

pub same_state : (s t : State) → Encodes s ≡ Encodes t → s ≡ t
same_state s t is = ap state_of is

pub if_so : {X : Type 0} (P Q : X → Type 0) → ((x : X) → P x → Q x) → (o : Option X) → If P o → If Q o
if_so P Q so (Some x) it = so x it
if_so P Q so None it = tt

-- none comes, and none goes
pub stays_there : {X : Type 0} (R : X → X → Type 0) (old new : Option X) → Changes R old new → IsThere old → IsThere new
stays_there R (Some before) (Some now) is there = tt
stays_there R (Some before) None is there = absurd is
stays_there R None new is there = absurd there

-- ---- two images

pub in_step : (one other : Decoded) (s t : State) → one ≡ Encodes s → other ≡ Encodes t → follows s.count t.count ≡ true →
    AreInStep one other
in_step one other s t first second step = record {
  first = s.count;
  second = t.count;
  first_is = ap counted first;
  second_is = ap counted second;
  step = step;
}

-- with the same count
pub alike : (header body first second : List ℕ) (s t : State) → opened body (decoded header first) ≡ Encodes s →
    opened body (decoded header second) ≡ Encodes t → s.count ≡ t.count → MayBeBehind header body first second
alike header body first second s t first_is second_is same one other one_is other_is next_one =
    let left = same_state s one (sym first_is ∙ one_is) in
    let right = same_state t other (sym second_is ∙ other_is) in
    absurd (no_next t.count (sym same ∙ ap (λ (r : State). r.count) left ∙ next_one ∙ ap (λ (r : State). next r.count) (sym right)))

last_pushed : (first : List ℕ) (bodies : List (List ℕ)) (body : List ℕ) → last_or first (bodies ++ body ∷ []) ≡ body
last_pushed first [] body = refl
last_pushed first (other ∷ bodies) body = last_pushed other bodies body

some_pushed : (bodies : List (List ℕ)) (body : List ℕ) → bodies ++ body ∷ [] ≢ []
some_pushed bodies body none =
    let empty : length (bodies ++ body ∷ []) ≡ 0 = ap length none in
    omega (arith, empty, length_push bodies body)

-- the second lacks the last record of the first, and no checkpoint is due on it before that
lacking : (header body first second : List ℕ) (s : State) (entry : List ℕ) → decoded header first ≡ Encodes (appended s entry) →
    due_on header second (length entry) ≡ false → MayBeBehind header body first second
lacking header body first second s entry first_is not_due one other one_is other_is next_one =
    let left = same_state (appended s entry) one (sym (ap (opened body) first_is) ∙ one_is) in
    subst (λ (r : State). (r.bodies ≢ []) × (due_on header second (length (last_of r.bodies)) ≡ false)) left
    (some_pushed s.bodies entry, ap (λ (l : List ℕ). due_on header second (length l)) (last_pushed [] s.bodies entry) ∙ not_due)

-- ---- images with a count

-- it encodes a state with this count
abbrev pub HasCount : (header : List ℕ) (count : ℕ) → (image : List ℕ) → Type 0
HasCount header count image = (s : State) × (decoded header image ≡ Encodes s) × (s.count ≡ count)

pub each_counts : (header : List ℕ) (images : List ℕ → Type 0) (s : State) (count : ℕ) → s.count ≡ count → EachEncodes header images s →
    Each (HasCount header count) images
each_counts header images s count is all = record { each = λ image left. (s, all.each image left, is) }

-- a checkpoint leaves the count
pub renewed_counts : (header : List ℕ) (images : List ℕ → Type 0) (s : State) (body : List ℕ) (count : ℕ) → s.count ≡ count →
    EachEncodesEither header images s (renewed s body) → Each (HasCount header count) images
renewed_counts header images s body count is either = record {
  each = λ image left.
      elim (either.each image left) [ inl before ↦ (s, before, is) | inr after ↦ (renewed s body, after, is) ];
}

-- the same, by another name of the header
pub second_counts : (header head : List ℕ) (images : List ℕ → Type 0) (s : State) (body : List ℕ) → head ≡ header →
    EachEncodesEither head images s (renewed s body) → Each (HasCount header s.count) images
second_counts header head images s body is either =
    renewed_counts header images s body s.count refl (subst (λ (h : List ℕ). EachEncodesEither h images s (renewed s body)) is either)

module _ (header : List ℕ) (count : ℕ) (ones others : List ℕ → Type 0) (all : Each (HasCount header count) ones)
    (also : Each (HasCount header count) others) where
  pub counts_in_step : EachInStep header ones others
  counts_in_step = record {
    each = λ i j left right.
        let one = all.each i left in
        let other = also.each j right in
        in_step _ _ one.0 other.0 one.1 other.1 (follows_same one.0.count other.0.count (one.2 ∙ sym other.2));
  }

  pub counts_again : (body : List ℕ) → EachPair (MayBeBehind header body) ones others
  counts_again body = record {
    each = λ i j left right.
        let one = all.each i left in
        let other = also.each j right in
        alike header body i j one.0 other.0 (ap (opened body) one.1) (ap (opened body) other.1) (one.2 ∙ sym other.2);
  }

-- ---- an append in turn

module _ (header : List ℕ) (s t : State) (entry : List ℕ) (ones others : List ℕ → Type 0) where
  -- the first disk is written
  pub pairs_first : EachEncodesEither header ones s (appended s entry) → EachEncodes header others t →
      EachTakes header others t (length entry) → EachPair (AppendsInTurn header s t entry) ones others
  pairs_first either all takes = record {
    each = λ one other left right.
        elim (either.each one left) [
          | inl before ↦ inl (before, all.each other right)
          | inr after ↦ inr (after, inl (all.each other right, takes.each other right (all.each other right)))
        ];
  }

  -- the first disk has the record, and the second is written
  pub pairs_second : EachEncodes header ones (appended s entry) → EachEncodesEither header others t (appended t entry) →
      EachTakes header others t (length entry) → EachPair (AppendsInTurn header s t entry) ones others
  pairs_second all either takes = record {
    each = λ one other left right.
        elim (either.each other right) [
          | inl before ↦ inr (all.each one left, inl (before, takes.each other right before))
          | inr after ↦ inr (all.each one left, inr after)
        ];
  }

  module _ (same : s.count ≡ t.count) (pairs : EachPair (AppendsInTurn header s t entry) ones others) where
    pub pairs_in_step : EachInStep header ones others
    pairs_in_step = record { each = λ one other left right. by one other (pairs.each one other left right) }
      where
        by : (one other : List ℕ) → AppendsInTurn header s t entry one other → AreInStep (decoded header one) (decoded header other)
        by one other (inl both) = in_step _ _ s t both.0 both.1 (follows_same s.count t.count same)
        by one other (inr (first, inl second)) =
            in_step _ _ (appended s entry) t first second.0 (follows_next (next s.count) t.count (ap next same))
        by one other (inr (first, inr second)) =
            in_step _ _ (appended s entry) (appended t entry) first second
            (follows_same (next s.count) (next t.count) (ap next same))

    pub pairs_again : (body : List ℕ) → EachPair (MayBeBehind header body) ones others
    pairs_again body = record { each = λ one other left right. by one other (pairs.each one other left right) }
      where
        by : (one other : List ℕ) → AppendsInTurn header s t entry one other → MayBeBehind header body one other
        by one other (inl both) = alike header body one other s t (ap (opened body) both.0) (ap (opened body) both.1) same
        by one other (inr (first, inl second)) = lacking header body one other s entry first second.1
        by one other (inr (first, inr second)) =
            alike header body one other (appended s entry) (appended t entry) (ap (opened body) first) (ap (opened body) second)
            (ap next same)

-- ---- slots without anything under way

module _ {D : Type 0} (medium : Medium D) (slots : Slots D) (synced : IsSynced medium slots) where
  pub synced_each : EachEncodes (header_of slots) (medium.may_leave (disk_of slots)) (state_on medium slots)
  synced_each =
      each_only (λ image. decoded (header_of slots) image ≡ Encodes (state_on medium slots)) (medium.reads (disk_of slots))
      (medium.may_leave (disk_of slots)) synced.only synced.encodes

  pub synced_due : (size : ℕ) →
      due_on (header_of slots) (medium.reads (disk_of slots)) size ≡ is_due (state_on medium slots).bodies (layout_of slots) size
  synced_due size =
      due_laid (header_of slots) (medium.reads (disk_of slots)) (layout_of slots) (state_on medium slots) size synced.layout

  pub synced_takes : (size : ℕ) → due_on (header_of slots) (medium.reads (disk_of slots)) size ≡ false →
      EachTakes (header_of slots) (medium.may_leave (disk_of slots)) (state_on medium slots) size
  synced_takes size not =
      each_only (λ image. decoded (header_of slots) image ≡ Encodes (state_on medium slots) → due_on (header_of slots) image size ≡ false)
      (medium.reads (disk_of slots)) (medium.may_leave (disk_of slots)) synced.only (λ _. not)

  pub synced_count : count_of slots ≡ (state_on medium slots).count
  synced_count = synced.layout.count

-- ---- a twin without anything under way

-- the counts that its disks encode
pub same_counts : {D : Type 0} (medium : Medium D) (first second : Slots D) → IsSynced medium first → IsSynced medium second →
    count_of second ≡ count_of first → (state_on medium first).count ≡ (state_on medium second).count
same_counts medium first second one other same =
    sym (synced_count medium first one) ∙ sym same ∙ synced_count medium second other

-- the first disk has the record, and the second is written
pub second_pairs : (header head : List ℕ) (s t : State) (entry : List ℕ) (ones others : List ℕ → Type 0) → head ≡ header →
    EachEncodes header ones (appended s entry) → EachEncodesEither head others t (appended t entry) →
    EachTakes head others t (length entry) → EachPair (AppendsInTurn header s t entry) ones others
second_pairs header head s t entry ones others is all either takes =
    pairs_second header s t entry ones others all (subst (λ (h : List ℕ). EachEncodesEither h others t (appended t entry)) is either)
    (subst (λ (h : List ℕ). EachTakes h others t (length entry)) is takes)

module _ {D : Type 0} (medium : Medium D) (twin : Twin D) (synced : twins.IsSynced medium twin) where
  -- what is so of the second disk's images, as long as it is not written
  stays : If (λ s. ((state_on medium twin.first).count ≡ (state_on medium s).count)
      × EachEncodes (header_of twin.first) (medium.may_leave (disk_of s)) (state_on medium s)) twin.second
  stays = by twin.second synced.second synced.header synced.count
    where
      by : (second : Option (Slots D)) → If (IsSynced medium) second → If (λ s. header_of s ≡ header_of twin.first) second →
          If (λ s. count_of s ≡ count_of twin.first) second →
          If (λ s. ((state_on medium twin.first).count ≡ (state_on medium s).count)
          × EachEncodes (header_of twin.first) (medium.may_leave (disk_of s)) (state_on medium s)) second
      by None it head count = tt
      by (Some s) it head count = (
        same_counts medium twin.first s synced.first it count,
        subst (λ (h : List ℕ). EachEncodes h (medium.may_leave (disk_of s)) (state_on medium s)) head (synced_each medium s it),
      )

  -- the first disk is written by an append
  pub first_pairs : (entry : List ℕ) (ones : List ℕ → Type 0) → due_by medium (length entry) twin.second ≡ false →
      EachEncodesEither (header_of twin.first) ones (state_on medium twin.first) (appended (state_on medium twin.first) entry) →
      If (λ s. ((state_on medium twin.first).count ≡ (state_on medium s).count)
      × EachPair (AppendsInTurn (header_of twin.first) (state_on medium twin.first) (state_on medium s) entry) ones
      (medium.may_leave (disk_of s))) twin.second
  first_pairs entry ones not_due either = by twin.second synced.second synced.header not_due stays
    where
      by : (second : Option (Slots D)) → If (IsSynced medium) second → If (λ s. header_of s ≡ header_of twin.first) second →
          due_by medium (length entry) second ≡ false →
          If (λ s. ((state_on medium twin.first).count ≡ (state_on medium s).count)
          × EachEncodes (header_of twin.first) (medium.may_leave (disk_of s)) (state_on medium s)) second →
          If (λ s. ((state_on medium twin.first).count ≡ (state_on medium s).count)
          × EachPair (AppendsInTurn (header_of twin.first) (state_on medium twin.first) (state_on medium s) entry) ones
          (medium.may_leave (disk_of s))) second
      by None it head not all = tt
      by (Some s) it head not all = (
        all.0,
        pairs_first (header_of twin.first) (state_on medium twin.first) (state_on medium s) entry ones (medium.may_leave (disk_of s)) either
            all.1
            (subst (λ (h : List ℕ). EachTakes h (medium.may_leave (disk_of s)) (state_on medium s) (length entry)) head
            (synced_takes medium s it (length entry) not)),
      )

  -- by a checkpoint
  pub first_counts : (body : List ℕ) (ones : List ℕ → Type 0) →
      EachEncodesEither (header_of twin.first) ones (state_on medium twin.first) (renewed (state_on medium twin.first) body) →
      If (λ s. Each (HasCount (header_of twin.first) (state_on medium s).count) ones
      × Each (HasCount (header_of twin.first) (state_on medium s).count) (medium.may_leave (disk_of s))) twin.second
  first_counts body ones either = if_so
      (λ s. ((state_on medium twin.first).count ≡ (state_on medium s).count)
      × EachEncodes (header_of twin.first) (medium.may_leave (disk_of s)) (state_on medium s))
      (λ s. Each (HasCount (header_of twin.first) (state_on medium s).count) ones
      × Each (HasCount (header_of twin.first) (state_on medium s).count) (medium.may_leave (disk_of s)))
      (λ s all. (
        renewed_counts (header_of twin.first) ones (state_on medium twin.first) body (state_on medium s).count all.0 either,
        each_counts (header_of twin.first) (medium.may_leave (disk_of s)) (state_on medium s) (state_on medium s).count refl all.1,
      )) twin.second stays
