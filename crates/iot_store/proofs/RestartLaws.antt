-- What a start from two disks needs of them: it is so of each pair of images, whatever was under way.
use Rattle.std.proofs.Common.{◌≡◌, ◌≤◌, ◌^◌, inl, inr, ℕ, true, List, length, Option, Some, None, refl, sym, ap, ◌∙◌, subst, arith}
use Rattle.std.proofs.lemmas.Bool.Decides.{nat_tests}
use Rattle.iot_backup.specs.Pairs as pairs
use Rattle.iot_backup.specs.Pairs.{AreInStep, EachPair, counted}
use Rattle.iot_backup.specs.Parts.{Changes, If}
use Rattle.iot_backup.proofs.PairsLaws.{HasCount, counts_again, counts_in_step, follows_same, no_next}
use Rattle.iot_disk.specs.Disk.{Medium}
use Rattle.iot_durable.specs.Durable.{images_of}
use Rattle.iot_durable.specs.Standing as durable
use Rattle.iot_durable.specs.Standing.{EachGoes, MakesBy, MakesOf, StandWith}
use Rattle.iot_durable.proofs.ImagesLaws.{start_count}
use Rattle.iot_records.specs.Images.{Each}
use Rattle.iot_slots.specs.Cells.{next}
use Rattle.iot_slots.specs.Decoding.{Decoded, Encodes, NotStarted, Foreign, Damaged, State as Encoded, decoded, state_of as state_in}
use Rattle.iot_slots.specs.Slots.{appended, state_on}
use Rattle.iot_slots.specs.declared.slots.Slots.{Slots}
use Rattle.iot_store.specs.Rules.{header, rules}
use Rattle.iot_store.specs.Standing.{EachFollows, EachStarts, EachStays, MayFollow, MayStart, StandFor, StandTogether, records_in}
use Rattle.iot_store.specs.States.{State, CanFollow, after_commit}
use Rattle.iot_store.specs.Store.{IsSynced, count_of, disk_of, encoded_on, second_of, state_of}
use Rattle.iot_store.specs.declared.commit.Commit.{Commit}
use Rattle.iot_store.specs.declared.store.Store.{Store}
use Rattle.iot_store.proofs.PartsLaws.{changes_from, if_both}
use Rattle.iot_store.proofs.StandingLaws.{IsCutOff, cut_off, renewed_count, renewed_makes, second_counted, second_stays, stands_one}
use Rattle.iot_store.proofs.StandingLaws.{store_counted, store_stays}

-- ---- counts

abbrev count_or : Option ℕ → ℕ
count_or (Some n) = n
count_or None = 0

-- a second disk has no more commits than the first
never_before : (n a b : ℕ) → a ≡ n → b ≡ next n → pairs.follows a b ≡ true → ⊥
never_before n a b one other step = grind (arith, nat_tests)

never_in_step : (n : ℕ) (d e : Decoded) (s t : Encoded) → d ≡ Encodes s → e ≡ Encodes t → s.count ≡ n → t.count ≡ next n → AreInStep d e
    → ⊥
never_in_step n d e s t first second one other it =
    let a : it.first ≡ s.count = ap count_or (sym it.first_is ∙ ap counted first) in
    let b : it.second ≡ t.count = ap count_or (sym it.second_is ∙ ap counted second) in
    never_before n it.first it.second (a ∙ one) (b ∙ other) it.step

-- ---- a pair of images, by what each encodes

module _ (count : ℕ) (before : State) (commit : Commit) (follows : CanFollow before commit.label commit.access) where
  abbrev after : State
  after = after_commit before commit.label commit.access

  module _ (was other : Encoded) (counted_was : was.count ≡ count) (makes : MakesOf rules was before) (counted_other : other.count ≡ count)
      (also : MakesOf rules other before) (one two : List ℕ) (first : IsCutOff was count before counted_was makes commit one)
      (second : IsCutOff other count before counted_other also commit two) (in_step : MayFollow one two) where
    -- if a commit was cut off, the two stand together for what the first one stands for
    pub together : length one ≤ 2 ^ 62 → (state : State) → StandFor one state → StandTogether one two state
    together short state stands = elim first.either [
      | inl here ↦
          let same : state ≡ before = stands_one one state before (omega (arith, short)) stands here.1.stands in
          elim second.either [
            | inl there ↦ inl (record {
              stands = subst (StandFor two) (sym same) there.1.stands;
              counted = there.1.counted ∙ sym here.1.counted;
            })
            | inr there ↦
                let kept : first.encoded.count ≡ count = renewed_count was first.encoded before first.renews ∙ counted_was in
                let kept_too : second.encoded.count ≡ count = renewed_count other second.encoded before second.renews ∙ counted_other in
                absurd (never_in_step count _ _ _ _ here.0 there.2 kept (ap next kept_too) in_step.step)
          ]
      | inr here ↦
          let same : state ≡ after = stands_one one state after (omega (arith, short)) stands here.3.stands in
          elim second.either [
            | inl there ↦ inr (record {
              encoded = first.encoded;
              body = here.0;
              before = before;
              change = commit;
              is = here.2;
              makes = renewed_makes was count before counted_was makes first.encoded first.renews;
              next = here.1;
              follows = follows;
              after = same;
              other = record {
                stands = there.1.stands;
                counted = there.1.counted ∙ sym (renewed_count was first.encoded before first.renews ∙ counted_was);
              };
            })
            | inr there ↦ inl (record {
              stands = subst (StandFor two) (sym same) there.3.stands;
              counted = there.3.counted ∙ sym here.3.counted;
            })
          ]
    ]

-- ---- two disks while a commit is made, or was cut off

module _ (count : ℕ) (before : State) (commit : Commit) (can : CanFollow before commit.label commit.access) where
  pub cut_starts : (was other : Encoded) (ones others : List ℕ → Type 0) → was.count ≡ count → MakesOf rules was before
      → other.count ≡ count → MakesOf rules other before → EachGoes rules ones was before commit → EachGoes rules others other before commit
      → EachFollows ones others → EachStarts ones others
  cut_starts was other ones others counted_was makes counted_other also goes second_goes follows = record {
    each = λ one two left right.
        let in_step = follows.each one two left right in
        record {
          follows = in_step;
          together = together count before commit can was other counted_was makes counted_other also one two
              (cut_off was count before counted_was makes commit can goes one left)
              (cut_off other count before counted_other also commit can second_goes two right) in_step;
        };
  }

-- ---- two disks that stand for one state

module _ (count : ℕ) (was other : Encoded) (now : State) (ones others : List ℕ → Type 0) (counted_was : was.count ≡ count)
    (counted_other : other.count ≡ count) (stays : EachStays ones count was now) (also : EachStays others count other now) where
  stays_count : (images : List ℕ → Type 0) (e : Encoded) → e.count ≡ count → EachStays images count e now
      → Each (HasCount header count) images
  stays_count images e is it = record {
    each = λ image left.
        let here = it.encodes image left in
        (here.0, here.1, renewed_count e here.0 now here.2 ∙ is);
  }

  pub stays_follow : EachFollows ones others
  stays_follow = record {
    each = λ one two left right. record {
      step = (counts_in_step header count ones others (stays_count ones was counted_was stays)
          (stays_count others other counted_other also)).each one two left right;
      behind = λ body. (counts_again header count ones others (stays_count ones was counted_was stays)
          (stays_count others other counted_other also) body).each one two left right;
    };
  }

  pub stays_starts : EachStarts ones others
  stays_starts = record {
    each = λ one two left right. record {
      follows = stays_follow.each one two left right;
      together = λ short state stands.
          let here = stays.stands.each one left in
          let there = also.stands.each two right in
          let same : state ≡ now = stands_one one state now (omega (arith, short)) stands here.stands in
          inl (record { stands = subst (StandFor two) (sym same) there.stands; counted = there.counted ∙ sym here.counted });
    };
  }

-- ---- two images, by what they stand for

counted_makes : (d : Decoded) (now : State) → MakesBy rules d now → counted d ≡ Some (state_in d).count
counted_makes (Encodes encoded) now makes = refl
counted_makes NotStarted now makes = refl
counted_makes Foreign now makes = absurd makes
counted_makes (Damaged at) now makes = absurd makes

counted_stands : (bytes : List ℕ) (now : State) → StandFor bytes now → counted (decoded header bytes) ≡ Some (records_in bytes)
counted_stands bytes now stands =
    subst (λ (d : Decoded). counted d ≡ Some (state_in d).count) (sym stands.is) (counted_makes stands.decoding now stands.makes)

-- both stand for one state
pub stand_starts : (one other : List ℕ) (count : ℕ) (now : State) → StandWith rules one count now → StandWith rules other count now
    → MayStart one other
stand_starts one other count now here there = record {
  follows = record {
    step = record {
      first = records_in one;
      second = records_in other;
      first_is = counted_stands one now here.stands;
      second_is = counted_stands other now there.stands;
      step = follows_same (records_in one) (records_in other) (here.counted ∙ sym there.counted);
    };
    behind = λ body s t first_is second_is next_one.
        let left : count ≡ s.count = sym here.counted ∙ start_count body (decoded header one) s first_is in
        let right : count ≡ t.count = sym there.counted ∙ start_count body (decoded header other) t second_is in
        absurd (no_next t.count (sym right ∙ left ∙ next_one));
  };
  together = λ short state stands.
      let same : state ≡ now = stands_one one state now (omega (arith, short)) stands here.stands in
      inl (record { stands = subst (StandFor other) (sym same) there.stands; counted = there.counted ∙ sym here.counted });
}

-- the second stands for the state before the first one's last record
pub lacks_starts : (one other : List ℕ) (now : State) → StandFor one now → durable.LacksLast rules one other now → MayFollow one other
    → MayStart one other
lacks_starts one other now here lacks in_step = record {
  follows = in_step;
  together = λ short state stands.
      let same : state ≡ now = stands_one one state now (omega (arith, short)) stands here in
      inr (subst (durable.LacksLast rules one other) (sym same) lacks);
}

-- ---- a store under which nothing is under way

module _ {D : Type 0} (medium : Medium D) (store : Store D) (synced : IsSynced medium store) where
  pub synced_starts : If (λ s. EachStarts (medium.may_leave (disk_of store)) (images_of medium s)) (second_of store)
  synced_starts =
      if_both (λ s. EachStays (images_of medium s) (count_of store) (state_on medium s) (state_of store))
      (λ s. (state_on medium s).count ≡ count_of store)
      (λ s. EachStarts (medium.may_leave (disk_of store)) (images_of medium s))
      (λ s stays count. stays_starts (count_of store) (encoded_on medium store) (state_on medium s) (state_of store)
      (medium.may_leave (disk_of store)) (images_of medium s) (store_counted medium store synced) count (store_stays medium store synced)
      stays)
      (second_of store) (second_stays medium store synced) (second_counted medium store synced)

  pub store_follows : If (λ s. EachFollows (medium.may_leave (disk_of store)) (images_of medium s)) (second_of store)
  store_follows =
      if_both (λ s. EachStays (images_of medium s) (count_of store) (state_on medium s) (state_of store))
      (λ s. (state_on medium s).count ≡ count_of store)
      (λ s. EachFollows (medium.may_leave (disk_of store)) (images_of medium s))
      (λ s stays count. stays_follow (count_of store) (encoded_on medium store) (state_on medium s) (state_of store)
      (medium.may_leave (disk_of store)) (images_of medium s) (store_counted medium store synced) count (store_stays medium store synced)
      stays)
      (second_of store) (second_stays medium store synced) (second_counted medium store synced)

  abbrev IsKept : Slots D → Type 0
  IsKept s = ((state_on medium s).count ≡ count_of store) × MakesOf rules (state_on medium s) (state_of store)

  -- whatever became of a commit
  pub noted_starts : (commit : Commit) → CanFollow (state_of store) commit.label commit.access → (first : Slots D)
      (second : Option (Slots D)) → EachGoes rules (images_of medium first) (encoded_on medium store) (state_of store) commit
      → Changes (λ was now. EachGoes rules (images_of medium now) (state_on medium was) (state_of store) commit) (second_of store) second
      → If (λ s. EachFollows (images_of medium first) (images_of medium s)) second
      → If (λ s. EachStarts (images_of medium first) (images_of medium s)) second
  noted_starts commit can first second goes second_goes follows =
      if_both
      (λ s. EachFollows (images_of medium first) (images_of medium s) → EachStarts (images_of medium first) (images_of medium s))
      (λ s. EachFollows (images_of medium first) (images_of medium s))
      (λ s. EachStarts (images_of medium first) (images_of medium s)) (λ s so follow. so follow) second
      (changes_from IsKept
      (λ s. EachFollows (images_of medium first) (images_of medium s) → EachStarts (images_of medium first) (images_of medium s))
      (λ was now. EachGoes rules (images_of medium now) (state_on medium was) (state_of store) commit)
      (λ was now both goes_too follow.
      cut_starts (count_of store) (state_of store) commit can (encoded_on medium store) (state_on medium was) (images_of medium first)
      (images_of medium now) (store_counted medium store synced) synced.makes both.0 both.1 goes goes_too follow)
      (second_of store) second
      (if_both (λ s. (state_on medium s).count ≡ count_of store) (λ s. MakesOf rules (state_on medium s) (state_of store)) IsKept
      (λ s count makes. (count, makes)) (second_of store) (second_counted medium store synced) synced.also)
      second_goes) follows
