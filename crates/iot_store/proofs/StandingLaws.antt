-- For which state bytes stand: for one at most; and for which they stand after a commit.
use Rattle.std.proofs.Common.{◌≡◌, ◌<◌, ◌⊎◌, ◌^◌, inl, inr, ℕ, List, length, Option, Some, None, sym, ap, ◌∙◌, subst, arith}
use Rattle.iot_backup.specs.Parts.{If}
use Rattle.iot_disk.specs.Disk.{Medium}
use Rattle.iot_durable.specs.Durable.{images_of}
use Rattle.iot_durable.specs.Standing.{EachGoes, IsNext, IsRenewed, MakesOf, StandWith}
use Rattle.iot_durable.proofs.OneLaws as durable
use Rattle.iot_durable.proofs.ImagesLaws.{idle_stays, makes_push, makes_whole, one_makes}
use Rattle.iot_slots.specs.Cells.{next}
use Rattle.iot_slots.specs.Decoding.{Encodes, State as Encoded, decoded, state_of as state_in}
use Rattle.iot_slots.specs.Slots.{appended, state_on}
use Rattle.iot_slots.specs.Slots as slots
use Rattle.iot_slots.specs.declared.slots.Slots.{Slots}
use Rattle.iot_store.specs.Rules.{header, rules}
use Rattle.iot_store.specs.Standing.{EachStays, IsGrown, StandFor}
use Rattle.iot_store.specs.States.{State, CanFollow, after_commit}
use Rattle.iot_store.specs.Store.{IsSynced, count_of, disk_of, encoded_on, first_of, second_of, state_of}
use Rattle.iot_store.specs.declared.commit.Commit.{Commit}
use Rattle.iot_store.specs.declared.store.Store.{Store}
use Rattle.iot_store.proofs.BodiesLaws.{body_one}
use Rattle.iot_store.proofs.PartsLaws.{if_both}
use Rattle.iot_store.proofs.RecordsLaws.{record_alone}

-- bytes stand for one state
pub stands_one : (bytes : List ℕ) (a b : State) → length bytes < 2 ^ 64 → StandFor bytes a → StandFor bytes b → a ≡ b
stands_one = durable.stands_one rules body_one record_alone

-- ---- a store under which nothing is under way

module _ {D : Type 0} (medium : Medium D) (store : Store D) (synced : IsSynced medium store) where
  pub store_decoded : decoded header (medium.reads (disk_of store)) ≡ Encodes (encoded_on medium store)
  store_decoded =
      ap (λ (h : List ℕ). decoded h (medium.reads (disk_of store))) (sym synced.header_is) ∙ synced.disks.first.encodes

  -- its first disk stands for its state
  pub store_stays : EachStays (medium.may_leave (disk_of store)) (count_of store) (encoded_on medium store) (state_of store)
  store_stays =
      idle_stays rules _ _ _ _ _ _ synced.header_is synced.disks.first.only synced.disks.first.encodes
      (sym synced.disks.first.layout.count) synced.makes

  -- and for no other
  pub store_alone : (state : State) → StandFor (medium.reads (disk_of store)) state → state ≡ state_of store
  store_alone state it =
      stands_one (medium.reads (disk_of store)) state (state_of store) (omega (arith, synced.disks.first.layout.limit)) it
      (record { decoding = Encodes (encoded_on medium store); is = store_decoded; makes = synced.makes })

  -- so does its second disk, if it has one
  pub second_stays : If (λ s. EachStays (images_of medium s) (count_of store) (state_on medium s) (state_of store)) (second_of store)
  second_stays = by (second_of store) synced.disks.second synced.disks.header synced.disks.count synced.also
    where
      by : (second : Option (Slots D)) → If (slots.IsSynced medium) second
          → If (λ s. slots.header_of s ≡ slots.header_of (first_of store)) second
          → If (λ s. slots.count_of s ≡ slots.count_of (first_of store)) second
          → If (λ s. MakesOf rules (state_on medium s) (state_of store)) second
          → If (λ s. EachStays (images_of medium s) (count_of store) (state_on medium s) (state_of store)) second
      by None it head count makes = tt
      by (Some s) it head count makes =
          idle_stays rules _ _ _ _ _ _ (head ∙ synced.header_is) it.only it.encodes (sym it.layout.count ∙ count) makes

  pub second_alone : If (λ s. (state : State) → StandFor (medium.reads (slots.disk_of s)) state → state ≡ state_of store) (second_of store)
  second_alone = by (second_of store) synced.disks.second synced.disks.header synced.also
    where
      by : (second : Option (Slots D)) → If (slots.IsSynced medium) second
          → If (λ s. slots.header_of s ≡ slots.header_of (first_of store)) second
          → If (λ s. MakesOf rules (state_on medium s) (state_of store)) second
          → If (λ s. (state : State) → StandFor (medium.reads (slots.disk_of s)) state → state ≡ state_of store) second
      by None it head makes = tt
      by (Some s) it head makes = λ state stands.
          stands_one (medium.reads (slots.disk_of s)) state (state_of store) (omega (arith, it.layout.limit)) stands
          (record {
            decoding = Encodes (state_on medium s);
            is = ap (λ (h : List ℕ). decoded h (medium.reads (slots.disk_of s))) (sym (head ∙ synced.header_is)) ∙ it.encodes;
            makes = makes;
          })

  -- what both disks encode, by the names that the count has
  pub store_counted : (encoded_on medium store).count ≡ count_of store
  store_counted = sym synced.disks.first.layout.count

  pub second_counted : If (λ s. (state_on medium s).count ≡ count_of store) (second_of store)
  second_counted =
      if_both (slots.IsSynced medium) (λ s. slots.count_of s ≡ slots.count_of (first_of store))
      (λ s. (state_on medium s).count ≡ count_of store) (λ s it count. sym it.layout.count ∙ count) (second_of store) synced.disks.second
      synced.disks.count

-- a disk with the same bytes encodes the same
pub same_encoded : {D : Type 0} (medium : Medium D) (old new : Store D) → IsSynced medium old → IsSynced medium new
    → medium.reads (disk_of new) ≡ medium.reads (disk_of old) → encoded_on medium new ≡ encoded_on medium old
same_encoded medium old new before after same =
    ap state_in (sym (store_decoded medium new after) ∙ ap (decoded header) same ∙ store_decoded medium old before)

-- ---- after a commit

pub renewed_count : (was encoded : Encoded) (now : State) → IsRenewed rules was now encoded → encoded.count ≡ was.count
renewed_count was encoded now (inl same) = ap (λ (e : Encoded). e.count) same
renewed_count was encoded now (inr alone) = ap (λ (e : Encoded). e.count) alone.is

-- there is one record more
pub grown_count : (was : Encoded) (before : State) (commit : Commit) (now : Encoded) → IsGrown was before commit now
    → now.count ≡ next was.count
grown_count was before commit now it =
    ap (λ (e : Encoded). e.count) it.is ∙ ap next (renewed_count was it.mid before it.renews)

module _ (was : Encoded) (count : ℕ) (before : State) (counted : was.count ≡ count) (makes : MakesOf rules was before) where
  -- a checkpoint of the state alone makes the same
  pub renewed_makes : (encoded : Encoded) → IsRenewed rules was before encoded → MakesOf rules encoded before
  renewed_makes encoded (inl same) = subst (λ (e : Encoded). MakesOf rules e before) (sym same) makes
  renewed_makes encoded (inr alone) =
      subst (λ (e : Encoded). MakesOf rules e before) (sym alone.is) (makes_whole rules alone.body before alone.spells)

  -- an image of a commit that was cut off: what is encoded without its record, and for what that stands; and what with it
  pub record IsCutOff (commit : Commit) (image : List ℕ) : Type 0 where
    pub encoded : Encoded
    pub renews : IsRenewed rules was before encoded
    pub either : ((decoded header image ≡ Encodes encoded) × StandWith rules image count before)
        ⊎ ((body : List ℕ) × IsNext rules encoded body commit
        × (decoded header image ≡ Encodes (appended encoded body))
        × StandWith rules image (next count) (after_commit before commit.label commit.access))

  pub cut_off : (commit : Commit) → CanFollow before commit.label commit.access → {images : List ℕ → Type 0}
      → EachGoes rules images was before commit → (image : List ℕ) → images image → IsCutOff commit image
  cut_off commit follows goes image left =
      let it = goes.encodes image left in
      let kept : it.0.count ≡ count = renewed_count was it.0 before it.1 ∙ counted in
      let made : MakesOf rules it.0 before = renewed_makes it.0 it.1 in
      record {
        encoded = it.0;
        renews = it.1;
        either = elim it.2 [
          | inl here ↦ inl (here, one_makes rules image it.0 count before here kept made)
          | inr there ↦ inr (
            there.0,
            there.1,
            there.2,
            one_makes rules image (appended it.0 there.0) (next count) (after_commit before commit.label commit.access) there.2
                (ap next kept) (makes_push rules it.0 there.0 commit before made there.1 follows),
          )
        ];
      }
