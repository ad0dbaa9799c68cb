-- What is on the disks after a commit was noted, or was not.
use Rattle.std.proofs.Common.{◌≡◌, inl, ℕ, List, Result, Ok, Err, Option, Some, None, refl, sym, subst}
use Rattle.std.specs.Prelude.{IsErrAnd, IsErrOf}
use Rattle.iot_backup.specs.Parts.{Changes, CountsBoth, If, NoneRose}
use Rattle.iot_disk.specs.Disk.{Medium}
use Rattle.iot_disk.specs.declared.faults.JournalFault.{JournalFault}
use Rattle.iot_disk.specs.declared.faults.JournalFault.TheVariants as journal
use Rattle.iot_durable.specs.Durable.{images_of}
use Rattle.iot_durable.specs.Faults.{CountsNotes, journal_of}
use Rattle.iot_durable.specs.Standing.{EachGoes}
use Rattle.iot_durable.specs.declared.fault.NoteFault.{NoteFault}
use Rattle.iot_durable.specs.declared.fault.NoteFault.TheVariants as note
use Rattle.iot_slots.specs.Decoding.{State as Encoded}
use Rattle.iot_slots.specs.Slots.{state_on}
use Rattle.iot_slots.specs.declared.slots.Slots.{Slots}
use Rattle.iot_store.specs.Rules.{rules}
use Rattle.iot_store.specs.Standing.{EachStands, EachStandsEither, EachStays}
use Rattle.iot_store.specs.States.{State}
use Rattle.iot_store.specs.Store.{IsSynced, count_of, disk_of, encoded_on, second_of, state_of}
use Rattle.iot_store.specs.declared.commit.Commit.{Commit}
use Rattle.iot_store.specs.declared.store.Store.{Store}
use Rattle.iot_store.proofs.PartsLaws.{changes_same, changes_still, if_map}
use Rattle.iot_store.proofs.StandingLaws.{second_stays, store_stays}

-- ---- what stays

module _ (images : List ℕ → Type 0) (count : ℕ) (was : Encoded) (now : State) (stays : EachStays images count was now) where
  pub goes_from_stays : (commit : Commit) → EachGoes rules images was now commit
  goes_from_stays commit = record {
    encodes = λ image left. let e = stays.encodes image left in (e.0, e.2, inl e.1);
  }

  pub either_from_stays : (after : State) → EachStandsEither images count now after
  either_from_stays after = record { each = λ image left. inl (stays.stands.each image left) }

-- of an equal commit
pub goes_same : (images : List ℕ → Type 0) (was : Encoded) (now : State) (commit other : Commit) → commit ≡ other
    → EachGoes rules images was now commit → EachGoes rules images was now other
goes_same images was now commit other same goes = subst (λ c. EachGoes rules images was now c) same goes

-- a store that was left as it was
module _ {D : Type 0} (medium : Medium D) (store : Store D) (synced : IsSynced medium store) where
  pub still_either : (after : State)
      → EachStandsEither (medium.may_leave (disk_of store)) (count_of store) (state_of store) after
  still_either after = either_from_stays _ _ _ _ (store_stays medium store synced) after

  pub still_goes : (commit : Commit)
      → EachGoes rules (medium.may_leave (disk_of store)) (encoded_on medium store) (state_of store) commit
  still_goes commit = goes_from_stays _ _ _ _ (store_stays medium store synced) commit

  pub second_still_stays : Changes (λ was now. EachStays (images_of medium now) (count_of store) (state_on medium was) (state_of store))
      (second_of store) (second_of store)
  second_still_stays =
      changes_still (λ s. EachStays (images_of medium s) (count_of store) (state_on medium s) (state_of store)) _ (λ s it. it)
      (second_of store) (second_stays medium store synced)

  pub second_still_either : (after : State)
      → Changes (λ was now. EachStandsEither (images_of medium now) (count_of store) (state_of store) after)
      (second_of store) (second_of store)
  second_still_either after =
      changes_still (λ s. EachStays (images_of medium s) (count_of store) (state_on medium s) (state_of store)) _
      (λ s it. either_from_stays _ _ _ _ it after) (second_of store) (second_stays medium store synced)

  pub second_still_goes : (commit : Commit)
      → Changes (λ was now. EachGoes rules (images_of medium now) (state_on medium was) (state_of store) commit)
      (second_of store) (second_of store)
  second_still_goes commit =
      changes_still (λ s. EachStays (images_of medium s) (count_of store) (state_on medium s) (state_of store)) _
      (λ s it. goes_from_stays _ _ _ _ it commit) (second_of store) (second_stays medium store synced)

  pub second_still_stands : If (λ s. EachStands (images_of medium s) (count_of store) (state_of store)) (second_of store)
  second_still_stands =
      if_map (λ s. EachStays (images_of medium s) (count_of store) (state_on medium s) (state_of store)) _ (λ s it. it.stands)
      (second_of store) (second_stays medium store synced)

-- ---- a fault that is handed on

pub lacks_handed : {T U : Type 0} (noted : Result T NoteFault) (result : Result U JournalFault) (fault : NoteFault) → noted ≡ Err fault
    → IsErrAnd result (λ named. named ≡ journal_of fault) → IsErrOf result journal.NoMemory → IsErrOf noted note.NoMemory
lacks_handed noted (Ok value) fault was handed is = absurd handed
lacks_handed noted (Err named) note.NoMemory was handed is = was
lacks_handed noted (Err named) note.StoppedBefore was handed is = absurd cc
lacks_handed noted (Err named) note.StoppedInDoubt was handed is = absurd cc

-- ---- counts of faults

module _ {D : Type 0} (medium : Medium D) where
  pub none_rose : (one : Slots D) (other : Option (Slots D)) → NoneRose medium one one other other
  none_rose one other = (refl, changes_same _ (λ _. refl) other)

  -- memory ran out
  pub counts_still : {T : Type 0} (result : Result T JournalFault) (one : Slots D) (other : Option (Slots D))
      → IsErrAnd result (λ fault. fault ≡ journal.NoMemory) → CountsBoth medium result one one other other
  counts_still (Ok value) one other is = absurd is
  counts_still (Err journal.NoMemory) one other is = none_rose one other
  counts_still (Err journal.Stopped) one other is = absurd cc

  module _ (old new : Slots D) (other_old other_new : Option (Slots D)) (R : Slots D → Slots D → Type 0)
      (there : Changes R other_old other_new) where
    -- a commit was noted
    pub counts_made : CountsNotes {T = Unit {0}} medium (Ok tt) old new other_old other_new
        → CountsBoth {T = ℕ} medium (Ok 0) old new other_old other_new
    counts_made = by other_old other_new there
      where
        by : (was now : Option (Slots D)) → Changes R was now → CountsNotes {T = Unit {0}} medium (Ok tt) old new was now
            → CountsBoth {T = ℕ} medium (Ok 0) old new was now
        by None None there it = (it, tt)
        by None (Some now) there it = absurd there
        by (Some was) now there it = it

    -- by the fault that is handed on
    counts_fault : (fault : NoteFault) → CountsNotes {T = Unit {0}} medium (Err fault) old new other_old other_new
        → CountsBoth {T = ℕ} medium (Err (journal_of fault)) old new other_old other_new
    counts_fault fault = by fault other_old other_new there
      where
        by : (fault : NoteFault) (was now : Option (Slots D)) → Changes R was now
            → CountsNotes {T = Unit {0}} medium (Err fault) old new was now
            → CountsBoth {T = ℕ} medium (Err (journal_of fault)) old new was now
        by note.NoMemory None None there it = (it, tt)
        by note.NoMemory None (Some now) there it = absurd there
        by note.NoMemory (Some was) now there it = it
        by note.StoppedBefore None now there it = it
        by note.StoppedBefore (Some was) now there it = it
        by note.StoppedInDoubt None now there it = it
        by note.StoppedInDoubt (Some was) now there it = it

    pub counts_handed : {T U : Type 0} (noted : Result T NoteFault) (result : Result U JournalFault) (fault : NoteFault)
        → noted ≡ Err fault → IsErrAnd result (λ named. named ≡ journal_of fault)
        → CountsNotes medium noted old new other_old other_new → CountsBoth medium result old new other_old other_new
    counts_handed noted (Ok value) fault was is it = absurd is
    counts_handed {T = T} {U = U} noted (Err named) fault was is it =
        subst (λ f. CountsBoth {T = U} medium (Err f) old new other_old other_new) (sym is)
        (counts_fault fault
        (subst (λ (r : Result T NoteFault). CountsNotes medium r old new other_old other_new) was it))
