-- What a request leaves of a store's disks that appends nothing, and one whose commit was cut off.
use Rattle.std.proofs.Common.{◌≡◌, inl, inr, ℕ, List, Option, None, Result, Ok, Err, refl, sym, subst}
use Rattle.std.specs.Prelude.{IsErrAnd, IsErrOf}
use Rattle.iot_backup.specs.Parts.{Changes, CountsBoth, If}
use Rattle.iot_disk.specs.Disk.{Medium}
use Rattle.iot_disk.specs.declared.faults.JournalFault.{JournalFault}
use Rattle.iot_disk.specs.declared.faults.JournalFault.TheVariants as journal
use Rattle.iot_durable.specs.Durable.{images_of}
use Rattle.iot_server.specs.Faults.{LacksMemory, Leaves}
use Rattle.iot_server.proofs.FaultsLaws.{asked_by, lacked_by}
use Rattle.iot_slots.specs.Slots.{disk_of as disk_on, state_on}
use Rattle.iot_slots.specs.declared.slots.Slots.{Slots}
use Rattle.iot_store.specs.Standing.{EachStands, EachStarts, EachStays}
use Rattle.iot_store.specs.Store.{IsSynced, count_of, disk_of, encoded_on, first_of, second_of, state_of}
use Rattle.iot_store.specs.declared.store.Store.{Store}
use Rattle.iot_store.proofs.NotingLaws.{counts_still, none_rose, second_still_stands, second_still_stays}
use Rattle.iot_store.proofs.PartsLaws.{changes_same}
use Rattle.iot_store.proofs.RestartLaws.{synced_starts}
use Rattle.iot_store.proofs.StandingLaws.{store_stays}
use Rattle.iot_wire.specs.declared.requests.Request.{Request}

-- ---- a fault that is handed on

module _ {T U : Type 0} (inner : Result U JournalFault) where
  pub err_by : (outer : Result T JournalFault) (fault which : JournalFault) → inner ≡ Err fault
      → IsErrAnd outer (λ named. named ≡ fault) → IsErrOf outer which → IsErrOf inner which
  err_by (Ok value) fault which was is handed = absurd is
  err_by (Err named) fault which was is handed = cc

  pub counts_by : {D : Type 0} (medium : Medium D) (outer : Result T JournalFault) (fault : JournalFault) (old new : Slots D)
      (other_old other_new : Option (Slots D)) → inner ≡ Err fault → IsErrAnd outer (λ named. named ≡ fault)
      → CountsBoth medium inner old new other_old other_new → CountsBoth medium outer old new other_old other_new
  counts_by medium (Ok value) fault old new other_old other_new was is it = absurd is
  counts_by medium (Err named) fault old new other_old other_new was is it =
      subst (λ f. CountsBoth {T = T} medium (Err f) old new other_old other_new) (sym is)
      (by fault (subst (λ (r : Result U JournalFault). CountsBoth medium r old new other_old other_new) was it))
    where
      by : (fault : JournalFault) → CountsBoth {T = U} medium (Err fault) old new other_old other_new
          → CountsBoth {T = T} medium (Err fault) old new other_old other_new
      by journal.NoMemory it = it
      by journal.Stopped it = it

-- ---- a store under which nothing is under way

module _ {D : Type 0} (medium : Medium D) (store : Store D) (synced : IsSynced medium store) (Asks : Request → Type 0) (new : Store D)
    (first : first_of new ≡ first_of store) (second : second_of new ≡ second_of store) where
  pub still_lacks : LacksMemory medium Asks store new
  still_lacks =
      let stays : EachStays (medium.may_leave (disk_of new)) (count_of store) (encoded_on medium store) (state_of store) =
      subst (λ (s : Slots D). EachStays (images_of medium s) (count_of store) (encoded_on medium store) (state_of store)) (sym first)
      (store_stays medium store synced) in
      record {
        alone = λ _. stays;
        either = inl (record {
          first = stays;
          second = subst
              (λ (o : Option (Slots D)).
              Changes (λ was now. EachStays (images_of medium now) (count_of store) (state_on medium was) (state_of store))
              (second_of store) o) (sym second) (second_still_stays medium store synced);
        });
        second = subst (λ (o : Option (Slots D)). If (λ s. EachStands (images_of medium s) (count_of store) (state_of store)) o)
            (sym second) (second_still_stands medium store synced);
      }

  pub still_starts : If (λ s. EachStarts (medium.may_leave (disk_of new)) (images_of medium s)) (second_of new)
  still_starts =
      subst (λ (s : Slots D). If (λ t. EachStarts (images_of medium s) (images_of medium t)) (second_of new)) (sym first)
      (subst (λ (o : Option (Slots D)). If (λ t. EachStarts (images_of medium (first_of store)) (images_of medium t)) o) (sym second)
      (synced_starts medium store synced))

  still_arms : medium.arms (disk_of new) ≡ medium.arms (disk_of store)
  still_arms = subst (λ (s : Slots D). medium.arms (disk_on s) ≡ medium.arms (disk_of store)) (sym first) refl

  still_second_arms : Changes (λ was now. medium.arms (disk_on now) ≡ medium.arms (disk_on was)) (second_of store) (second_of new)
  still_second_arms =
      subst (λ (o : Option (Slots D)). Changes (λ was now. medium.arms (disk_on now) ≡ medium.arms (disk_on was)) (second_of store) o)
      (sym second) (changes_same _ (λ _. refl) (second_of store))

  still_counts : {T : Type 0} (result : Result T JournalFault)
      → CountsBoth medium result (first_of store) (first_of store) (second_of store) (second_of store)
      → CountsBoth medium result (first_of store) (first_of new) (second_of store) (second_of new)
  still_counts result it =
      subst (λ (s : Slots D). CountsBoth medium result (first_of store) s (second_of store) (second_of new)) (sym first)
      (subst (λ (o : Option (Slots D)). CountsBoth medium result (first_of store) (first_of store) (second_of store) o) (sym second) it)

  -- with an answer
  pub leaves_still : {T : Type 0} (value : T) → Leaves medium Asks (Ok value) store new
  leaves_still value = record {
    stopped = λ is. absurd cc;
    no_memory = λ is. absurd cc;
    restarts = still_starts;
    faults = still_counts (Ok value) (none_rose medium (first_of store) (second_of store));
    arms = still_arms;
    second_arms = still_second_arms;
  }

  -- without memory
  pub leaves_lacking : {T : Type 0} (result : Result T JournalFault) → IsErrAnd result (λ fault. fault ≡ journal.NoMemory)
      → Leaves medium Asks result store new
  leaves_lacking result is = record {
    stopped = λ stopped. absurd (not_both result is stopped);
    no_memory = λ _. still_lacks;
    restarts = still_starts;
    faults = still_counts result (counts_still medium result (first_of store) (second_of store) is);
    arms = still_arms;
    second_arms = still_second_arms;
  }
    where
      not_both : {T : Type 0} (result : Result T JournalFault) → IsErrAnd result (λ fault. fault ≡ journal.NoMemory)
          → IsErrOf result journal.Stopped → ⊥
      not_both (Ok value) is stopped = absurd is
      not_both (Err fault) is stopped = cc

-- what is said of an equal request
pub leaves_as : {D T : Type 0} {medium : Medium D} {Asks AsksToo : Request → Type 0} {result : Result T JournalFault} {old new : Store D}
    → ((request : Request) → Asks request → AsksToo request) → Leaves medium Asks result old new → Leaves medium AsksToo result old new
leaves_as asks it = record {
  stopped = λ is. asked_by asks (it.stopped is);
  no_memory = λ is. lacked_by asks (it.no_memory is);
  restarts = it.restarts;
  faults = it.faults;
  arms = it.arms;
  second_arms = it.second_arms;
}
