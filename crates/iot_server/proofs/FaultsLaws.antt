-- A fault of the disk that is handed on is the one that the server names.
use Rattle.std.proofs.Common.{◌≡◌, inl, inr, ℕ, List, sym, subst}
use Rattle.std.specs.Prelude.{IsErrOf, IsErrAnd, Result, Ok, Err}
use Rattle.iot_backup.specs.Parts.{CountsBoth}
use Rattle.iot_codec.specs.declared.faults.CodecFault.{CodecFault}
use Rattle.iot_codec.specs.declared.faults.CodecFault.TheVariants as codec
use Rattle.iot_disk.specs.Disk.{Medium}
use Rattle.iot_disk.specs.declared.faults.JournalFault.{JournalFault}
use Rattle.iot_disk.specs.declared.faults.JournalFault.TheVariants as journal
use Rattle.iot_server.specs.Faults.{CountsServerFaults, CutsOff, LacksMemory, of_codec, of_journal}
use Rattle.iot_server.specs.declared.fault.ServerFault.{ServerFault}
use Rattle.iot_server.specs.declared.fault.ServerFault.TheVariants.{NoMemory, Stopped}
use Rattle.iot_store.specs.Store.{first_of, second_of}
use Rattle.iot_store.specs.declared.store.Store.{Store}
use Rattle.iot_store.proofs.NotingLaws.{none_rose}
use Rattle.iot_wire.specs.declared.requests.Request.{Request}

module _ {T U : Type 0} (inner : Result U JournalFault) where
  pub stopped_by : (outer : Result T ServerFault) (fault : JournalFault) → inner ≡ Err fault
      → IsErrAnd outer (λ named. named ≡ of_journal fault) → IsErrOf outer Stopped → IsErrOf inner journal.Stopped
  stopped_by (Ok value) fault was is handed = absurd cc
  stopped_by (Err named) journal.Stopped was is handed = was
  stopped_by (Err named) journal.NoMemory was is handed = let same : named ≡ Stopped = cc in absurd cc

  pub lacking_by : (outer : Result T ServerFault) (fault : JournalFault) → inner ≡ Err fault
      → IsErrAnd outer (λ named. named ≡ of_journal fault) → IsErrOf outer NoMemory → IsErrOf inner journal.NoMemory
  lacking_by (Ok value) fault was is handed = absurd cc
  lacking_by (Err named) journal.NoMemory was is handed = was
  lacking_by (Err named) journal.Stopped was is handed = let same : named ≡ NoMemory = cc in absurd cc

module _ {D : Type 0} {medium : Medium D} {old new : Store D} {Asks AsksToo : Request → Type 0}
    (asks : (request : Request) → Asks request → AsksToo request) where
  -- what was cut off was asked for by these bytes too
  pub asked_by : CutsOff medium Asks old new → CutsOff medium AsksToo old new
  asked_by cut = record {
    label = cut.label;
    access = cut.access;
    lines = cut.lines;
    asked = asks _ cut.asked;
    follows = cut.follows;
    either = cut.either;
    encodes = cut.encodes;
    second_either = cut.second_either;
    second_encodes = cut.second_encodes;
  }

  pub lacked_by : LacksMemory medium Asks old new → LacksMemory medium AsksToo old new
  lacked_by it = record {
    alone = it.alone;
    either = elim it.either [ inl stays ↦ inl stays | inr cut ↦ inr (asked_by cut) ];
    second = it.second;
  }

module _ {D : Type 0} (medium : Medium D) where
  -- of the counts, by the fault that is handed on
  pub counts_named : {T U : Type 0} (inner : Result U JournalFault) (outer : Result T ServerFault) (old new : Store D)
      (fault : JournalFault) → inner ≡ Err fault → IsErrAnd outer (λ named. named ≡ of_journal fault)
      → CountsBoth medium inner (first_of old) (first_of new) (second_of old) (second_of new)
      → CountsServerFaults medium outer old new
  counts_named inner (Ok value) old new fault was is it = absurd is
  counts_named {T = T} {U = U} inner (Err named) old new fault was is it =
      subst (λ f. CountsServerFaults {T = T} medium (Err f) old new) (sym is)
      (by fault
      (subst (λ (r : Result U JournalFault). CountsBoth medium r (first_of old) (first_of new) (second_of old) (second_of new)) was it))
    where
      by : (fault : JournalFault)
          → CountsBoth {T = U} medium (Err fault) (first_of old) (first_of new) (second_of old) (second_of new)
          → CountsServerFaults {T = T} medium (Err (of_journal fault)) old new
      by journal.NoMemory it = it
      by journal.Stopped it = it

  -- bytes that are refused concern no disk
  pub counts_refused : {T : Type 0} (outer : Result T ServerFault) (store : Store D) (fault : CodecFault)
      → IsErrAnd outer (λ named. named ≡ of_codec fault) → CountsServerFaults medium outer store store
  counts_refused (Ok value) store fault is = absurd is
  counts_refused {T = T} (Err named) store fault is =
      subst (λ f. CountsServerFaults {T = T} medium (Err f) store store) (sym is) (by fault)
    where
      by : (fault : CodecFault) → CountsServerFaults {T = T} medium (Err (of_codec fault)) store store
      by codec.NoMemory = none_rose medium (first_of store) (second_of store)
      by (codec.Malformed at) = none_rose medium (first_of store) (second_of store)
