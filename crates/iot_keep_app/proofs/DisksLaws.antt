-- What a server that has one disk does to it.
use Rattle.std.proofs.Common.{◌≡◌, ℕ, List, Result, Ok, Err, subst}
use Rattle.iot_disk.specs.Disk.{Medium}
use Rattle.iot_server.proofs.AloneLaws.{alone_counts}
use Rattle.iot_server.specs.Faults.{CountsServerFault, CountsServerFaults, CutsOff}
use Rattle.iot_server.specs.Servers as servers
use Rattle.iot_server.specs.declared.fault.ServerFault.{ServerFault}
use Rattle.iot_server.specs.declared.server.Server.{Server}
use Rattle.iot_wire.specs.Messages.{IsMessage}
use Rattle.iot_wire.specs.Rules.{IsRequest}
use Rattle.iot_wire.specs.Spelling.{request_spelling}
use Rattle.iot_keep_app.specs.Frames.{WriteEnds}
use Rattle.iot_keep_app.specs.Serving.{IsInDoubt, kept_on}
use Rattle.iot_keep_app.specs.Status.{DiskCounts}
use Rattle.iot_keep_app.specs.declared.fault.ServeFault.{ServeFault}
use Rattle.iot_keep_app.specs.declared.fault.ServeFault.TheVariants.{NoMemory, Foreign, Damaged, Stopped, ReadFailed, Cut}
use Rattle.iot_keep_app.specs.declared.fault.ServeFault.TheVariants.{TooLong, WriteFailed, TooMany}

-- however writing ends, no disk fails in it
pub written_steady : {T : Type 0} (wrote : List ℕ → Type 0) (text : List ℕ) (result : Result T ServeFault) (before now : ℕ)
    → WriteEnds wrote text result → now ≡ before → DiskCounts result (record { before = before; after = now })
written_steady wrote text (Ok done) before now ends same = same
written_steady wrote text (Err WriteFailed) before now ends same = same
written_steady wrote text (Err Stopped) before now ends same = absurd ends
written_steady wrote text (Err NoMemory) before now ends same = absurd ends
written_steady wrote text (Err ReadFailed) before now ends same = absurd ends
written_steady wrote text (Err Foreign) before now ends same = absurd ends
written_steady wrote text (Err (Damaged at)) before now ends same = absurd ends
written_steady wrote text (Err Cut) before now ends same = absurd ends
written_steady wrote text (Err TooLong) before now ends same = absurd ends
written_steady wrote text (Err TooMany) before now ends same = absurd ends

module _ {D : Type 0} (medium : Medium D) (old new : Server D) where
  pub in_doubt : (request : List ℕ) → CutsOff medium (IsMessage IsRequest request_spelling request) old.store new.store
      → IsInDoubt (medium.may_leave (servers.disk_of new)) (kept_on medium old) request
  in_doubt request cut = record {
    count = servers.count_of old;
    label = cut.label;
    access = cut.access;
    lines = cut.lines;
    asked = cut.asked;
    follows = cut.follows;
    either = cut.either;
    encodes = cut.encodes;
  }

  -- by the fault that it is
  pub counts_as : (fault which : ServerFault) → fault ≡ which → servers.IsAlone old
      → CountsServerFaults {T = ℕ} medium (Err fault) old.store new.store
      → CountsServerFault {T = ℕ} (Err which) (medium.faults (servers.disk_of old)) (medium.faults (servers.disk_of new))
  counts_as fault which is alone counts =
      let result : Result ℕ ServerFault = Err which in
      alone_counts medium old.store new.store result alone
      (subst (λ f. CountsServerFaults {T = ℕ} medium (Err f) old.store new.store) is counts)
