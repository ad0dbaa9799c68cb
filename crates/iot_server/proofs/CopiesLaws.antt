-- What is said of a copy of a commit is said of the commit that was lent.
use Rattle.std.proofs.Common.{◌≡◌, ℕ, Result, Ok, subst}
use Rattle.std.specs.Prelude.{IfOk, Vec}
use Rattle.std.specs.declared.alloc.Global.{Global}
use Rattle.iot_server.specs.Copies.{commit_of}
use Rattle.iot_disk.specs.Disk.{Medium}
use Rattle.iot_disk.specs.declared.faults.JournalFault.{JournalFault}
use Rattle.iot_server.specs.Faults.{Leaves}
use Rattle.iot_server.specs.Replies.{AreAnswered}
use Rattle.iot_store.specs.Rules.{IsCommit}
use Rattle.iot_store.specs.declared.commit.Commit.{Commit}
use Rattle.iot_store.specs.declared.store.Store.{Store}
use Rattle.iot_wire.specs.Lent.{request_of}
use Rattle.iot_wire.specs.Rules.{IsRequest}
use Rattle.iot_wire.specs.Submissions.{Submission}
use Rattle.iot_wire.specs.declared.requests.Request.{Request}
use Rattle.iot_wire.specs.declared.requests.Request.TheVariants.{Commit as Asks}

abbrev read_ok : Request → Result Request ℕ
read_ok request = Ok request

-- what a client asks for is a commit
pub is_commit : (asked : Submission) → IsRequest (request_of asked) → IsCommit (commit_of asked)
is_commit asked is = record { label = is.0; access = is.1.0; lines = is.1.1 }

module _ {D : Type 0} (medium : Medium D) (old new : Store D) where
  pub answered_as : {E : Type 0} (result : Result (Vec ℕ Global) E) (asked : Submission) (copy : Commit) → copy ≡ commit_of asked
      → IfOk result (λ bytes. AreAnswered medium (Asks copy.label copy.access copy.lines) bytes.items old new)
      → IfOk result (λ bytes. AreAnswered medium (request_of asked) bytes.items old new)
  answered_as result asked copy is answered =
      subst (λ (c : Commit). IfOk result (λ bytes. AreAnswered medium (Asks c.label c.access c.lines) bytes.items old new)) is answered

  pub left_as : {T : Type 0} (result : Result T JournalFault) (asked : Submission) (copy : Commit) → copy ≡ commit_of asked
      → Leaves medium (λ (request : Request). request ≡ Asks copy.label copy.access copy.lines) result old new
      → Leaves medium (λ (request : Request). request ≡ request_of asked) result old new
  left_as result asked copy is leaves =
      subst (λ (c : Commit). Leaves medium (λ (request : Request). request ≡ Asks c.label c.access c.lines) result old new) is leaves
