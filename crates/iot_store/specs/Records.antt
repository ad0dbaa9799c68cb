-- The records on the server's disk: of each commit the request that asked for it.
use Rattle.std.specs.Prelude.{◌≡◌, ℕ, true, List, Option, Some, None}
use Rattle.std.specs.List.{AllByRecursion}
use Rattle.iot_slots.specs.declared.version.Version.{Version}
use Rattle.iot_slots.specs.declared.version.Version.TheVariants.{One, Two}
use Rattle.iot_tree.specs.declared.access.Access.{Access}
use Rattle.iot_tree.specs.declared.labels.Label.{Label}
use Rattle.iot_wire.specs.Messages.{IsMessage}
use Rattle.iot_wire.specs.Rules.{IsRequest}
use Rattle.iot_wire.specs.Spelling.{request_spelling}
use Rattle.iot_wire.specs.Submissions.{Submission}
use Rattle.iot_wire.specs.declared.requests.Request.TheVariants.{Commit as Asks}
use Rattle.iot_versions.specs.Values.{is_old_commit}
use Rattle.iot_store.specs.declared.commit.Commit.{Commit}

-- the record of a commit: the tag 2, its label, its access and its lines, as in the request
abbrev pub record_spelling : Label → Access → List (List ℕ) → List ℕ
record_spelling label access lines = request_spelling (Asks label access lines)

-- the body is the record of this commit
abbrev pub IsRecord : List ℕ → Label → Access → List (List ℕ) → Type 0
IsRecord body label access lines = IsMessage IsRequest request_spelling body (Asks label access lines)

-- the same in either version: version 1 has it only if it has a spelling for the commit
abbrev pub IsRecordIn : Version → List ℕ → Commit → Type 0
IsRecordIn One body commit =
    IsRecord body commit.label commit.access commit.lines × (is_old_commit commit.label commit.access ≡ true)
IsRecordIn Two body commit = IsRecord body commit.label commit.access commit.lines

-- each body is the record of a commit
abbrev pub AreRecords : Version → List (List ℕ) → Type 0
AreRecords version bodies = AllByRecursion (λ (body : List ℕ). (commit : Commit) × IsRecordIn version body commit) bodies

-- the commit that is submitted
abbrev pub commit_of : Submission → Commit
commit_of it = record { label = it.0; access = it.1.0; lines = it.1.1 }

-- what a body is decoded as: the submission whose record it is, or none if it is that of no commit
abbrev pub IsDecodedAs : Version → List ℕ → Option Submission → Type 0
IsDecodedAs version body (Some it) = IsRecordIn version body (commit_of it)
IsDecodedAs version body None = (commit : Commit) → IsRecordIn version body commit → ⊥
