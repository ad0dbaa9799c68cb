-- Requests of which a commit is lent.
use Rattle.std.specs.Prelude.{◌≡◌, ℕ, List, Result, Ok, Err}
use Rattle.iot_views.specs.declared.parts.Malformed.{Malformed}
use Rattle.iot_wire.specs.Decoding.{commit_at}
use Rattle.iot_wire.specs.Submissions.{Submission}
use Rattle.iot_wire.specs.declared.requests.Request.{Request}
use Rattle.iot_wire.specs.declared.requests.Request.TheVariants.{Refresh, Commit, Walk}
use Rattle.iot_wire.specs.declared.lent.RequestView.{RequestView}
use Rattle.iot_wire.specs.declared.lent.RequestView.TheVariants as lent

-- a submission as a request
abbrev pub request_of : Submission → Request
request_of commit = Commit commit.0 commit.1.0 commit.1.1

-- the bytes spell this submission from the offset on
pub record IsCommitAt (bytes : List ℕ) (at : ℕ) (commit : Submission) : Type 0 where
  pub end : ℕ
  pub is : commit_at bytes at ≡ Ok (request_of commit, end)

-- a request of which a commit is lent, seen as the request
abbrev pub request_seen : RequestView → Request
request_seen (lent.Refresh client known want) = Refresh client known want
request_seen (lent.Commit commit) = request_of commit
request_seen (lent.Walk client profile limit) = Walk client profile limit

-- what is lent out of the whole input, seen as a value, is what was decoded; a fault is the first one
abbrev pub IsLentWhole : {V X : Type 0} → (V → X) → Result V Malformed → Result X ℕ → Type 0
IsLentWhole seen (Ok view) decoded = decoded ≡ Ok (seen view)
IsLentWhole seen (Err fault) decoded = decoded ≡ Err fault.at
