-- Commits, as they are copied out of requests.
use Rattle.iot_store.specs.declared.commit.Commit.{Commit}
use Rattle.iot_wire.specs.Submissions.{Submission}

abbrev pub commit_of : Submission → Commit
commit_of asked = record { label = asked.0; access = asked.1.0; lines = asked.1.1 }
