-- How what a server keeps is kept behind checkpoints.
use Rattle.std.specs.Prelude.{ℕ, List, codes}
use Rattle.iot_views.specs.Rules.{AreLines, IsAccess, IsLabel}
use Rattle.iot_slots.specs.declared.version.Version.{Version}
use Rattle.iot_durable.specs.Rules.{Rules}
use Rattle.iot_store.specs.Bodies.{IsBody}
use Rattle.iot_store.specs.Records.{IsRecordIn}
use Rattle.iot_store.specs.States.{State, opening, CanFollow, after_commit}
use Rattle.iot_store.specs.declared.commit.Commit.{Commit}

-- what follows byte 0 of a server's disk
abbrev pub header : List ℕ
header = codes "IOTSLOT1"

-- the label, the access and the lines of the commit have spellings
pub record IsCommit (commit : Commit) : Type 0 where
  pub label : IsLabel commit.label
  pub access : IsAccess commit.access
  pub lines : AreLines commit.lines

-- the states are a server's, and what changes them are commits; the versions differ only in how both are spelled
abbrev pub rules : Version → Rules State Commit
rules version = record {
  header = header;
  opening = opening;
  IsBody = IsBody version;
  IsChange = IsCommit;
  IsRecord = IsRecordIn version;
  CanFollow = λ state commit. CanFollow state commit.label commit.access;
  after = λ state commit. after_commit state commit.label commit.access;
}
