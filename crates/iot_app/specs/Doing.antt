-- What was done of the events of a job, and what was written, by the status that the job ends with. The first parameters are as for a
-- transcript; `unread m` says that the disks hold what this machine keeps, but that a read of the server's own has failed since; and
-- `disk m` is what that one reads as at the end.
use Rattle.std.specs.Prelude.{◌⊎◌, ℕ, List, []}
use Rattle.iot_event.specs.declared.event.Event.{Event}
use Rattle.iot_machine.specs.Machine.{Machine}
use Rattle.iot_machine.specs.Nodes.{Counts}
use Rattle.iot_words.specs.declared.jobs.Run.{Run}
use Rattle.iot_words.specs.declared.jobs.Run.TheVariants.{Transcript, Save}
use Rattle.iot_app.specs.Outputs.{output_of}
use Rattle.iot_app.specs.Played.{RanAll, Reported, WroteFront, DidFirst, WroteFirst, WroteCut, CutsOpening}
use Rattle.iot_app.specs.declared.status.Status.{Status}
use Rattle.iot_app.specs.declared.status.Status.TheVariants.{Done, WriteFailed, NoMemory, SaveFailed}

module _ (handed : List Counts) (wrote : List ℕ → Type 0) (holds : Machine → Type 0) (stays : List Event → Machine → Type 0)
    (unread : Machine → Type 0) (disk : Machine → List ℕ) where
  -- a write failed: of a transcript in the middle of a text, after which no event was done; else after all events
  abbrev pub CutsOutput : Run → List Event → Type 0
  CutsOutput Transcript = λ events. CutsOpening handed wrote holds ⊎ WroteCut handed wrote holds events
  CutsOutput job = Reported handed (WroteFront wrote) holds (output_of job disk)

  -- some events were done, and nothing was written
  pub record WritesNothing (events : List Event) : Type 0 where
    pub did : DidFirst handed stays events
    pub written : wrote []

  -- some events were done, of which only a transcript is written
  abbrev pub WritesSome : Run → List Event → Type 0
  WritesSome Transcript = WroteFirst handed wrote stays
  WritesSome job = WritesNothing

  -- all events were done, but the server's disk could not be read then, and nothing was written
  pub record SavesNothing (events : List Event) : Type 0 where
    pub ran : RanAll handed unread events
    pub written : wrote []

  abbrev pub FailsToSave : Run → List Event → Type 0
  FailsToSave Save = SavesNothing
  FailsToSave job = λ events. ⊥

  abbrev pub Did : Run → Status → List Event → Type 0
  Did job Done = Reported handed wrote holds (output_of job disk)
  Did job WriteFailed = CutsOutput job
  Did job NoMemory = WritesSome job
  Did job SaveFailed = FailsToSave job
  Did job status = λ events. ⊥
