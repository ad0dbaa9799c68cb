-- How a run of the program ends.
use Rattle.std.specs.Prelude.{◌≡◌, ◌⊎◌, ℕ, false, List, [], Option, None, Some}
use Rattle.iot_event.specs.declared.event.Event.{Event}
use Rattle.iot_machine.specs.Machine.{Machine}
use Rattle.iot_machine.specs.Nodes.{Counts}
use Rattle.iot_words.specs.Jobs.{job_of}
use Rattle.iot_words.specs.declared.jobs.Job.{Job}
use Rattle.iot_words.specs.declared.jobs.Job.TheVariants.{Run as Does, Image, Upgrade, Audit}
use Rattle.iot_words.specs.declared.jobs.Run.{Run}
use Rattle.iot_app.specs.Audits.{Audited}
use Rattle.iot_app.specs.Doing.{Did}
use Rattle.iot_app.specs.Images.{Showed}
use Rattle.iot_app.specs.Input.{TookSome, IsRefused}
use Rattle.iot_app.specs.Outputs.{is_generated, GivesEvents}
use Rattle.iot_app.specs.Played.{WroteFront}
use Rattle.iot_app.specs.Refusals.{usage_line}
use Rattle.iot_app.specs.declared.image.Telling.{Telling}
use Rattle.iot_app.specs.declared.image.Telling.TheVariants.{Text, Disk}
use Rattle.iot_app.specs.declared.input.TheConstants.{INPUT_LIMIT}
use Rattle.iot_app.specs.declared.status.Status.{Status}
use Rattle.iot_app.specs.declared.status.Status.TheVariants.{Done, Refused, Usage, ReadFailed, WriteFailed, NoMemory, SaveFailed}

-- What can be seen of a run but for its words: which bytes were taken from the source, and whether nothing is left there; which bytes
-- were written to the sink; what the disks counted that were handed in; whether they hold and have counted now what a machine has, or do
-- but for a failed read of its server's own, or are as they may be if memory ran out with these events left; what that one reads as;
-- whether they are as they were.
pub record Effects : Type 1 where
  pub took : List ℕ → Type 0
  pub at_end : Type 0
  pub wrote : List ℕ → Type 0
  pub handed : List Counts
  pub holds : Machine → Type 0
  pub unread : Machine → Type 0
  pub stays : List Event → Machine → Type 0
  pub disk : Machine → List ℕ
  pub untouched : Type 0

-- nothing was read and no event was done, and this was written
pub record DidNothing (it : Effects) (written : Type 0) : Type 0 where
  pub unread : it.took []
  pub undone : it.untouched
  pub wrote : written

-- the input was read in part, no event was done, and nothing was written
pub record ReadInPart (it : Effects) (run : Run) : Type 0 where
  pub reads : is_generated run ≡ false
  pub some : TookSome INPUT_LIMIT it.took
  pub undone : it.untouched
  pub written : it.wrote []

-- the input is refused: no event was done, and so much was written of the line that says why
pub record OnRefusal (it : Effects) (wrote : List ℕ → Type 0) (run : Run) : Type 0 where
  pub reads : is_generated run ≡ false
  pub text : List ℕ
  pub refused : IsRefused it.took it.at_end text
  pub undone : it.untouched
  pub written : wrote text

-- the run has these events, and of them and their output that much was done
pub record OnEvents (it : Effects) (run : Run) (status : Status) : Type 0 where
  pub events : List Event
  pub given : GivesEvents run it.took it.at_end events
  pub did : Did it.handed it.wrote it.holds it.stays it.unread it.disk run status events

-- how a run ends that does events
abbrev pub RunEnds : Effects → Run → Status → Type 0
RunEnds it run Done = OnEvents it run Done
RunEnds it run Refused = OnRefusal it it.wrote run
RunEnds it run Usage = ⊥
RunEnds it run ReadFailed = ReadInPart it run
RunEnds it run WriteFailed = OnRefusal it (WroteFront it.wrote) run ⊎ OnEvents it run WriteFailed
RunEnds it run NoMemory = DidNothing it (it.wrote []) ⊎ ReadInPart it run ⊎ OnEvents it run NoMemory
RunEnds it run SaveFailed = OnEvents it run SaveFailed

-- how one ends that writes an image so
pub record ImageEnds (telling : Telling) (it : Effects) (status : Status) : Type 0 where
  pub undone : it.untouched
  pub showed : Showed it.took it.at_end telling it.wrote status

-- how one ends that audits an image
pub record AuditEnds (it : Effects) (status : Status) : Type 0 where
  pub undone : it.untouched
  pub audited : Audited it.took it.at_end it.wrote status

-- how one ends whose words name this job
abbrev pub JobEnds : Effects → Job → Status → Type 0
JobEnds it (Does run) status = RunEnds it run status
JobEnds it Image status = ImageEnds Text it status
JobEnds it Upgrade status = ImageEnds Disk it status
JobEnds it Audit status = AuditEnds it status

-- and one whose words name none
abbrev pub UsageEnds : Effects → Status → Type 0
UsageEnds it Usage = DidNothing it (it.wrote usage_line)
UsageEnds it WriteFailed = DidNothing it (WroteFront it.wrote usage_line)
UsageEnds it NoMemory = DidNothing it (it.wrote [])
UsageEnds it status = ⊥

abbrev pub EndsBy : Option Job → Effects → Status → Type 0
EndsBy None it status = UsageEnds it status
EndsBy (Some job) it status = JobEnds it job status

-- how a run with these words ends
abbrev pub Ends : (words : List (List ℕ)) → Effects → Status → Type 0
Ends words it status = EndsBy (job_of words) it status
