-- How a job ends, by how its steps end.
use Rattle.std.proofs.Common.{◌≡◌, ℕ, false, List, [], Option, None, Some, refl, sym, subst, inl, inr, arith}
use Rattle.std.specs.Io.KnownBytes.{Consumes}
use Rattle.iot_count.specs.Counts.{Counted}
use Rattle.iot_io.specs.ReadAll.{Took}
use Rattle.iot_event.specs.declared.event.Event.{Event}
use Rattle.iot_words.specs.Jobs.{job_of}
use Rattle.iot_words.specs.declared.faults.WordsFault.{WordsFault}
use Rattle.iot_words.specs.declared.faults.WordsFault.TheVariants as words
use Rattle.iot_words.specs.declared.jobs.Job.{Job}
use Rattle.iot_words.specs.declared.jobs.Job.TheVariants.{Run as Does, Image, Upgrade, Audit}
use Rattle.iot_words.specs.declared.jobs.Run.{Run}
use Rattle.iot_words.specs.declared.jobs.Run.TheVariants.{Transcript, Json, Generate, Save}
use Rattle.iot_app.specs.Doing.{Did}
use Rattle.iot_app.specs.Endings.{Effects, DidNothing, ReadInPart, OnEvents, UsageEnds, RunEnds, ImageEnds, AuditEnds, JobEnds}
use Rattle.iot_app.specs.Endings.{EndsBy, Ends}
use Rattle.iot_app.specs.Input.{TookSome, IsRefused, too_long, no_script, TookFor}
use Rattle.iot_app.specs.Job.{TextEnds, whole, front, NothingEnds, RefusalEnds, WordsEnd, GivesNone}
use Rattle.iot_app.specs.Outputs.{is_generated, GivesEvents}
use Rattle.iot_app.specs.Played.{WroteFront}
use Rattle.iot_app.specs.Refusals.{usage_line, too_long_line, refusal_line}
use Rattle.iot_app.specs.declared.image.Telling.{Telling}
use Rattle.iot_app.specs.declared.image.Telling.TheVariants as tells
use Rattle.iot_app.specs.declared.input.TheConstants.{INPUT_LIMIT}
use Rattle.iot_app.specs.declared.input.InputFault.{InputFault}
use Rattle.iot_app.specs.declared.input.InputFault.TheVariants as inputs
use Rattle.iot_app.specs.declared.status.Status.{Status}
use Rattle.iot_app.specs.declared.status.Status.TheVariants as statuses

consumes_none : (left : Option (List ℕ)) → Consumes left left []
consumes_none None = tt
consumes_none (Some bytes) = refl

-- a source that was not touched gave nothing
pub took_none : {S : Type 0} (left : S → Option (List ℕ)) (taken : S → ℕ) (source : S) → Took left taken source source []
took_none left taken source = record { consumed = consumes_none (left source); counted = omega arith }

-- what holds of a status with which a text may end, by whether the text was cut
module _ (asked : Status) (text : List ℕ) (status : Status) (wrote : List ℕ → Type 0) (faults empties : Counted) where
  abbrev Text : Type 0
  Text = TextEnds asked text status wrote faults empties

  pub by_text : (P : Status → Type 0) → Text → (wrote text → P asked) → (WroteFront wrote text → P statuses.WriteFailed) → P status
  by_text P (whole is written faults_steady empties_steady) all some = subst P (sym is) (all written)
  by_text P (front is cut failed) all some = subst P (sym is) (some cut)

module _ (it : Effects) where
  -- ---- the words

  -- nothing was done for want of memory, whatever the words name
  shows_nothing : (telling : Telling) → DidNothing it (it.wrote []) → ImageEnds telling it statuses.NoMemory
  shows_nothing telling did = record {
    undone = did.undone;
    showed = record { some = record { front = []; taken = did.unread; within = omega arith }; written = did.wrote };
  }

  audits_nothing : DidNothing it (it.wrote []) → AuditEnds it statuses.NoMemory
  audits_nothing did = record {
    undone = did.undone;
    audited = record { some = record { front = []; taken = did.unread; within = omega arith }; written = did.wrote };
  }

  pub nothing_ends : (job : Option Job) → DidNothing it (it.wrote []) → EndsBy job it statuses.NoMemory
  nothing_ends None did = did
  nothing_ends (Some (Does run)) did = inl did
  nothing_ends (Some Image) did = shows_nothing tells.Text did
  nothing_ends (Some Upgrade) did = shows_nothing tells.Disk did
  nothing_ends (Some Audit) did = audits_nothing did

  nothing_did : (written : Type 0) → it.took [] → it.untouched → written → DidNothing it written
  nothing_did written none undone wrote = record { unread = none; undone = undone; wrote = wrote }

  usage_ends : (status : Status) (f e : Counted) → it.took [] → it.untouched
      → TextEnds statuses.Usage usage_line status it.wrote f e → UsageEnds it status
  usage_ends status f e none undone line =
      by_text statuses.Usage usage_line status it.wrote f e (UsageEnds it) line
      (λ written. nothing_did (it.wrote usage_line) none undone written)
      (λ written. nothing_did (WroteFront it.wrote usage_line) none undone written)

  -- the words name no job, or could not be read
  pub words_end : (fault : WordsFault) (job : Option Job) (status : Status) (f e : Counted) → (fault ≡ words.Refused → job ≡ None)
      → it.took [] → it.untouched → WordsEnd fault status it.wrote f e → EndsBy job it status
  words_end words.NoMemory job status f e refused none undone ends =
      subst (EndsBy job it) (sym ends.is) (nothing_ends job (nothing_did (it.wrote []) none undone ends.written))
  words_end words.Refused job status f e refused none undone ends =
      subst (λ (j : Option Job). EndsBy j it status) (sym (refused refl)) (usage_ends status f e none undone ends)

  -- the words name this job
  pub job_ends : (words : List (List ℕ)) (job : Job) (status : Status) → job_of words ≡ Some job → JobEnds it job status
      → Ends words it status
  job_ends words job status named ends = subst (λ (j : Option Job). EndsBy j it status) (sym named) ends

  -- ---- the events

  on_events : (job : Run) (status : Status) (events : List Event) → GivesEvents job it.took it.at_end events
      → Did it.handed it.wrote it.holds it.stays it.unread it.disk job status events → OnEvents it job status
  on_events job status events given did = record { events = events; given = given; did = did }

  pub events_end : (job : Run) (status : Status) (events : List Event) → GivesEvents job it.took it.at_end events
      → Did it.handed it.wrote it.holds it.stays it.unread it.disk job status events → RunEnds it job status
  events_end job statuses.Done events given did = on_events job statuses.Done events given did
  events_end job statuses.Refused events given did = absurd did
  events_end job statuses.Usage events given did = absurd did
  events_end job statuses.ReadFailed events given did = absurd did
  events_end job statuses.WriteFailed events given did = inr (on_events job statuses.WriteFailed events given did)
  events_end job statuses.NoMemory events given did = inr (inr (on_events job statuses.NoMemory events given did))
  events_end job statuses.SaveFailed events given did = on_events job statuses.SaveFailed events given did

  -- ---- no events

  module _ (job : Run) (reads : is_generated job ≡ false) where
    in_part : TookSome INPUT_LIMIT it.took → it.untouched → it.wrote [] → ReadInPart it job
    in_part some undone written = record { reads = reads; some = some; undone = undone; written = written }

    refusal_ends : (text : List ℕ) (status : Status) (f e : Counted) → IsRefused it.took it.at_end text → it.untouched
        → TextEnds statuses.Refused text status it.wrote f e → RunEnds it job status
    refusal_ends text status f e refused undone line =
        by_text statuses.Refused text status it.wrote f e (RunEnds it job) line
        (λ written. record { reads = reads; text = text; refused = refused; undone = undone; written = written })
        (λ written. inl (record { reads = reads; text = text; refused = refused; undone = undone; written = written }))

    read_ends : (fault : InputFault) (status : Status) (f e : Counted) → TookFor fault it.took it.at_end → it.untouched
        → RefusalEnds fault status it.wrote f e → RunEnds it job status
    read_ends inputs.NoMemory status f e took undone ends =
        subst (RunEnds it job) (sym ends.is) (inr (inl (in_part took undone ends.written)))
    read_ends inputs.Failed status f e took undone ends = subst (RunEnds it job) (sym ends.is) (in_part took undone ends.written)
    read_ends inputs.TooLong status f e took undone ends = refusal_ends too_long_line status f e (too_long took refl) undone ends
    read_ends (inputs.NoScript fault) status f e took undone (inl ends) =
        refusal_ends (refusal_line fault) status f e (no_script fault took refl) undone ends
    read_ends (inputs.NoScript fault) status f e took undone (inr ends) =
        let some : TookSome INPUT_LIMIT it.took = record { front = took.input; taken = took.taken; within = took.within } in
        subst (RunEnds it job) (sym ends.is) (inr (inl (in_part some undone ends.written)))

  generated_ends : (n : ℕ) (fault : InputFault) (status : Status) (f e : Counted) → GivesNone (Generate n) fault it.took it.at_end
      → it.untouched → RefusalEnds fault status it.wrote f e → RunEnds it (Generate n) status
  generated_ends n fault status f e none undone ends =
      let nothing : NothingEnds statuses.NoMemory status it.wrote f e =
      subst (λ (o : InputFault). RefusalEnds o status it.wrote f e) none.0 ends in
      subst (RunEnds it (Generate n)) (sym nothing.is) (inl (nothing_did (it.wrote []) none.1 undone nothing.written))

  -- the job has no events
  pub fault_ends : (job : Run) (fault : InputFault) (status : Status) (f e : Counted) → GivesNone job fault it.took it.at_end
      → it.untouched → RefusalEnds fault status it.wrote f e → RunEnds it job status
  fault_ends Transcript fault status f e none undone ends = read_ends Transcript refl fault status f e none undone ends
  fault_ends Json fault status f e none undone ends = read_ends Json refl fault status f e none undone ends
  fault_ends (Generate n) fault status f e none undone ends = generated_ends n fault status f e none undone ends
  fault_ends Save fault status f e none undone ends = read_ends Save refl fault status f e none undone ends
