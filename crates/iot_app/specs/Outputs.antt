-- What each job does, and what it writes.
use Rattle.std.specs.Prelude.{ℕ, Bool, true, false, List, []}
use Rattle.iot_event.specs.Events.{Gives, Events}
use Rattle.iot_event.specs.declared.event.Event.{Event}
use Rattle.iot_gen.specs.Generated.{generated}
use Rattle.iot_machine.specs.Json.{json_text}
use Rattle.iot_machine.specs.Machine.{Machine}
use Rattle.iot_machine.specs.Texts.{line}
use Rattle.iot_words.specs.declared.jobs.Run.{Run}
use Rattle.iot_words.specs.declared.jobs.Run.TheVariants.{Transcript, Json, Generate, Save}
use Rattle.iot_app.specs.Input.{TookInput}
use Rattle.iot_app.specs.Summary.{summary}

-- the whole output of a job, by the transcript of its run, the machine at its end, and the bytes that its server's disk reads as
abbrev pub output_of : Run → (disk : Machine → List ℕ) → (transcript : List ℕ) → Machine → List ℕ
output_of Transcript disk transcript m = transcript
output_of Json disk transcript m = line (json_text m)
output_of (Generate n) disk transcript m = summary transcript m
output_of Save disk transcript m = disk m

-- the job does not read the source
abbrev pub is_generated : Run → Bool
is_generated (Generate n) = true
is_generated other = false

-- the events of a job: those of the generated text, for which nothing is read, or those of the input
abbrev pub GivesEvents : Run → (took : List ℕ → Type 0) → (at_end : Type 0) → List Event → Type 0
GivesEvents (Generate n) took at_end events = took [] × Gives (generated n) (Events events)
GivesEvents other took at_end events = TookInput took at_end (Events events)
