-- How the steps of a run end, which `Endings` says of the whole.
use Rattle.std.specs.Prelude.{◌≡◌, ◌⊎◌, ℕ, List, []}
use Rattle.iot_count.specs.Counts.{Counted, HasRisen, IsSteady}
use Rattle.iot_words.specs.declared.faults.WordsFault.{WordsFault}
use Rattle.iot_words.specs.declared.faults.WordsFault.TheVariants as words
use Rattle.iot_words.specs.declared.jobs.Run.{Run}
use Rattle.iot_words.specs.declared.jobs.Run.TheVariants.{Generate}
use Rattle.iot_durable.specs.Damage.{IsDamagedAt}
use Rattle.iot_slots.specs.Decoding.{Foreign, decoded}
use Rattle.iot_store.specs.Rules.{header, rules}
use Rattle.iot_app.specs.Images.{Says, damaged_line, foreign_line}
use Rattle.iot_app.specs.Input.{TookFor}
use Rattle.iot_app.specs.Played.{WroteFront}
use Rattle.iot_app.specs.Refusals.{usage_line, too_long_line, refusal_line}
use Rattle.iot_app.specs.declared.image.Telling.{Telling}
use Rattle.iot_app.specs.declared.input.InputFault.{InputFault}
use Rattle.iot_app.specs.declared.input.InputFault.TheVariants as inputs
use Rattle.iot_app.specs.declared.status.Status.{Status}
use Rattle.iot_app.specs.declared.status.Status.TheVariants.{Done, Refused, Usage, ReadFailed, WriteFailed, NoMemory}

-- the text was written and the status is the one that was asked for, or a front of it was and a write failed
pub data TextEnds (asked : Status) (text : List ℕ) (status : Status) (wrote : List ℕ → Type 0) (faults empties : Counted) : Type 0 where
  whole : status ≡ asked → wrote text → IsSteady faults → IsSteady empties → TextEnds asked text status wrote faults empties
  front : status ≡ WriteFailed → WroteFront wrote text → HasRisen faults ⊎ HasRisen empties
      → TextEnds asked text status wrote faults empties

-- nothing was written
pub record NothingEnds (asked status : Status) (wrote : List ℕ → Type 0) (faults empties : Counted) : Type 0 where
  pub is : status ≡ asked
  pub written : wrote []
  pub faults_steady : IsSteady faults
  pub empties_steady : IsSteady empties

-- how a run ends that has no events
abbrev pub RefusalEnds : InputFault → Status → (List ℕ → Type 0) → (faults empties : Counted) → Type 0
RefusalEnds inputs.NoMemory status wrote faults empties = NothingEnds NoMemory status wrote faults empties
RefusalEnds inputs.Failed status wrote faults empties = NothingEnds ReadFailed status wrote faults empties
RefusalEnds inputs.TooLong status wrote faults empties = TextEnds Refused too_long_line status wrote faults empties
RefusalEnds (inputs.NoScript fault) status wrote faults empties =
    TextEnds Refused (refusal_line fault) status wrote faults empties ⊎ NothingEnds NoMemory status wrote faults empties

-- how a run ends whose words name no job, or could not be read
abbrev pub WordsEnd : WordsFault → Status → (List ℕ → Type 0) → (faults empties : Counted) → Type 0
WordsEnd words.NoMemory status wrote faults empties = NothingEnds NoMemory status wrote faults empties
WordsEnd words.Refused status wrote faults empties = TextEnds Usage usage_line status wrote faults empties

-- what was read, if a job has no events: a generated text has them unless memory runs out
abbrev pub GivesNone : Run → InputFault → (List ℕ → Type 0) → Type 0 → Type 0
GivesNone (Generate n) fault took at_end = (fault ≡ inputs.NoMemory) × took []
GivesNone other fault took at_end = TookFor fault took at_end

-- how a run ends that has these bytes for an image: what they are written as was written, or the line that says why they are none, or a
-- front of it; or nothing was for want of memory
pub data ImageShows (telling : Telling) (image : List ℕ) (status : Status) (wrote : List ℕ → Type 0)
    (faults empties : Counted) : Type 0 where
  shows : (text : List ℕ) → Says telling image text → TextEnds Done text status wrote faults empties
      → ImageShows telling image status wrote faults empties
  foreign : decoded header image ≡ Foreign → TextEnds Refused foreign_line status wrote faults empties
      → ImageShows telling image status wrote faults empties
  damaged : (at : ℕ) → IsDamagedAt rules image at → TextEnds Refused (damaged_line at) status wrote faults empties
      → ImageShows telling image status wrote faults empties
  nothing : NothingEnds NoMemory status wrote faults empties → ImageShows telling image status wrote faults empties
