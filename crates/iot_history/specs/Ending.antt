-- How a run ends.
use Rattle.std.specs.Prelude.{◌≡◌, ◌⊎◌, ℕ, List, [], ◌∷◌, ◌++◌}
use Rattle.std.specs.List.{concat}
use Rattle.iot_event.specs.Events.{Gives, Events}
use Rattle.iot_event.specs.declared.event.Event.{Event}
use Rattle.iot_journal.specs.Decoding.{Decoded, Encodes, Foreign, Damaged}
use Rattle.iot_journal.specs.Images.{EachDecodes, EachDecodesEither}
use Rattle.iot_machine.specs.Nodes.{Counts}
use Rattle.iot_app.specs.Played.{WroteFront}
use Rattle.iot_app.specs.Refusals.{too_long_line}
use Rattle.iot_history.specs.Continuing.{Continued}
use Rattle.iot_history.specs.Input.{TookText, IsRefused, told_after}
use Rattle.iot_history.specs.Past.{marks_in, GivesSome, GivesNone}
use Rattle.iot_history.specs.declared.input.InputFault.{InputFault}
use Rattle.iot_history.specs.declared.input.InputFault.TheVariants as inputs
use Rattle.iot_history.specs.declared.status.Status.{Status}
use Rattle.iot_history.specs.declared.status.Status.TheVariants as statuses

-- the line was written, or a front of it
abbrev pub LineEnds : (line : List ℕ) → (List ℕ → Type 0) → Status → Type 0
LineEnds line wrote statuses.Refused = wrote line
LineEnds line wrote statuses.WriteFailed = WroteFront wrote line
LineEnds line wrote statuses.NoMemory = wrote []
LineEnds line wrote status = ⊥

-- how a run ends that has no input
abbrev pub RefusalEnds : (past : List ℕ) → InputFault → (List ℕ → Type 0) → Status → Type 0
RefusalEnds past inputs.NoMemory wrote status = (status ≡ statuses.NoMemory) × wrote []
RefusalEnds past inputs.Failed wrote status = (status ≡ statuses.ReadFailed) × wrote []
RefusalEnds past inputs.TooLong wrote status = LineEnds too_long_line wrote status
RefusalEnds past (inputs.NoScript fault) wrote status = LineEnds (told_after past fault) wrote status

-- What can be seen of a run: which bytes were taken from the source, and whether nothing is left there; which bytes were written to the
-- sink; what the nodes' disks counted that were handed in; what the journal's disk encoded, and what a crash may leave of it now.
pub record Effects : Type 1 where
  pub took : List ℕ → Type 0
  pub at_end : Type 0
  pub wrote : List ℕ → Type 0
  pub handed : List Counts
  pub found : Decoded
  pub images : List ℕ → Type 0

-- nothing was recorded and nothing written
pub record DidNothing (it : Effects) : Type 0 where
  pub kept : EachDecodes it.images it.found
  pub wrote : it.wrote []

-- nothing was written, and one more text may be recorded: all of it or nothing
pub record MayHaveRecorded (it : Effects) : Type 0 where
  pub bodies : List (List ℕ)
  pub found : it.found ≡ Encodes bodies
  pub text : List ℕ
  pub taken : TookText it.took it.at_end text
  pub kept : EachDecodesEither it.images (Encodes bodies) (Encodes (bodies ++ text ∷ []))
  pub wrote : it.wrote []

-- the input is refused: nothing was recorded, and so much was written of the line that says why
pub record OnRefusal (it : Effects) (wrote : List ℕ → Type 0) : Type 0 where
  pub bodies : List (List ℕ)
  pub found : it.found ≡ Encodes bodies
  pub line : List ℕ
  pub refused : IsRefused (concat bodies) it.took it.at_end line
  pub kept : EachDecodes it.images it.found
  pub written : wrote line

-- The input is recorded after those before it, which give events, and `events` are those of all. What was written is the rest of a
-- transcript of them, after the pieces that were said before, and each piece of it was marked first.
pub record OnEvents (it : Effects) (status : Status) : Type 0 where
  pub bodies : List (List ℕ)
  pub found : it.found ≡ Encodes bodies
  pub past : GivesSome bodies
  pub text : List ℕ
  pub taken : TookText it.took it.at_end text
  pub events : List Event
  pub gives : Gives (concat bodies ++ text) (Events events)
  pub continued : Continued it.handed it.images (bodies ++ text ∷ []) it.wrote (marks_in bodies) events status

-- what is recorded is no event script
pub record OnNoHistory (it : Effects) : Type 0 where
  pub bodies : List (List ℕ)
  pub found : it.found ≡ Encodes bodies
  pub gives : GivesNone bodies
  pub did : DidNothing it

-- the disk is no journal
abbrev pub IsNoJournal : Decoded → Type 0
IsNoJournal (Encodes bodies) = ⊥
IsNoJournal Foreign = Unit {0}
IsNoJournal (Damaged at) = Unit {0}

abbrev pub Ends : Effects → Status → Type 0
Ends it statuses.Done = OnEvents it statuses.Done
Ends it statuses.Refused = OnRefusal it it.wrote
Ends it statuses.ReadFailed = DidNothing it
Ends it statuses.WriteFailed = OnRefusal it (WroteFront it.wrote) ⊎ OnEvents it statuses.WriteFailed
Ends it statuses.NoMemory = DidNothing it ⊎ OnEvents it statuses.NoMemory
Ends it statuses.Stopped = DidNothing it ⊎ (MayHaveRecorded it ⊎ OnEvents it statuses.Stopped)
Ends it statuses.NoJournal = DidNothing it × IsNoJournal it.found
Ends it statuses.NoHistory = OnNoHistory it
