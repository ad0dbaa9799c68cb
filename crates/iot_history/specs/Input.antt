-- What the source gave: `took bytes` says that these bytes were taken from it, and `at_end` that nothing is left there.
use Rattle.std.specs.Prelude.{◌≡◌, ℕ, ◌-◌, ◌≤◌, List, [], ◌∷◌, ◌++◌, length}
use Rattle.iot_count.specs.Counts.{Counted, HasRisen, IsSteady}
use Rattle.iot_lines.specs.Lines.{lines}
use Rattle.iot_event.specs.Events.{Gives, Fault}
use Rattle.iot_event.specs.declared.fault.EventFault.{EventFault}
use Rattle.iot_event.specs.declared.fault.EventFault.TheVariants as faults
use Rattle.iot_app.specs.Input.{TookTooMuch}
use Rattle.iot_app.specs.Refusals.{too_long_line, refusal_line}
use Rattle.iot_app.specs.declared.input.TheConstants.{INPUT_LIMIT}
use Rattle.iot_history.specs.declared.input.InputFault.{InputFault}
use Rattle.iot_history.specs.declared.input.InputFault.TheVariants as inputs

-- the input was read to its end and is within its limit, and this text is it and a newline
pub record TookText (took : List ℕ → Type 0) (at_end : Type 0) (text : List ℕ) : Type 0 where
  pub input : List ℕ
  pub taken : took input
  pub whole : at_end
  pub within : length input ≤ INPUT_LIMIT
  pub is : text ≡ input ++ 10 ∷ []

-- such a text after the earlier ones has this fault
pub record TookFault (past : List ℕ) (fault : EventFault) (took : List ℕ → Type 0) (at_end : Type 0) : Type 0 where
  pub text : List ℕ
  pub taken : TookText took at_end text
  pub gives : Gives (past ++ text) (Fault fault)

-- what was read, if there is no input
abbrev pub TookFor : (past : List ℕ) → InputFault → (List ℕ → Type 0) → Type 0 → Type 0
TookFor past inputs.NoMemory took at_end = Unit {0}
TookFor past inputs.Failed took at_end = Unit {0}
TookFor past inputs.TooLong took at_end = TookTooMuch INPUT_LIMIT took
TookFor past (inputs.NoScript fault) took at_end = TookFault past fault took at_end

-- the source's count of faults rises if a read failed, and for no other fault
abbrev pub InputCounts : InputFault → Counted → Type 0
InputCounts inputs.Failed faults = HasRisen faults
InputCounts fault faults = IsSteady faults

-- a fault as it is told: its line is counted after so many earlier ones
abbrev pub after : (earlier : ℕ) → EventFault → EventFault
after earlier faults.NoMemory = faults.NoMemory
after earlier (faults.BadLine number) = faults.BadLine (number - earlier)
after earlier (faults.UnknownName number) = faults.UnknownName (number - earlier)
after earlier (faults.Twice number) = faults.Twice (number - earlier)
after earlier (faults.TooMany number) = faults.TooMany (number - earlier)
after earlier (faults.BadStatement number) = faults.BadStatement (number - earlier)
after earlier (faults.TooDeep number) = faults.TooDeep (number - earlier)

-- the line that says why an input is refused
abbrev pub told_after : (past : List ℕ) → EventFault → List ℕ
told_after past fault = refusal_line (after (length (lines past)) fault)

-- the input is over its limit, or is no event script after the earlier ones; this line says which
pub data IsRefused (past : List ℕ) (took : List ℕ → Type 0) (at_end : Type 0) (text : List ℕ) : Type 0 where
  too_long : TookTooMuch INPUT_LIMIT took → text ≡ too_long_line → IsRefused past took at_end text
  no_script : (fault : EventFault) → TookFault past fault took at_end → text ≡ told_after past fault → IsRefused past took at_end text
