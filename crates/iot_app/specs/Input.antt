-- What the source gave: `took bytes` says that these bytes were taken from it, and `at_end` that nothing is left there.
use Rattle.std.specs.Prelude.{◌≡◌, ℕ, ◌<◌, ◌≤◌, List, length}
use Rattle.iot_count.specs.Counts.{Counted, HasRisen, IsSteady}
use Rattle.iot_event.specs.Events.{Gives, Outcome, Fault}
use Rattle.iot_event.specs.declared.fault.EventFault.{EventFault}
use Rattle.iot_app.specs.Refusals.{too_long_line, refusal_line}
use Rattle.iot_app.specs.declared.input.TheConstants.{INPUT_LIMIT}
use Rattle.iot_app.specs.declared.input.InputFault.{InputFault}
use Rattle.iot_app.specs.declared.input.InputFault.TheVariants as inputs

-- the input was read to its end, is within its limit, and gives these events or this fault
pub record TookInput (took : List ℕ → Type 0) (at_end : Type 0) (outcome : Outcome) : Type 0 where
  pub input : List ℕ
  pub taken : took input
  pub whole : at_end
  pub within : length input ≤ INPUT_LIMIT
  pub gives : Gives input outcome

-- some of the source was read, within this limit
pub record TookSome (limit : ℕ) (took : List ℕ → Type 0) : Type 0 where
  pub front : List ℕ
  pub taken : took front
  pub within : length front ≤ limit

-- more than the limit was read
pub record TookTooMuch (limit : ℕ) (took : List ℕ → Type 0) : Type 0 where
  pub front : List ℕ
  pub taken : took front
  pub over : limit < length front

-- the input is over its limit, or was read to its end and is no event script; this line says which
pub data IsRefused (took : List ℕ → Type 0) (at_end : Type 0) (text : List ℕ) : Type 0 where
  too_long : TookTooMuch INPUT_LIMIT took → text ≡ too_long_line → IsRefused took at_end text
  no_script : (fault : EventFault) → TookInput took at_end (Fault fault) → text ≡ refusal_line fault → IsRefused took at_end text

-- what was read, if there are no events
abbrev pub TookFor : InputFault → (List ℕ → Type 0) → Type 0 → Type 0
TookFor inputs.NoMemory took at_end = TookSome INPUT_LIMIT took
TookFor inputs.Failed took at_end = TookSome INPUT_LIMIT took
TookFor inputs.TooLong took at_end = TookTooMuch INPUT_LIMIT took
TookFor (inputs.NoScript fault) took at_end = TookInput took at_end (Fault fault)

-- the source's count of faults rises if a read failed, and for no other fault
abbrev pub InputCounts : InputFault → Counted → Type 0
InputCounts inputs.Failed faults = HasRisen faults
InputCounts fault faults = IsSteady faults
