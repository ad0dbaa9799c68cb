-- Which counts of faults rise with a status.
use Rattle.std.proofs.Common.{◌≡◌, ℕ, List, sym, subst}
use Rattle.iot_count.specs.Counts.{Counted, IsSteady}
use Rattle.iot_history.specs.Ending.{LineEnds, RefusalEnds}
use Rattle.iot_history.specs.Input.{InputCounts, told_after}
use Rattle.iot_app.specs.Refusals.{too_long_line}
use Rattle.iot_history.specs.Past.{IsNoPast}
use Rattle.iot_history.specs.Status.{SourceCounts, SinkCounts, DiskCounts}
use Rattle.iot_history.specs.declared.input.InputFault.{InputFault}
use Rattle.iot_history.specs.declared.input.InputFault.TheVariants as inputs
use Rattle.iot_history.specs.declared.status.Status.{Status}
use Rattle.iot_history.specs.declared.status.Status.TheVariants as statuses

-- since an earlier time, up to which no count of the sink rose
pub sink_since : (status : Status) (first before after none some now : ℕ) → before ≡ first → some ≡ none
    → SinkCounts status (record { before = before; after = after }) (record { before = some; after = now })
    → SinkCounts status (record { before = first; after = after }) (record { before = none; after = now })
sink_since status first before after none some now faults empties counts =
    subst (λ (n : ℕ). SinkCounts status (record { before = n; after = after }) (record { before = none; after = now })) faults
    (subst (λ (n : ℕ). SinkCounts status (record { before = before; after = after }) (record { before = n; after = now })) empties counts)

-- the same of the journal's disk
pub disk_since : (status : Status) (first before after : ℕ) → before ≡ first
    → DiskCounts status (record { before = before; after = after }) → DiskCounts status (record { before = first; after = after })
disk_since status first before after faults counts =
    subst (λ (n : ℕ). DiskCounts status (record { before = n; after = after })) faults counts

-- no count rises if there is no past
pub past_source : (bodies : List (List ℕ)) (status : Status) (faults : Counted) → IsNoPast bodies status → IsSteady faults
    → SourceCounts status faults
past_source bodies statuses.NoMemory faults none steady = steady
past_source bodies statuses.NoHistory faults none steady = steady
past_source bodies statuses.Done faults none steady = absurd none
past_source bodies statuses.Refused faults none steady = absurd none
past_source bodies statuses.ReadFailed faults none steady = absurd none
past_source bodies statuses.WriteFailed faults none steady = absurd none
past_source bodies statuses.Stopped faults none steady = absurd none
past_source bodies statuses.NoJournal faults none steady = absurd none

pub past_sink : (bodies : List (List ℕ)) (status : Status) (faults empties : Counted) → IsNoPast bodies status → IsSteady faults
    → IsSteady empties → SinkCounts status faults empties
past_sink bodies statuses.NoMemory faults empties none steady quiet = (steady, quiet)
past_sink bodies statuses.NoHistory faults empties none steady quiet = (steady, quiet)
past_sink bodies statuses.Done faults empties none steady quiet = absurd none
past_sink bodies statuses.Refused faults empties none steady quiet = absurd none
past_sink bodies statuses.ReadFailed faults empties none steady quiet = absurd none
past_sink bodies statuses.WriteFailed faults empties none steady quiet = absurd none
past_sink bodies statuses.Stopped faults empties none steady quiet = absurd none
past_sink bodies statuses.NoJournal faults empties none steady quiet = absurd none

pub past_disk : (bodies : List (List ℕ)) (status : Status) (faults : Counted) → IsNoPast bodies status → IsSteady faults
    → DiskCounts status faults
past_disk bodies statuses.NoMemory faults none steady = steady
past_disk bodies statuses.NoHistory faults none steady = steady
past_disk bodies statuses.Done faults none steady = absurd none
past_disk bodies statuses.Refused faults none steady = absurd none
past_disk bodies statuses.ReadFailed faults none steady = absurd none
past_disk bodies statuses.WriteFailed faults none steady = absurd none
past_disk bodies statuses.Stopped faults none steady = absurd none
past_disk bodies statuses.NoJournal faults none steady = absurd none

-- neither the source nor the journal's disk has failed if a line was to be written
line_source : (line : List ℕ) (wrote : List ℕ → Type 0) (status : Status) (faults : Counted) → LineEnds line wrote status
    → IsSteady faults → SourceCounts status faults
line_source line wrote statuses.Refused faults ends steady = steady
line_source line wrote statuses.WriteFailed faults ends steady = steady
line_source line wrote statuses.NoMemory faults ends steady = steady
line_source line wrote statuses.Done faults ends steady = absurd ends
line_source line wrote statuses.ReadFailed faults ends steady = absurd ends
line_source line wrote statuses.Stopped faults ends steady = absurd ends
line_source line wrote statuses.NoJournal faults ends steady = absurd ends
line_source line wrote statuses.NoHistory faults ends steady = absurd ends

line_disk : (line : List ℕ) (wrote : List ℕ → Type 0) (status : Status) (faults : Counted) → LineEnds line wrote status
    → IsSteady faults → DiskCounts status faults
line_disk line wrote statuses.Refused faults ends steady = steady
line_disk line wrote statuses.WriteFailed faults ends steady = steady
line_disk line wrote statuses.NoMemory faults ends steady = steady
line_disk line wrote statuses.Done faults ends steady = absurd ends
line_disk line wrote statuses.ReadFailed faults ends steady = absurd ends
line_disk line wrote statuses.Stopped faults ends steady = absurd ends
line_disk line wrote statuses.NoJournal faults ends steady = absurd ends
line_disk line wrote statuses.NoHistory faults ends steady = absurd ends

module _ (past : List ℕ) (wrote : List ℕ → Type 0) (status : Status) (faults : Counted) where
  -- the source has failed exactly if a read did
  pub refused_source : (fault : InputFault) → RefusalEnds past fault wrote status → InputCounts fault faults → SourceCounts status faults
  refused_source inputs.NoMemory ends counts = subst (λ (s : Status). SourceCounts s faults) (sym ends.0) counts
  refused_source inputs.Failed ends counts = subst (λ (s : Status). SourceCounts s faults) (sym ends.0) counts
  refused_source inputs.TooLong ends counts = line_source too_long_line wrote status faults ends counts
  refused_source (inputs.NoScript fault) ends counts = line_source (told_after past fault) wrote status faults ends counts

  -- the journal's disk has not
  pub refused_disk : (fault : InputFault) → RefusalEnds past fault wrote status → IsSteady faults → DiskCounts status faults
  refused_disk inputs.NoMemory ends steady = subst (λ (s : Status). DiskCounts s faults) (sym ends.0) steady
  refused_disk inputs.Failed ends steady = subst (λ (s : Status). DiskCounts s faults) (sym ends.0) steady
  refused_disk inputs.TooLong ends steady = line_disk too_long_line wrote status faults ends steady
  refused_disk (inputs.NoScript fault) ends steady = line_disk (told_after past fault) wrote status faults ends steady
