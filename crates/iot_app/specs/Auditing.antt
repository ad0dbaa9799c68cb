-- How the steps of an audit end, which `Audits` says of the whole.
use Rattle.std.specs.Prelude.{◌≡◌, ◌⊎◌, ℕ, List}
use Rattle.iot_audit.specs.declared.fault.AuditFault.TheVariants as audit
use Rattle.iot_count.specs.Counts.{Counted}
use Rattle.iot_app.specs.Audits.{Passes, Fails, HasNoScript, audit_line, audited_line, short_line}
use Rattle.iot_app.specs.Job.{TextEnds, NothingEnds, RefusalEnds}
use Rattle.iot_app.specs.Parts.{IsTooLong, IsShort}
use Rattle.iot_app.specs.declared.audit.Refusal.{Refusal}
use Rattle.iot_app.specs.declared.audit.Refusal.TheVariants.{Input, Short, Image}
use Rattle.iot_app.specs.declared.input.InputFault.{InputFault}
use Rattle.iot_app.specs.declared.input.InputFault.TheVariants as inputs
use Rattle.iot_app.specs.declared.status.Status.{Status}
use Rattle.iot_app.specs.declared.status.Status.TheVariants.{Done, Refused, NoMemory}

-- by the fault, why an input that was read has no script
abbrev pub IsInputFault : List ℕ → InputFault → Type 0
IsInputFault input inputs.NoMemory = Unit {0}
IsInputFault input inputs.Failed = ⊥
IsInputFault input inputs.TooLong = IsTooLong input
IsInputFault input (inputs.NoScript fault) = HasNoScript input fault

-- by the refusal, why an input that was read is refused
abbrev pub IsRefusal : List ℕ → Refusal → Type 0
IsRefusal input (Input fault) = IsInputFault input fault
IsRefusal input Short = IsShort input
IsRefusal input (Image fault) = (fault ≡ audit.NoMemory) ⊎ Fails input fault

-- how an audit ends that is refused so
abbrev pub RefusedEnds : Refusal → Status → (List ℕ → Type 0) → (faults empties : Counted) → Type 0
RefusedEnds (Input fault) status wrote faults empties = RefusalEnds fault status wrote faults empties
RefusedEnds Short status wrote faults empties = TextEnds Refused short_line status wrote faults empties
RefusedEnds (Image audit.NoMemory) status wrote faults empties = NothingEnds NoMemory status wrote faults empties
RefusedEnds (Image fault) status wrote faults empties =
    TextEnds Refused (audit_line fault) status wrote faults empties ⊎ NothingEnds NoMemory status wrote faults empties

-- how an audit of this input ends: how many commits its image has was written, or the line that says why it is refused, or a front of it;
-- or nothing was for want of memory
pub data AuditTells (input : List ℕ) (status : Status) (wrote : List ℕ → Type 0) (faults empties : Counted) : Type 0 where
  tells : (number : ℕ) → Passes input number → TextEnds Done (audited_line number) status wrote faults empties
      → AuditTells input status wrote faults empties
  refuses : (refusal : Refusal) → IsRefusal input refusal → RefusedEnds refusal status wrote faults empties
      → AuditTells input status wrote faults empties
  nothing : NothingEnds NoMemory status wrote faults empties → AuditTells input status wrote faults empties
