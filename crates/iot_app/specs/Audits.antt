-- What was done of a job that audits an image, by the status with which it ends: `took bytes` says that these bytes were taken from the
-- source, `at_end` that nothing is left there, and `wrote bytes` that these were written to the sink.
use Rattle.std.specs.Prelude.{◌≡◌, ◌⊎◌, ℕ, List, [], ◌++◌, codes, decimal}
use Rattle.iot_audit.specs.Audits.{IsAuditedOf, IsReason}
use Rattle.iot_audit.specs.declared.fault.AuditFault.{AuditFault}
use Rattle.iot_audit.specs.declared.fault.AuditFault.TheVariants as audit
use Rattle.iot_event.specs.Events.{Gives, Outcome, Events, Fault}
use Rattle.iot_event.specs.declared.event.Event.{Event}
use Rattle.iot_event.specs.declared.fault.EventFault.{EventFault}
use Rattle.iot_machine.specs.Texts.{line}
use Rattle.iot_text.specs.Paths.{path_text}
use Rattle.iot_app.specs.Input.{TookSome}
use Rattle.iot_app.specs.Parts.{HasParts, IsTooLong, IsShort}
use Rattle.iot_app.specs.Played.{WroteFront}
use Rattle.iot_app.specs.Refusals.{too_long_line, refusal_line}
use Rattle.iot_app.specs.declared.audit.TheConstants.{AUDIT_LIMIT}
use Rattle.iot_app.specs.declared.status.Status.{Status}
use Rattle.iot_app.specs.declared.status.Status.TheVariants.{Done, Refused, Usage, ReadFailed, WriteFailed, NoMemory, SaveFailed}

-- ---- the lines

abbrev pub audited_line : (number : ℕ) → List ℕ
audited_line number = line (codes "audit: ok " ++ (decimal number ++ codes " commits"))

abbrev pub short_line : List ℕ
short_line = line (codes "audit: short")

-- why an image is refused; running out of memory is no reason
abbrev pub audit_line : AuditFault → List ℕ
audit_line audit.NoMemory = []
audit_line audit.Foreign = line (codes "audit: foreign")
audit_line (audit.Damaged at) = line (codes "audit: damaged at " ++ decimal at)
audit_line (audit.NoScript number) = line (codes "audit: no script " ++ decimal number)
audit_line (audit.Lines number) = line (codes "audit: lines " ++ decimal number)
audit_line (audit.Tree path) = line (codes "audit: tree " ++ path_text path)

-- ---- the input

-- the input has this image, and a script that gives this
pub record Reads (input : List ℕ) (outcome : Outcome) (image : List ℕ) : Type 0 where
  pub script : List ℕ
  pub parts : HasParts input script image
  pub gives : Gives script outcome

-- its image is what its script makes, of so many commits
pub record Passes (input : List ℕ) (number : ℕ) : Type 0 where
  pub events : List Event
  pub image : List ℕ
  pub reads : Reads input (Events events) image
  pub audited : IsAuditedOf events image number

-- its image is refused for this
pub record Fails (input : List ℕ) (fault : AuditFault) : Type 0 where
  pub events : List Event
  pub image : List ℕ
  pub reads : Reads input (Events events) image
  pub reason : IsReason events image fault

-- its script is none for this
pub record HasNoScript (input : List ℕ) (fault : EventFault) : Type 0 where
  pub image : List ℕ
  pub reads : Reads input (Fault fault) image

-- ---- what was done

module _ (took : List ℕ → Type 0) (at_end : Type 0) where
  -- the input was read to its end
  pub record TookAll (input : List ℕ) : Type 0 where
    pub taken : took input
    pub whole : at_end

  -- why the input is refused, and the line that says so; of the first, a front is enough
  pub data IsNoAudit (text : List ℕ) : Type 0 where
    too_long : (front : List ℕ) → took front → IsTooLong front → text ≡ too_long_line → IsNoAudit text
    short : (input : List ℕ) → TookAll input → IsShort input → text ≡ short_line → IsNoAudit text
    no_script : (input : List ℕ) (fault : EventFault) → TookAll input → HasNoScript input fault → text ≡ refusal_line fault
        → IsNoAudit text
    fails : (input : List ℕ) (fault : AuditFault) → TookAll input → Fails input fault → text ≡ audit_line fault → IsNoAudit text

  -- so much was written of how many commits the image has
  pub record TellsNumber (wrote : List ℕ → Type 0) : Type 0 where
    pub input : List ℕ
    pub given : TookAll input
    pub number : ℕ
    pub passes : Passes input number
    pub written : wrote (audited_line number)

  -- or of the line that says why the input is refused
  pub record TellsRefusal (wrote : List ℕ → Type 0) : Type 0 where
    pub text : List ℕ
    pub refused : IsNoAudit text
    pub written : wrote text

  -- it was read in part, and nothing was written
  pub record TellsNothing (wrote : List ℕ → Type 0) : Type 0 where
    pub some : TookSome AUDIT_LIMIT took
    pub written : wrote []

  module _ (wrote : List ℕ → Type 0) where
    abbrev pub Audited : Status → Type 0
    Audited Done = TellsNumber wrote
    Audited Refused = TellsRefusal wrote
    Audited Usage = ⊥
    Audited ReadFailed = TellsNothing wrote
    Audited WriteFailed = TellsNumber (WroteFront wrote) ⊎ TellsRefusal (WroteFront wrote)
    Audited NoMemory = TellsNothing wrote
    Audited SaveFailed = ⊥
