-- How an audit ends, by how its steps end.
use Rattle.std.proofs.Common.{◌≡◌, ◌≤◌, ◌⊎◌, ℕ, ◌+◌, List, [], length, refl, sym, subst, inl, inr, arith}
use Rattle.iot_audit.specs.declared.fault.AuditFault.{AuditFault}
use Rattle.iot_audit.specs.declared.fault.AuditFault.TheVariants as audit
use Rattle.iot_count.specs.Counts.{Counted}
use Rattle.iot_io.specs.ReadAll.{IsTakenBefore}
use Rattle.iot_io.specs.declared.faults.ReadFault.{ReadFault}
use Rattle.iot_io.specs.declared.faults.ReadFault.TheVariants as reading
use Rattle.iot_app.specs.Audits.{TookAll, IsNoAudit, too_long, short, no_script, fails, TellsNothing, Audited, Fails}
use Rattle.iot_app.specs.Audits.{audit_line, audited_line, short_line}
use Rattle.iot_app.specs.Auditing.{IsInputFault, IsRefusal, RefusedEnds, AuditTells}
use Rattle.iot_app.specs.Auditing as step
use Rattle.iot_app.specs.InputFaults.{of_reading}
use Rattle.iot_app.specs.Job.{TextEnds, NothingEnds, RefusalEnds}
use Rattle.iot_app.specs.Refusals.{too_long_line, refusal_line}
use Rattle.iot_app.specs.declared.audit.Refusal.{Refusal}
use Rattle.iot_app.specs.declared.audit.Refusal.TheVariants.{Input, Short, Image}
use Rattle.iot_app.specs.declared.audit.TheConstants.{AUDIT_LIMIT}
use Rattle.iot_app.specs.declared.input.InputFault.{InputFault}
use Rattle.iot_app.specs.declared.input.InputFault.TheVariants as inputs
use Rattle.iot_app.specs.declared.status.Status.{Status}
use Rattle.iot_app.specs.declared.status.Status.TheVariants as statuses
use Rattle.iot_app.proofs.EndingsLaws.{by_text}
use Rattle.iot_app.proofs.PartsLaws.{over_both}

module _ (took : List ℕ → Type 0) (at_end : Type 0) (wrote : List ℕ → Type 0) (f e : Counted) where
  -- a line that says why the input is refused
  refusal_told : (text : List ℕ) (status : Status) → IsNoAudit took at_end text → TextEnds statuses.Refused text status wrote f e
      → Audited took at_end wrote status
  refusal_told text status refused line =
      by_text statuses.Refused text status wrote f e (Audited took at_end wrote) line
      (λ written. record { text = text; refused = refused; written = written })
      (λ cut. inr (record { text = text; refused = refused; written = cut }))

  nothing_told : (front : List ℕ) → took front → length front ≤ AUDIT_LIMIT → wrote [] → TellsNothing took at_end wrote
  nothing_told front taken within written = record {
    some = record { front = front; taken = taken; within = within };
    written = written;
  }

  -- more was read than the limit
  over_told : (front : List ℕ) (status : Status) → took front → length front ≡ AUDIT_LIMIT + 1
      → TextEnds statuses.Refused too_long_line status wrote f e → Audited took at_end wrote status
  over_told front status taken over line =
      refusal_told too_long_line status (too_long front taken (over_both front (omega (arith, over))) refl) line

  -- the input was not read to its end
  pub read_told : (fault : ReadFault) (front : List ℕ) (status : Status) → took front → IsTakenBefore fault AUDIT_LIMIT (length front)
      → RefusalEnds (of_reading fault) status wrote f e → Audited took at_end wrote status
  read_told reading.NoMemory front status taken within ends =
      subst (Audited took at_end wrote) (sym ends.is) (nothing_told front taken within ends.written)
  read_told reading.Failed front status taken within ends =
      subst (Audited took at_end wrote) (sym ends.is) (nothing_told front taken within ends.written)
  read_told reading.TooLong front status taken over ends = over_told front status taken over ends

  module _ (input : List ℕ) (status : Status) (given : TookAll took at_end input) (within : length input ≤ AUDIT_LIMIT) where
    memory_told : NothingEnds statuses.NoMemory status wrote f e → Audited took at_end wrote status
    memory_told ends = subst (Audited took at_end wrote) (sym ends.is) (nothing_told input given.taken within ends.written)

    input_refused : (fault : InputFault) → IsInputFault input fault → RefusalEnds fault status wrote f e → Audited took at_end wrote status
    input_refused inputs.NoMemory is ends = memory_told ends
    input_refused inputs.Failed is ends = absurd is
    input_refused inputs.TooLong is ends = refusal_told too_long_line status (too_long input given.taken is refl) ends
    input_refused (inputs.NoScript fault) is (inl ends) =
        refusal_told (refusal_line fault) status (no_script input fault given is refl) ends
    input_refused (inputs.NoScript fault) is (inr ends) = memory_told ends

    image_refused : (fault : AuditFault) → Fails input fault
        → TextEnds statuses.Refused (audit_line fault) status wrote f e ⊎ NothingEnds statuses.NoMemory status wrote f e
        → Audited took at_end wrote status
    image_refused fault is (inl ends) = refusal_told (audit_line fault) status (fails input fault given is refl) ends
    image_refused fault is (inr ends) = memory_told ends

    refused : (refusal : Refusal) → IsRefusal input refusal → RefusedEnds refusal status wrote f e → Audited took at_end wrote status
    refused (Input fault) is ends = input_refused fault is ends
    refused Short is ends = refusal_told short_line status (short input given is refl) ends
    refused (Image audit.NoMemory) is ends = memory_told ends
    refused (Image audit.Foreign) (inr is) ends = image_refused audit.Foreign is ends
    refused (Image audit.Foreign) (inl never) ends = absurd cc
    refused (Image (audit.Damaged at)) (inr is) ends = image_refused (audit.Damaged at) is ends
    refused (Image (audit.Damaged at)) (inl never) ends = absurd cc
    refused (Image (audit.NoScript number)) (inr is) ends = image_refused (audit.NoScript number) is ends
    refused (Image (audit.NoScript number)) (inl never) ends = absurd cc
    refused (Image (audit.Lines number)) (inr is) ends = image_refused (audit.Lines number) is ends
    refused (Image (audit.Lines number)) (inl never) ends = absurd cc
    refused (Image (audit.Tree path)) (inr is) ends = image_refused (audit.Tree path) is ends
    refused (Image (audit.Tree path)) (inl never) ends = absurd cc

    -- an input that was read
    pub input_told : AuditTells input status wrote f e → Audited took at_end wrote status
    input_told (step.tells number passes line) =
        by_text statuses.Done (audited_line number) status wrote f e (Audited took at_end wrote) line
        (λ written. record { input = input; given = given; number = number; passes = passes; written = written })
        (λ cut. inl (record { input = input; given = given; number = number; passes = passes; written = cut }))
    input_told (step.refuses refusal is ends) = refused refusal is ends
    input_told (step.nothing ends) = memory_told ends
