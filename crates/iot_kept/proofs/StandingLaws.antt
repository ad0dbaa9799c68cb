-- Records of changes.
use Rattle.std.proofs.Common.{◌≡◌, ◌<◌, ◌^◌, List, ℕ, length, Option, Some, None, Result, Ok, Err, sym, ap}
use Rattle.std.specs.Prelude.{IfOk, IfSome}
use Rattle.iot_changes.specs.Rules.{IsChange}
use Rattle.iot_changes.specs.Spelling.{change_spelling}
use Rattle.iot_changes.specs.declared.changes.Change.{Change}
use Rattle.iot_slots.specs.declared.version.Version.{Version}
use Rattle.iot_slots.specs.declared.version.Version.TheVariants.{Two}
use Rattle.iot_kept.specs.Versions.{ReadsAs, SpellsChange}
use Rattle.iot_kept.proofs.VersionsLaws.{change_has, change_one}

-- the spelling of a change is its record
pub is_record : (change : Change) (body : List ℕ) → IsChange change → body ≡ change_spelling change → SpellsChange Two body change
is_record change body has spelled = record { value = has; spelled = sym spelled }

module _ {E : Type 0} (version : Version) (body : List ℕ) where
  -- what was read is the change that is spelled
  pub read_only : (result : Result (Option Change) E) → length body < 2 ^ 64 → IfOk result (ReadsAs (SpellsChange version body))
      → (change : Change) → SpellsChange version body change → IfOk result (λ read. read ≡ Some change)
  read_only (Ok (Some made)) short reads change is = ap Some (change_one version body made change short reads is)
  read_only (Ok None) short reads change is = absurd (reads change is)
  read_only (Err fault) short reads change is = tt

  pub read_has : (result : Result (Option Change) E) → IfOk result (ReadsAs (SpellsChange version body))
      → IfOk result (λ read. IfSome read IsChange)
  read_has (Ok (Some made)) reads = change_has version body made reads
  read_has (Ok None) reads = tt
  read_has (Err fault) reads = tt
