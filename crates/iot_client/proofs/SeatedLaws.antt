-- What is known of a disk from which a client starts.
use Rattle.std.proofs.Common.{◌≡◌, sym, subst}
use Rattle.std.specs.Prelude.{IfErr, IfOk, MatchResult, Result, Ok, Err}
use Rattle.iot_disk.specs.declared.faults.StartFault.{StartFault}
use Rattle.iot_disk.specs.declared.faults.StartFault.TheVariants.{NoMemory}
use Rattle.iot_kept.specs.Kept as kept
use Rattle.iot_kept.specs.declared.kept.Kept.{Kept}
use Rattle.iot_client.specs.Ties.{disk_of}
use Rattle.iot_client.specs.declared.client.Client.{Client}

abbrev Seated : Type 0 → Type 0
Seated D = Result (Client D) (D × StartFault)

-- it is over this, and has this place; or memory ran out, and the disk came back
abbrev IsOver : {D : Type 0} → Kept D → Client D → Type 0
IsOver over client = client.kept ≡ over

abbrev IsBack : {D : Type 0} → Kept D → D × StartFault → Type 0
IsBack over refused = (refused.1 ≡ NoMemory) × (refused.0 ≡ kept.disk_of over)

-- what is so of what is kept
pub kept_so : {D : Type 0} (P : Kept D → Type 0) (over : Kept D) (result : Seated D) → IfOk result (IsOver over) → P over
    → IfOk result (λ client. P client.kept)
kept_so P over (Ok client) is so = subst P (sym is) so
kept_so P over (Err refused) is so = tt

-- what is so of the disk, also if it came back
pub disk_so : {D : Type 0} (P : D → Type 0) (over : Kept D) (result : Seated D) → IfOk result (IsOver over) → IfErr result (IsBack over)
    → P (kept.disk_of over) → MatchResult result (λ client. P (disk_of client)) (λ refused. P refused.0)
disk_so {D} P over (Ok client) is back so = subst (λ (it : Kept D). P (kept.disk_of it)) (sym is) so
disk_so P over (Err refused) is back so = subst P (sym back.1) so

-- what is so of it if memory ran out
pub back_so : {D : Type 0} (P : StartFault → D → Type 0) (over : Kept D) (result : Seated D) → IfErr result (IsBack over)
    → P NoMemory (kept.disk_of over) → IfErr result (λ refused. P refused.1 refused.0)
back_so P over (Ok client) back so = tt
back_so P over (Err refused) back so = subst (λ (fault : StartFault). P fault refused.0) (sym back.0) (subst (P NoMemory) (sym back.1) so)
