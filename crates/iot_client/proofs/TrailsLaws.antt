-- What a held tree has of a server's stamps through the calls of its client.
use Rattle.std.proofs.Common.{◌≡◌, ℕ, Bool, List, [], ◌∷◌, Option, ap, Ok}
use Rattle.iot_stamp.specs.Agreement.{IsPositive}
use Rattle.iot_stamp.specs.Stamps.{Stamps, nothing_held}
use Rattle.iot_changes.specs.declared.changes.Change.{Change}
use Rattle.iot_changes.specs.declared.changes.Change.TheVariants as changed
use Rattle.iot_lang.specs.Code.{Code}
use Rattle.iot_kept.specs.States.{Transaction}
use Rattle.iot_kept.proofs.SyncedLaws.{synced_holds}
use Rattle.iot_client.specs.Calls.{ChangesClasses, CutsIfAny, EndIs, Notes, StepIs, verdict_change}
use Rattle.iot_client.specs.Ties.{IsTied, state_of, stamps_of}
use Rattle.iot_client.specs.declared.ended.Ended.{Ended}
use Rattle.iot_client.specs.declared.ended.Ended.TheVariants as ends
use Rattle.iot_client.specs.declared.noted.Noted.{Noted}
use Rattle.iot_client.specs.declared.steps.Step.{Step}
use Rattle.iot_client.specs.Messages.{objects_in, ReadsObjects}
use Rattle.iot_wire.specs.declared.replies.Reply.TheVariants.{Objects}
use Rattle.iot_client.specs.declared.client.Client.{Client}
use Rattle.iot_disk.specs.Disk.{Medium}
use Rattle.iot_tree.specs.declared.changes.Changes.{Changes}
use Rattle.iot_wire.specs.Meanings.{Spells}
use Rattle.iot_stamp.specs.Trails.{KeepsTrail, Trails}
use Rattle.iot_stamp.proofs.TrailsLaws.{none_lent, none_trails, same_stamps}
use Rattle.iot_kept.proofs.TrailsLaws.{IsOwn, own_change}
use Rattle.iot_client.specs.declared.noted.Noted.TheVariants as notes
use Rattle.iot_client.specs.declared.steps.Step.TheVariants as steps

pub nothing_trails : (server : Stamps) (bound : ℕ) → IsPositive server → Trails server bound nothing_held
nothing_trails = none_trails nothing_held (none_lent _)

pub noted_trails : {D : Type 0} (medium : Medium D) (was now : Client D) (change : Change) → IsOwn change → IsTied medium was
    → Notes change was now → KeepsTrail (stamps_of was) (stamps_of now)
noted_trails medium was now change own tied notes =
    own_change change (state_of was).items (stamps_of was) (stamps_of now) own (synced_holds medium was.kept tied.synced).items notes.stamps

-- the changes that are read are those that the reply spells
pub same_changes : (reply : List ℕ) (read changes : Changes) → ReadsObjects reply → objects_in reply ≡ Ok read
    → Spells reply (Objects changes) → read ≡ changes
same_changes reply read changes only is spells = let both : objects_in reply ≡ Ok changes = only changes spells in cc

same_client : {D : Type 0} (was now : Client D) → now ≡ was → KeepsTrail (stamps_of was) (stamps_of now)
same_client was now same = same_stamps (stamps_of was) (stamps_of now) (ap stamps_of same)

-- nothing but classes is another
pub classes_trail : {D : Type 0} (was now : Client D) → ChangesClasses was now → KeepsTrail (stamps_of was) (stamps_of now)
classes_trail was now same = same_stamps (stamps_of was) (stamps_of now) same.stamps

-- so it does not matter what the first that waits is told, ..
pub verdict_own : (said : Noted) → IsOwn (verdict_change said)
verdict_own (notes.Settled number) = tt
verdict_own (notes.Conflict read) = tt

-- .. nor what the next step is, ..
pub step_trails : {D : Type 0} (medium : Medium D) (was now : Client D) (it : Transaction) (first : Bool) (code : Code) (step : Step)
    → IsTied medium was → StepIs was it first code step now → KeepsTrail (stamps_of was) (stamps_of now)
step_trails medium was now it first code (steps.Acted acts ended) tied is =
    noted_trails medium was now (changed.Acted it.number is.act) tt tied is.notes
step_trails medium was now it first code (steps.Fetch request path) tied is = classes_trail was now is.1.stays
step_trails medium was now it first code (steps.AtEnd acts) tied is = classes_trail was now is.2
step_trails medium was now it first code (steps.AtLimit acts) tied is = classes_trail was now is.3

-- .. nor what becomes of one that is to end, ..
pub end_trails : {D : Type 0} (medium : Medium D) (was now : Client D) (it : Transaction) (first : Bool) (code : Code) (ended : Ended)
    → IsTied medium was → EndIs was it first code ended now → KeepsTrail (stamps_of was) (stamps_of now)
end_trails medium was now it first code (ends.Joined tid class) tied is =
    noted_trails medium was now (changed.Ended it.number) tt tied is.2.notes
end_trails medium was now it first code (ends.Again read question) tied is =
    noted_trails medium was now (changed.Again it.number) tt tied is.notes

-- .. nor whether something is cut off
pub cut_trails : {D : Type 0} (was now : Client D) (running : List Transaction) (told : Option (ℕ × ℕ)) → CutsIfAny running told was now
    → KeepsTrail (stamps_of was) (stamps_of now)
cut_trails was now [] told is = same_client was now is.1
cut_trails was now (it ∷ running) told is = same_stamps (stamps_of was) (stamps_of now) is.notes.stamps
