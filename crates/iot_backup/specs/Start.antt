-- The start of a twin from its disks.
use Rattle.std.specs.Prelude.{◌≡◌, ◌≢◌, ◌⊎◌, ℕ, ◌==◌, false, if◌then◌else◌, List, [], ◌∷◌, length, Some}
use Rattle.iot_count.specs.Counts.{Rose, Stayed}
use Rattle.iot_disk.specs.declared.faults.StartFault.{StartFault}
use Rattle.iot_disk.specs.declared.faults.StartFault.TheVariants as start
use Rattle.iot_records.specs.Images.{Each}
use Rattle.iot_slots.specs.Cells.{next}
use Rattle.iot_slots.specs.Decoding.{Decoded, State, Encodes, NotStarted, Foreign, Damaged, decoded, opened}
use Rattle.iot_slots.specs.Due.{due_on}
use Rattle.iot_slots.specs.Slots.{appended}
use Rattle.iot_backup.specs.Pairs.{counted, follows}
use Rattle.iot_backup.specs.declared.faults.TwinFault.{TwinFault}
use Rattle.iot_backup.specs.declared.faults.TwinFault.TheVariants.{Disk, Apart}

-- ---- the record that the second disk may lack

-- the last of these bodies, or else this one
abbrev pub last_or : List ℕ → List (List ℕ) → List ℕ
last_or body [] = body
last_or body (other ∷ bodies) = last_or other bodies

-- the last of these bodies
abbrev pub last_of : List (List ℕ) → List ℕ
last_of bodies = last_or [] bodies

-- What a start needs of two disks: if neither is refused, and the first one's count is the second one's and one more, then a record follows
-- the first one's checkpoint in force, and no checkpoint is due on the second before the last such record.
abbrev pub MayBeBehind : (header body : List ℕ) → (first second : List ℕ) → Type 0
MayBeBehind header body first second =
    (one other : State) → opened body (decoded header first) ≡ Encodes one → opened body (decoded header second) ≡ Encodes other →
    one.count ≡ next other.count → (one.bodies ≢ []) × (due_on header second (length (last_of one.bodies)) ≡ false)

-- one record more, unless the counts are the same
abbrev pub with_last : (count own : ℕ) → (body : List ℕ) → State → State
with_last count own body state = if count == own then state else appended state body

-- the second state, brought up to the first
abbrev pub brought_up : (first second : State) → State
brought_up first second = with_last first.count second.count (last_of first.bodies) second

-- What an image of the second disk encodes during a start: what its bytes encoded, or the state with the last record of the first disk,
-- which it lacked.
abbrev pub IsBroughtUpFrom : (header body : List ℕ) → (first second : List ℕ) → (image : List ℕ) → Type 0
IsBroughtUpFrom header body first second image =
    (opened body (decoded header image) ≡ opened body (decoded header second))
    ⊎ (
    (one : State) × (other : State) × (opened body (decoded header first) ≡ Encodes one)
    × (opened body (decoded header second) ≡ Encodes other) × (one.count ≡ next other.count)
    × (decoded header image ≡ Encodes (appended other (last_of one.bodies)))
    )

-- no checkpoint is due before that record on an image of the second disk that lacks it
abbrev pub TakesLast : (header body : List ℕ) → (first second : List ℕ) → (images : List ℕ → Type 0) → Type 0
TakesLast header body first second images =
    (one other : State) → opened body (decoded header first) ≡ Encodes one → opened body (decoded header second) ≡ Encodes other →
    one.count ≡ next other.count →
    Each (λ image. opened body (decoded header image) ≡ Encodes other → due_on header image (length (last_of one.bodies)) ≡ false) images

-- ---- refusals

-- the bytes are neither foreign nor damaged
abbrev pub IsTaken : Decoded → Type 0
IsTaken (Encodes state) = Unit {0}
IsTaken NotStarted = Unit {0}
IsTaken Foreign = ⊥
IsTaken (Damaged at) = ⊥

-- The refusal of the first disk if it has one, else that of the second; or memory ran out; or a disk failed, the second only if the first
-- is not refused. Beside it stand what both disks encode, and their counts of faults before and now.
abbrev pub HasDiskCause : StartFault → (one other : Decoded) → (before now other_before other_now : ℕ) → Type 0
HasDiskCause start.NoMemory one other before now other_before other_now = Stayed before now × Stayed other_before other_now
HasDiskCause start.Stopped one other before now other_before other_now =
    (Rose before now × Stayed other_before other_now) ⊎ (IsTaken one × Stayed before now × Rose other_before other_now)
HasDiskCause start.Foreign one other before now other_before other_now =
    ((one ≡ Foreign) ⊎ (IsTaken one × (other ≡ Foreign))) × Stayed before now × Stayed other_before other_now
HasDiskCause (start.Damaged at) one other before now other_before other_now =
    ((one ≡ Damaged at) ⊎ (IsTaken one × (other ≡ Damaged at))) × Stayed before now × Stayed other_before other_now

-- both counts, neither of which is refused, and the first of which is neither the second nor one more
pub record AreApart (first second : ℕ) (one other : Decoded) : Type 0 where
  pub first_is : counted one ≡ Some first
  pub second_is : counted other ≡ Some second
  pub apart : follows first second ≡ false

-- why a start gives no twin
abbrev pub HasCause : TwinFault → (one other : Decoded) → (before now other_before other_now : ℕ) → Type 0
HasCause (Disk fault) one other before now other_before other_now = HasDiskCause fault one other before now other_before other_now
HasCause (Apart first second) one other before now other_before other_now =
    AreApart first second one other × Stayed before now × Stayed other_before other_now

-- a refusal of the bytes or of the counts changes nothing
abbrev pub ChangesNothing : TwinFault → Type 0 → Type 0
ChangesNothing (Disk start.NoMemory) same = Unit {0}
ChangesNothing (Disk start.Stopped) same = Unit {0}
ChangesNothing (Disk start.Foreign) same = same
ChangesNothing (Disk (start.Damaged at)) same = same
ChangesNothing (Apart first second) same = same
