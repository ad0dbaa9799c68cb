-- Slots over their disk.
use Rattle.std.specs.Prelude.{◌≡◌, ◌⊎◌, ℕ, List, [], ◌∷◌, ◌++◌}
use Rattle.iot_disk.specs.Disk.{Medium, Only}
use Rattle.iot_records.specs.Images.{Each}
use Rattle.iot_slots.specs.Cells.{next}
use Rattle.iot_slots.specs.Decoding.{Encodes, State, decoded, state_of}
use Rattle.iot_slots.specs.Layouts.{IsLaidOut}
use Rattle.iot_slots.specs.declared.layout.Layout.{Layout}
use Rattle.iot_slots.specs.declared.slots.Slots.{Slots}
use Rattle.iot_slots.specs.declared.version.Version.{Version}
use Rattle.iot_slots.specs.declared.version.Version.TheVariants.{Two}

-- ---- states

-- one record more
abbrev pub appended : State → List ℕ → State
appended state body = record { version = state.version; body = state.body; bodies = state.bodies ++ body ∷ []; count = next state.count }

-- a checkpoint of version 2 with this body, and no records
abbrev pub renewed : State → List ℕ → State
renewed state body = record { version = Two; body = body; bodies = []; count = state.count }

-- each image encodes this state
abbrev pub EachEncodes : (header : List ℕ) (images : List ℕ → Type 0) → State → Type 0
EachEncodes header images state = Each (λ image. decoded header image ≡ Encodes state) images

-- each image encodes one of the two
abbrev pub EachEncodesEither : (header : List ℕ) (images : List ℕ → Type 0) → (before after : State) → Type 0
EachEncodesEither header images before after =
    Each (λ image. (decoded header image ≡ Encodes before) ⊎ (decoded header image ≡ Encodes after)) images

-- ---- slots

abbrev pub disk_of : {D : Type 0} → Slots D → D
disk_of slots = slots.disk

abbrev pub header_of : {D : Type 0} → Slots D → List ℕ
header_of slots = slots.header

-- where the parts of their disk are
abbrev pub layout_of : {D : Type 0} → Slots D → Layout
layout_of slots = slots.layout

abbrev pub count_of : {D : Type 0} → Slots D → ℕ
count_of slots = slots.layout.count

-- the version of the checkpoint in force
abbrev pub version_of : {D : Type 0} → Slots D → Version
version_of slots = slots.layout.version

-- the state that their disk encodes
abbrev pub state_on : {D : Type 0} → Medium D → Slots D → State
state_on medium slots = state_of (decoded slots.header (medium.reads slots.disk))

-- nothing is under way: the disk has one image, and it encodes a state
pub record IsSynced {D : Type 0} (medium : Medium D) (slots : Slots D) : Type 0 where
  pub only : Only (medium.reads slots.disk) (medium.may_leave slots.disk)
  pub encodes : decoded slots.header (medium.reads slots.disk) ≡ Encodes (state_on medium slots)
  pub layout : IsLaidOut slots.header (medium.reads slots.disk) (state_on medium slots) slots.layout
