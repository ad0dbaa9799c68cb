-- Slots over a disk with one image.
use Rattle.std.proofs.Common.{◌≡◌, inl, inr, ℕ, List, sym, ◌∙◌, ap, subst}
use Rattle.iot_disk.specs.Disk.{Medium, Only}
use Rattle.iot_records.proofs.ImagesLaws.{each_only}
use Rattle.iot_slots.specs.Decoding.{Encodes, State, decoded, state_of}
use Rattle.iot_slots.specs.Layouts.{IsLaidOut}
use Rattle.iot_slots.specs.Slots.{EachEncodes, EachEncodesEither, IsSynced, state_on}
use Rattle.iot_slots.specs.declared.layout.Layout.{Layout}
use Rattle.iot_slots.specs.declared.slots.Slots.{Slots}
use Rattle.iot_slots.proofs.LayoutsLaws.{laid_encodes}

-- if it is laid out, nothing is under way
pub synced : {D : Type 0} (medium : Medium D) (slots : Slots D) (state : State) →
    Only (medium.reads slots.disk) (medium.may_leave slots.disk) → IsLaidOut slots.header (medium.reads slots.disk) state slots.layout →
    IsSynced medium slots
synced medium slots state only laid =
    let is : decoded slots.header (medium.reads slots.disk)
    ≡ Encodes state = laid_encodes slots.header (medium.reads slots.disk) state slots.layout laid in
    let on : state_on medium slots ≡ state = ap state_of is in (
    record {
      only = only;
      encodes = is ∙ ap Encodes (sym on);
      layout = subst (λ (s : State). IsLaidOut slots.header (medium.reads slots.disk) s slots.layout) (sym on) laid;
    }
    )

pub each_laid : (header bytes : List ℕ) (images : List ℕ → Type 0) (state : State) (layout : Layout) → Only bytes images →
    IsLaidOut header bytes state layout → EachEncodes header images state
each_laid header bytes images state layout only laid =
    each_only (λ image. decoded header image ≡ Encodes state) bytes images only (laid_encodes header bytes state layout laid)

pub either_before : (header : List ℕ) (images : List ℕ → Type 0) (before after : State) → EachEncodes header images before →
    EachEncodesEither header images before after
either_before header images before after all = record { each = λ image left. inl (all.each image left) }

pub either_after : (header : List ℕ) (images : List ℕ → Type 0) (before after : State) → EachEncodes header images after →
    EachEncodesEither header images before after
either_after header images before after all = record { each = λ image left. inr (all.each image left) }
