-- The stamps of the held tree after a change. Only a reply brings stamps of the server, and no record keeps them.
use Rattle.std.specs.Prelude.{◌≡◌, List, [], ◌∷◌, Option, Some, None}
use Rattle.iot_queue.specs.declared.items.Item.{Item}
use Rattle.iot_queue.specs.declared.items.Stage.{Stage}
use Rattle.iot_stamp.specs.Acting.{stamped_acts}
use Rattle.iot_stamp.specs.Stamps.{Stamps, unstamped}
use Rattle.iot_changes.specs.declared.changes.Change.{Change}
use Rattle.iot_changes.specs.declared.changes.Change.TheVariants.{Held, Begun, Fetched, Acted, Ended, Cut, Conflicted, Resolved}
use Rattle.iot_changes.specs.declared.changes.Change.TheVariants.{Repaired, Left, Again}
use Rattle.iot_kept.specs.Changes.{stage_by}

-- the updates of a head that leaves are the client's own
abbrev pub stamps_left : Stamps → List Item → Stamps
stamps_left held [] = held
stamps_left held (item ∷ items) = stamped_acts held item.acts 0

-- a head leaves that stays in no stage
abbrev pub stamps_staying : Option Stage → Stamps → List Item → Stamps
stamps_staying (Some stage) held items = held
stamps_staying None held items = stamps_left held items

abbrev pub stamps_conflicted : Stamps → List Item → Stamps
stamps_conflicted held [] = held
stamps_conflicted held (item ∷ items) = stamps_staying (stage_by item.option) held (item ∷ items)

-- the held tree after a change whose record is all that is known of it, by the items before it
abbrev pub restamped : List Item → Stamps → Change → Stamps
restamped items held (Held tree) = unstamped tree
restamped items held (Begun number script option) = held
restamped items held (Fetched number tree) = unstamped tree
restamped items held (Acted number act) = held
restamped items held (Ended number) = held
restamped items held (Cut number acts) = held
restamped items held Conflicted = stamps_conflicted held items
restamped items held (Resolved done access) = held
restamped items held (Repaired script) = held
restamped items held Left = stamps_left held items
restamped items held (Again number) = held

-- the held tree before and after a change that was made; of one that brings a tree this says nothing
abbrev pub StampsBy : Change → List Item → Stamps → Stamps → Type 0
StampsBy (Held tree) items old new = Unit {0}
StampsBy (Fetched number tree) items old new = Unit {0}
StampsBy change items old new = new ≡ restamped items old change
