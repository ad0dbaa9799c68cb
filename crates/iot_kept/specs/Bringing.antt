-- What becomes of the held tree by the changes that a reply brings.
use Rattle.std.specs.Prelude.{ℕ, Result, Ok, Err}
use Rattle.iot_count.specs.Counts.{Rose, Stayed}
use Rattle.iot_durable.specs.declared.fault.NoteFault.{NoteFault}
use Rattle.iot_durable.specs.declared.fault.NoteFault.TheVariants as note
use Rattle.iot_held.specs.declared.merging.MergeFault.{MergeFault}
use Rattle.iot_held.specs.declared.merging.MergeFault.TheVariants as merge
use Rattle.iot_tree.specs.Tree.{Nodes}
use Rattle.iot_tree.specs.declared.changes.Changes.{Changes}
use Rattle.iot_stamp.specs.Refresh.{merged}
use Rattle.iot_stamp.specs.Stamps.{Stamps, nodes_of, nothing_held}
use Rattle.iot_changes.specs.declared.changes.Change.{Change}
use Rattle.iot_changes.specs.declared.changes.Change.TheVariants.{Held, Fetched}
use Rattle.iot_kept.specs.declared.bringing.Purpose.{Purpose}
use Rattle.iot_kept.specs.declared.bringing.Purpose.TheVariants.{Hold, Fetch, Walk}
use Rattle.iot_kept.specs.declared.bringing.BringFault.{BringFault}
use Rattle.iot_kept.specs.declared.bringing.BringFault.TheVariants.{NoMemory, Stopped, NoTree}

abbrev pub of_merge : MergeFault → BringFault
of_merge merge.NoMemory = NoMemory
of_merge merge.NoTree = NoTree

abbrev pub of_note : NoteFault → BringFault
of_note note.NoMemory = NoMemory
of_note note.StoppedBefore = Stopped
of_note note.StoppedInDoubt = Stopped

-- what the changes are merged into: what is held, or nothing
abbrev pub base_for : Purpose → Stamps → Stamps
base_for Hold held = held
base_for (Fetch number) held = held
base_for Walk held = nothing_held

-- the tree into which they are merged, after these changes
abbrev pub brought : Stamps → Changes → Stamps
brought base changes = merged base changes.rows changes.gone

-- the change of what is durable that brings this tree
abbrev pub brought_for : Purpose → Nodes → Change
brought_for Hold tree = Held tree
brought_for (Fetch number) tree = Fetched number tree
brought_for Walk tree = Held tree

-- the change that these changes make of what is held, or of nothing
abbrev pub bringing : Purpose → Stamps → Changes → Change
bringing purpose held changes = brought_for purpose (nodes_of (brought (base_for purpose held) changes))

-- the disk's count of faults, before and after a call with this answer: it rises if the call was stopped, and only then
abbrev pub CountsBringFault : {T : Type 0} → Result T BringFault → ℕ → ℕ → Type 0
CountsBringFault (Ok _) before now = Stayed before now
CountsBringFault (Err NoMemory) before now = Stayed before now
CountsBringFault (Err NoTree) before now = Stayed before now
CountsBringFault (Err Stopped) before now = Rose before now
