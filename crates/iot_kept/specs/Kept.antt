-- What is kept of a client, over its disk.
use Rattle.std.specs.Prelude.{◌≡◌, ℕ, Bool, List, Option, Some, None}
use Rattle.iot_disk.specs.Disk.{Medium}
use Rattle.iot_durable.specs.Alone as durable
use Rattle.iot_tree.specs.Tree.{Nodes}
use Rattle.iot_stamp.specs.Stamps.{Stamps, nodes_of}
use Rattle.iot_changes.specs.Spelling.{change_spelling}
use Rattle.iot_changes.specs.declared.changes.Change.TheVariants.{Held}
use Rattle.iot_kept.specs.Memory.{memory_state, classes_of}
use Rattle.iot_kept.specs.Rules.{rules, IsMemory}
use Rattle.iot_kept.specs.States.{State}
use Rattle.iot_kept.specs.declared.kept.Kept.{Kept}
use Rattle.iot_kept.specs.declared.memory.Memory.{Memory}

-- what is in memory
abbrev pub memory_of : {D : Type 0} → Kept D → Memory
memory_of kept = durable.memory_of kept.checkpointed

-- the durable state
abbrev pub state_of : {D : Type 0} → Kept D → State
state_of kept = memory_state (memory_of kept)

-- the held tree with its stamps, which no disk keeps
abbrev pub stamps_of : {D : Type 0} → Kept D → Stamps
stamps_of kept = (memory_of kept).durable.held

-- whether those that run are first class, in their order
abbrev pub classes_in : {D : Type 0} → Kept D → List Bool
classes_in kept = classes_of (memory_of kept).durable.running.items

-- the disk
abbrev pub disk_of : {D : Type 0} → Kept D → D
disk_of kept = durable.disk_of kept.checkpointed

-- the number of records ever appended, modulo 2 ^ 64
abbrev pub records_of : {D : Type 0} → Kept D → ℕ
records_of kept = durable.count_of kept.checkpointed

-- the record that holds this tree, if it was spelled
abbrev pub IsHeldRecord : Option (List ℕ) → Nodes → Type 0
IsHeldRecord None tree = Unit {0}
IsHeldRecord (Some text) tree = text ≡ change_spelling (Held tree)

-- nothing is under way: the disk has one image, which stands for the state, and the trees beside the state are its views
pub record IsSynced {D : Type 0} (medium : Medium D) (kept : Kept D) : Type 0 where
  pub checkpointed : durable.IsSynced medium rules memory_state IsMemory kept.checkpointed
  pub spelled : IsHeldRecord kept.held_record (nodes_of (stamps_of kept))
