-- A store over its disks.
use Rattle.std.specs.Prelude.{◌≡◌, ℕ, Bool, Option, None}
use Rattle.iot_disk.specs.Disk.{Medium}
use Rattle.iot_durable.specs.Pair as durable
use Rattle.iot_slots.specs.Decoding.{State as Encoded}
use Rattle.iot_slots.specs.declared.slots.Slots.{Slots}
use Rattle.iot_store.specs.Bodies.{IsState}
use Rattle.iot_store.specs.Rules.{rules}
use Rattle.iot_store.specs.States.{State}
use Rattle.iot_store.specs.declared.commit.Commit.{Commit}
use Rattle.iot_store.specs.declared.store.Store.{Store}

-- the tree, the labels and the stamps
abbrev pub state_of : {D : Type 0} → Store D → State
state_of store = durable.memory_of store.durable

-- what is on its first disk
abbrev pub first_of : {D : Type 0} → Store D → Slots D
first_of store = durable.first_of store.durable

-- what is on its second disk, if it has one
abbrev pub second_of : {D : Type 0} → Store D → Option (Slots D)
second_of store = durable.second_of store.durable

-- the one or the other
abbrev pub part_of : {D : Type 0} → (second : Bool) → Store D → Option (Slots D)
part_of second store = durable.part_of second store.durable

-- it has one disk
abbrev pub IsAlone : {D : Type 0} → Store D → Type 0
IsAlone store = second_of store ≡ None

-- the first disk under a store
abbrev pub disk_of : {D : Type 0} → Store D → D
disk_of store = durable.disk_of store.durable

-- the number of commits ever made, modulo 2 ^ 64
abbrev pub count_of : {D : Type 0} → Store D → ℕ
count_of store = durable.count_of store.durable

-- the checkpoint in force on its first disk, and the records behind it
abbrev pub encoded_on : {D : Type 0} → Medium D → Store D → Encoded
encoded_on medium store = durable.encoded_on medium store.durable

-- nothing is under way: each disk has one image, which stands for the state
abbrev pub IsSynced : {D : Type 0} → Medium D → Store D → Type 0
IsSynced medium store = durable.IsSynced medium rules (λ state. state) IsState store.durable

-- the last record on the first disk is that of the commit; before it is what was there, or a checkpoint of the state alone if one was due
abbrev pub IsRecorded : {D : Type 0} → Medium D → (old new : Store D) → Commit → Type 0
IsRecorded medium old new commit = durable.IsRecorded medium rules (λ state. state) old.durable new.durable commit
