-- A server over its disks.
use Rattle.std.specs.Prelude.{ℕ, Bool, Option}
use Rattle.iot_disk.specs.Disk.{Medium}
use Rattle.iot_slots.specs.Decoding.{State as Encoded}
use Rattle.iot_slots.specs.declared.slots.Slots.{Slots}
use Rattle.iot_store.specs.States.{State}
use Rattle.iot_store.specs.Store as store
use Rattle.iot_store.specs.declared.store.Store.{Store}
use Rattle.iot_server.specs.declared.server.Server.{Server}
use Rattle.iot_server.specs.declared.traffic.Traffic.{Traffic}

-- the tree and the labels
abbrev pub state_of : {D : Type 0} → Server D → State
state_of server = store.state_of server.store

abbrev pub store_of : {D : Type 0} → Server D → Store D
store_of server = server.store

abbrev pub traffic_of : {D : Type 0} → Server D → Traffic
traffic_of server = server.traffic

-- what is on its first disk
abbrev pub first_of : {D : Type 0} → Server D → Slots D
first_of server = store.first_of server.store

-- what is on its second disk, if it has one
abbrev pub second_of : {D : Type 0} → Server D → Option (Slots D)
second_of server = store.second_of server.store

-- the one or the other
abbrev pub part_of : {D : Type 0} → (second : Bool) → Server D → Option (Slots D)
part_of second server = store.part_of second server.store

-- it has one disk
abbrev pub IsAlone : {D : Type 0} → Server D → Type 0
IsAlone server = store.IsAlone server.store

-- the first disk under a server
abbrev pub disk_of : {D : Type 0} → Server D → D
disk_of server = store.disk_of server.store

-- the number of commits ever made, modulo 2 ^ 64
abbrev pub count_of : {D : Type 0} → Server D → ℕ
count_of server = store.count_of server.store

-- the checkpoint in force on its first disk, and the records behind it
abbrev pub encoded_on : {D : Type 0} → Medium D → Server D → Encoded
encoded_on medium server = store.encoded_on medium server.store

-- nothing is under way: each disk has one image, which stands for the state
abbrev pub IsSynced : {D : Type 0} → Medium D → Server D → Type 0
IsSynced medium server = store.IsSynced medium server.store
