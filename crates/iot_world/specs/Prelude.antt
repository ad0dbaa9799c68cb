-- The words of other crates of which the definitions and laws of this crate speak.
pub use Rattle.std.specs.List.{AllByRecursion}
pub use Rattle.std.specs.Prelude.{Bool, IfOk, IfSome, List, None, OnOk, Option, Some, false, length, map, true, ℕ, []}
pub use Rattle.{std.specs.Vec.vec_capacity, std.specs.Vec.vec_len, iot_disk.specs.Disk.Medium, iot_event.specs.Declarations.AreDeclared}
pub use Rattle.iot_event.specs.declared.event.{ClientEvent.TheVariants.Node, Event.Event, NodeEvent.NodeEvent}
pub use Rattle.iot_laptop.specs.Laptops.{ClientStands, KeepsTrails, SamePlace, StandsAnyhow, disk_in}
pub use Rattle.iot_laptop.specs.declared.laptop.Laptop.{Laptop}
pub use Rattle.iot_machine.specs.{Clients.Declared, Events.event_part, Machine.Client, Machine.Commit, Machine.Machine, Refining.Refines}
pub use Rattle.{iot_machine.specs.Texts.client_line, iot_node.specs.Disks.KeepsDisk}
pub use Rattle.iot_server_node.specs.Servers.{HasPlaces, ServerStands, disk_of, is_promoted}
pub use Rattle.{iot_server_node.specs.declared.disks.Disks.Disks, iot_text.specs.Texts.Extends, iot_world.specs.declared.world.World.World}
