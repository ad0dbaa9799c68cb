-- The words of other crates of which the definitions and laws of this crate speak.
pub use Rattle.std.specs.Prelude.{Err, IfErr, IfOk, List, None, Ok, OnOk, Option, Result, Some, false, option_map, true, ℕ}
pub use Rattle.{iot_count.specs.Counts.Rose, iot_disk.specs.Disk.Storing, iot_disk.specs.declared.faults.JournalFault.JournalFault}
pub use Rattle.iot_machine.specs.{Calls.Call, Nodes.Counts, Nodes.Node, Texts.line, Texts.transaction_name}
pub use Rattle.iot_node.specs.declared.{halt.Halt.Halt, halt.Halt.TheVariants.NoMemory, halt.Halt.TheVariants.Over, post.Doubt.Doubt}
pub use Rattle.iot_node.specs.declared.post.Post.TheVariants.{Between, Down, Up}
pub use Rattle.iot_slots.specs.Cells.{next}
