-- The words of other crates of which the definitions and laws of this crate speak.
pub use Rattle.std.specs.Prelude.{Bool, IfErr, IfOk, List, None, OnOk, Option, Some, false, is_some, length, option_map, true, ℕ, []}
pub use Rattle.iot_backup.specs.Parts.{If}
pub use Rattle.iot_disk.specs.{Disk.Arms, Disk.Medium, Disk.Storing, Disk.armed_with, declared.disk.Pick.Pick}
pub use Rattle.{iot_durable.specs.Standing.Leads, iot_judging.specs.Lists.state_of, iot_machine.specs.Machine.Commit}
pub use Rattle.iot_machine.specs.{Machine.tree_after, Nodes.Node, Refining.StepsTo, Serving.Errand, Serving.Submission, Serving.kept_text}
pub use Rattle.{iot_machine.specs.Serving.server_name, iot_machine.specs.Texts.commit_line, iot_node.specs.Disks.IsEmpty}
pub use Rattle.{iot_node.specs.Disks.KeepsDisk, iot_node.specs.Lines.name_of, iot_server.specs.declared.traffic.Traffic.Traffic}
pub use Rattle.iot_server_node.specs.declared.{disks.Disks.Disks, keeper.ServerKeeper.ServerKeeper, message.Handed.Handed}
pub use Rattle.{iot_slots.specs.declared.version.Version.TheVariants.Two, iot_stamp.specs.Stamps.Stamps, iot_stamp.specs.Stamps.nodes_of}
pub use Rattle.{iot_store.specs.Rules.rules, iot_store.specs.States.State, iot_tree.specs.Tree.IsTree, iot_tree.specs.Tree.Nodes}
pub use Rattle.iot_wire.specs.{Messages.IsMessage, Rules.IsRequest, Spelling.request_spelling}
