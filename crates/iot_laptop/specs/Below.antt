-- The words of the crates below, and of this crate's code, that several modules here use.
pub use Rattle.std.specs.Prelude.{Bool, IfErr, IfOk, IsErrOf, IsSome, List, None, OnOk, Option, Some, false, length, option_map, true, ℕ}
pub use Rattle.{std.specs.Prelude.[], iot_acts.specs.Turns.reads_of}
pub use Rattle.iot_client.specs.{Calls.live_numbered, Calls.may_end_if_any, Ties.Live, Ties.records_of}
pub use Rattle.{iot_disk.specs.Disk.Medium, iot_judging.specs.Verdicts.SpellsVerdict}
pub use Rattle.iot_kept.specs.{Bringing.brought, Changes.HeadIs, Changes.IsSubmitted, States.State, States.numbered}
pub use Rattle.iot_laptop.specs.declared.{laptop.Laptop.Laptop, seated.Seated.Seated}
pub use Rattle.iot_machine.specs.{Calls.Call, Calls.Try, Clients.ClientState, Clients.Declared, Clients.Plan}
pub use Rattle.iot_machine.specs.{Clients.most_running, Clients.view, Events.no_text, Machine.break, Texts.acts_output, Texts.cut_line}
pub use Rattle.iot_machine.specs.Transactions.{Compared, Differs, Same, has_any}
pub use Rattle.iot_node.specs.{Disks.IsEmpty, Disks.KeepsDisk, Lines.name_of, Posts.PostStands, declared.post.Post.TheVariants.Up}
pub use Rattle.{iot_queue.specs.declared.items.Stage.TheVariants.Conflict as in_conflict, iot_stamp.specs.Stamps.Stamps}
pub use Rattle.{iot_stamp.specs.Stamps.nothing_held, iot_standing.specs.Scripts.AreNamed, iot_standing.specs.States.waits_of}
pub use Rattle.{iot_tree.specs.Tree.Nodes, iot_tree.specs.declared.acts.Read.Read, iot_wire.specs.Meanings.Spells}
