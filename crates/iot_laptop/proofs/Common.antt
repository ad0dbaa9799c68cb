-- The words of which the laws of this crate speak.
pub use Rattle.std.proofs.Common.{Bool, Err, List, None, Ok, Option, Result, Some, ap, arith, false, find}
pub use Rattle.std.proofs.Common.{if◌then◌else◌, inl, inr, length, map, refl, rules, subst, sym, take, true, ℕ, [], ◌++◌, ◌∙◌, ◌∷◌, ◌≡◌}
pub use Rattle.std.proofs.lemmas.{List.append-nil, Option.same_Some, Result.IfOk-at_ok, Result.IfOk-weaker}
pub use Rattle.std.specs.Option.{option_copied}
pub use Rattle.iot_client.specs.{Calls.ChangesClasses, Calls.CutsOff, Calls.Notes, Calls.second_class, Faults.MayFail}
pub use Rattle.iot_client.specs.Ties.{IsTied, disk_of, live_of, place_of, stamps_of, state_of}
pub use Rattle.iot_client.specs.declared.{client.Client.Client, fault.ClientFault.ClientFault, fault.ClientFault.TheVariants.Stopped}
pub use Rattle.iot_kept.specs.{Changes.CanFollow, Changes.after, States.Transaction}
pub use Rattle.{iot_lang.specs.Code.Code, iot_lang.specs.Scripts.IsScript, iot_laptop.specs.Alone.NotesAlone}
pub use Rattle.iot_laptop.specs.Below.{AreNamed, Call, ClientState, Declared, IfErr, IfOk, IsErrOf, KeepsDisk, Laptop, Live, Medium}
pub use Rattle.iot_laptop.specs.Below.{OnOk, PostStands, Seated, State, Up, acts_output, live_numbered, no_text, numbered, records_of}
pub use Rattle.iot_laptop.specs.Calls.{Before, CutsAll, EndsAlone, Returned, UnlessNoMemory, done}
pub use Rattle.iot_laptop.specs.Laptops.{ClientStands, IsLent, KeepsTrails, LaptopStands, Reclassed, Stands, StandsAnyhow}
pub use Rattle.iot_laptop.specs.Laptops.{all_second, disk_in, is_alive, live_by, live_in, stamps_by, stamps_in, state_by, state_in}
pub use Rattle.iot_laptop.specs.Seats.{Besides, IsClientImage, begun_of, besides, none_besides, seating}
pub use Rattle.{iot_link.specs.Links.connected, iot_machine.proofs.PossiblyLaws.possibly_sure}
pub use Rattle.iot_machine.proofs.StepsLaws.{answers, asks, at_each, at_one, bind, does, joined, quiet}
pub use Rattle.iot_machine.specs.{Calls.Asks, Calls.At, Calls.Part, Calls.Then, Calls.goes_on, Clients.leave, Clients.repair}
pub use Rattle.iot_machine.specs.{Nodes.Node, Refining.StepFrom, Refining.StepsTo, Texts.transaction_name, Transactions.Writes}
pub use Rattle.iot_node.proofs.PostsLaws.{on_is, same_counts}
pub use Rattle.iot_node.specs.{Disks.counts_on, Posts.StepsFrom, Posts.UpStands, Posts.is_on}
pub use Rattle.iot_node.specs.declared.halt.Halt.{Halt, TheVariants.NoMemory, TheVariants.Over}
pub use Rattle.iot_node.specs.declared.post.Post.{Post, TheVariants.Between, TheVariants.Down}
pub use Rattle.{iot_queue.specs.Queues.head_of, iot_queue.specs.declared.items.Item.Item, iot_standing.proofs.KeptLaws.KeptLive}
pub use Rattle.iot_standing.{proofs.KeptLaws.stands_so, proofs.RunsLaws.live_with, proofs.RunsLaws.lives_then, specs.Kept.RunKept}
pub use Rattle.{iot_standing.specs.Kept.StateKept, iot_standing.specs.States.StateStands, iot_tree.specs.Tree.IsTree}
