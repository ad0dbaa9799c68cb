-- The words of which the laws of this crate speak.
pub use Rattle.std.proofs.Common.{Bool, List, None, Option}
pub use Rattle.std.proofs.Common.{Some, ap, arith, codes, drop, false, inl, inr, length, map, refl, rules, slice_get, slice_index_or}
pub use Rattle.std.proofs.Common.{slice_set, subst, suc, sym, take, true, zero, ℕ, [], ◌++◌, ◌+◌, ◌<◌, ◌||◌, ◌∙◌, ◌∷◌, ◌≡◌, ◌≤◌, ◌⊎◌}
pub use Rattle.std.proofs.lemmas.{Bool.or_parts, List.append-nil, List.length-append, List.length-map, List.length-set, List.map-append}
pub use Rattle.std.{proofs.lemmas.Option.same_Some, proofs.lemmas.Result.on_ok_weaker, specs.List.AllZip as Each}
pub use Rattle.std.specs.Prelude.{Err, IfErr, Ok, Result, Vec, is_some}
pub use Rattle.{std.specs.declared.alloc.Global.Global, iot_disk.specs.Disk.Arms, iot_disk.specs.Disk.Storing}
pub use Rattle.iot_exchange.{proofs.TransactionsLaws.queue_are, specs.declared.declared.DeclaredScript.DeclaredScript}
pub use Rattle.{iot_judging.proofs.FollowingLaws.follows_kept, iot_kept.specs.States.State, iot_laptop.proofs.NodesLaws.awake_stands}
pub use Rattle.iot_laptop.{proofs.NodesLaws.node_is, specs.Laptops.stamps_in, specs.Seats.seating, specs.declared.seated.Seated.Seated}
pub use Rattle.iot_machine.proofs.StepsLaws.{at_each, does, quiet, says}
pub use Rattle.iot_machine.specs.{Calls.Call, Calls.Says, Calls.either, Events.names_in}
pub use Rattle.iot_machine.specs.{Events.node_part, Machine.client_at, Machine.client_in, Machine.no_client, Nodes.Counts, Nodes.Node}
pub use Rattle.iot_machine.specs.{Nodes.paired, Refining.StepFrom, Refining.StepsTo, Serving.kept_text, Serving.server_name, Texts.line}
pub use Rattle.iot_node.specs.{Disks.counts_on, Keeping.Keeping, Posts.PostStands, Prelude.next, declared.post.Post.Post}
pub use Rattle.iot_node.specs.declared.post.Post.TheVariants.{Between, Down, Up}
pub use Rattle.iot_server_node.{proofs.BackupLaws.placed_in, proofs.BeginningLaws.commits_same, specs.Disks.Image}
pub use Rattle.iot_server_node.specs.{Disks.on_both, Disks.other_of, Disks.placed, Keepers.lists, Servers.HavingAnswered, Servers.IsBeside}
pub use Rattle.iot_server_node.specs.{Servers.KeepsBeside, Servers.KeepsCommits, Servers.is_up, declared.keeper.ServerKeeper.ServerKeeper}
pub use Rattle.{iot_server_node.specs.declared.server.ServerNode.ServerNode, iot_store.specs.Store.state_of}
pub use Rattle.{iot_tree.specs.Profiles.Profile, iot_world.specs.Disks.ServerBegins, iot_world.specs.Disks.with_ends}
pub use Rattle.iot_world.specs.Prelude.{AllByRecursion, Client, ClientStands, Commit, Declared, Disks, Event, Extends}
pub use Rattle.iot_world.specs.Prelude.{HasPlaces, IfSome, KeepsDisk, KeepsTrails, Laptop, Machine, Medium, NodeEvent, OnOk, Refines}
pub use Rattle.iot_world.specs.Prelude.{ServerStands, StandsAnyhow, World, disk_in, disk_of, event_part, is_promoted, vec_capacity, vec_len}
pub use Rattle.iot_world.specs.World.{ArePlaced, ClientIs, DeclaredOn}
pub use Rattle.iot_world.specs.World.{IsWorldOfSome, KeepsDisks, KeepsNode, LaptopHasDisk, LeavesDisks, MakesStep, Opens, SameArms}
pub use Rattle.iot_world.specs.World.{StandsFor, StandsIn, client_count, disks_of, script_names, with_clients, with_first, with_server}
