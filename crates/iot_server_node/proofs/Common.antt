-- The words of which the laws of this crate speak.
pub use Rattle.std.proofs.Common.{Bool, Err, List, None, Option, Result, Some}
pub use Rattle.std.proofs.Common.{ap, arith, false, inl, inr, length, option_map, refl, subst, sym, true, ℕ, [], ◌++◌, ◌+◌, ◌∙◌, ◌∷◌, ◌≡◌}
pub use Rattle.std.proofs.lemmas.{List.length-append, Option.same_Some}
pub use Rattle.iot_backup.{proofs.PairsLaws.if_so, specs.Parts.Changes}
pub use Rattle.iot_certify.specs.declared.verdict.Verdict.TheVariants.{Differs, Holds}
pub use Rattle.iot_disk.specs.{Disk.Only, declared.faults.StartFault.StartFault}
pub use Rattle.iot_durable.specs.{Causes.HasCause, Causes.TakesBytes, Durable.images_of}
pub use Rattle.iot_judging.{proofs.ImagesLaws.renewed_list, proofs.ImagesLaws.state_is, specs.Records.AreOf, specs.Records.IsImage}
pub use Rattle.iot_machine.proofs.StepsLaws.{asks, bind}
pub use Rattle.iot_machine.specs.{Calls.Call, Machine.add_commit, Nodes.Counts, Nodes.arming_as}
pub use Rattle.iot_machine.specs.{Nodes.changed, Recorded.label_of, Refining.Refines, Serving.commit_text, Stops.Appends, Stops.ComesBackAs}
pub use Rattle.iot_node.specs.{Disks.OnlyImage, Disks.counts_on, Keeping.CanStart, Keeping.EachIs, Keeping.IsEither}
pub use Rattle.iot_node.specs.Posts.{HoldsBy, Lasts, PostStands, is_on}
pub use Rattle.iot_node.specs.declared.post.{Doubt.Doubt, Post.Post, Post.TheVariants.Down, Post.TheVariants.Up}
pub use Rattle.iot_server.specs.{Replies.IsAnswered, Replies.Submits, declared.server.Server.Server}
pub use Rattle.iot_server_node.specs.Disks.{Image, MayLeave, MayLeaveOf, faults_in, on_both, other_in, placed, reads_may_leave}
pub use Rattle.iot_server_node.specs.Keepers.{Both, Cuts, Handles, KeepsList, Refuses, disks_in, lists}
pub use Rattle.iot_server_node.specs.Prelude.{Commit, Disks, If, IsMessage, IsRequest, KeepsDisk, Leads, Medium, Node, Pick, ServerKeeper}
pub use Rattle.iot_server_node.specs.Prelude.{State, StepsTo, Storing, Two, kept_text, request_spelling, rules, server_name, state_of}
pub use Rattle.iot_server_node.specs.{Prelude.tree_after, Records.AreImages, Records.AreSo, Servers.HasAnswered, Servers.HavingAnswered}
pub use Rattle.iot_server_node.specs.Servers.{IsKnown, KeepsCommits, NodeIsKnown, ServerIsSound, ServerStands, disk_of, is_up}
pub use Rattle.iot_server_node.specs.declared.server.{Served.Served, ServerNode.ServerNode}
pub use Rattle.iot_slots.specs.{Cells.next, Decoding.State as Encoded}
pub use Rattle.iot_slots.specs.{Decoding.decoded, Slots.disk_of as disk_on, Slots.state_on, declared.slots.Slots.Slots}
pub use Rattle.iot_store.proofs.StandingLaws.{second_stays, store_counted, store_stays}
pub use Rattle.iot_store.specs.{Numbers.number_in, Rules.header, Standing.EachStarts, Standing.EachStays}
pub use Rattle.iot_store.specs.{Standing.IsGrown, Standing.MayFollow, Standing.StandFor, States.CanFollow, States.after_commit}
pub use Rattle.iot_tree.specs.declared.{access.Access.Access, labels.Label.Label}
pub use Rattle.iot_wire.specs.declared.{replies.Reply.Reply, requests.Request.Request}
