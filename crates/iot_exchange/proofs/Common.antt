-- The words of which the laws of this crate speak.
pub use Rattle.std.proofs.Common.{Bool, Bor, Err, IsErrAnd, IsSome}
pub use Rattle.std.proofs.Common.{List, None, Ok, Option, Result, Some, Vec, ap, arith, bytes_eq, codes, false, inl, inr, length, map, not}
pub use Rattle.std.proofs.Common.{refl, rules, slice_get, slice_index_or, subst, sym, true, ℕ, [], ◌++◌, ◌+◌, ◌-◌, ◌<◌, ◌^◌, ◌∙◌, ◌∷◌, ◌≡◌}
pub use Rattle.std.proofs.lemmas.{List.append-nil, Option.same_Some, Option.slice_get-get_or, Result.on_ok_weaker}
pub use Rattle.std.specs.{List.find, Option.option_copied}
pub use Rattle.{iot_acts.specs.Traces.after_acts, iot_client.specs.declared.steps.Step.Step, iot_disk.specs.Disk.Medium}
pub use Rattle.iot_exchange.specs.Pairs.{Asked, AsksFor, Both, Came, Does, DoesFrom}
pub use Rattle.iot_exchange.specs.Pairs.{IsAt, IsReadyWith, Judgment, KeepsDisks, Objects, PairStands, Query, UpStands, request_of, two}
pub use Rattle.iot_exchange.specs.{Queues.SyncsNext, Saying.line_of, Saying.synced_by, Saying.told_synced, Saying.told_text}
pub use Rattle.iot_exchange.specs.{Scripts.script_of, Scripts.scripts_of, Words.Client, Words.Declared, Words.Goes, Words.Halt}
pub use Rattle.iot_exchange.specs.Words.{Laptop, LaptopStands, Pair, ServerNode, ServerStands, StepsTo, Try, name_of, stamps_in, state_in}
pub use Rattle.iot_judging.{proofs.FollowingLaws.Grows, specs.Errands.base_of, specs.Lists.Follows, specs.Lists.state_of}
pub use Rattle.{iot_judging.specs.Verdicts.SpellsVerdict, iot_kept.specs.Bringing.brought, iot_lang.specs.Code.Code}
pub use Rattle.iot_laptop.specs.{Alone.yielding, Calls.AsksAll, Calls.Keeps, Calls.UnlessNoMemory}
pub use Rattle.iot_laptop.specs.{Calls.done, Calls.errand_of, Calls.held_for, Laptops.Reclassed, Laptops.disk_in, Messages.SpellsTree}
pub use Rattle.iot_machine.proofs.StepsLaws.{joined, quiet}
pub use Rattle.iot_machine.specs.Calls.{Answers, Asks, Call, Repeats, Tells, Then, unless_over}
pub use Rattle.iot_machine.specs.Clients.{ClientState, act_once, hold, new_client}
pub use Rattle.iot_machine.specs.{Machine.Commit, Machine.kept, Machine.script_at, Nodes.Node, Options.OnConflict}
pub use Rattle.iot_machine.specs.{Refining.StepFrom, Serving.Errand, Serving.Refresh, Texts.line, Texts.transaction_name}
pub use Rattle.iot_machine.specs.Transactions.{Compared, Notes, Same, Steps, Yields, has_any, pends, yield_if}
pub use Rattle.iot_node.specs.{Disks.KeepsDisk, declared.halt.Halt.TheVariants.NoMemory, declared.halt.Halt.TheVariants.Over}
pub use Rattle.iot_queue.specs.declared.items.{Item.Item, Stage.Stage}
pub use Rattle.iot_server_node.specs.{Messages.SpellsCut, Servers.stamps_of, declared.message.Message.Message}
pub use Rattle.iot_stamp.specs.Stamps.{Stamps, nodes_of, nothing_held}
pub use Rattle.iot_standing.{proofs.StatesLaws.runs_is, proofs.StatesLaws.waits_is, specs.Kept.ItemsStand}
pub use Rattle.iot_standing.specs.{Scripts.HasNamed, Scripts.IsCodeOf, Scripts.option_named, Scripts.script_named, States.waits_of}
pub use Rattle.{iot_tree.specs.Tree.IsTree, iot_tree.specs.Tree.Nodes, iot_wire.proofs.MessagesLaws.call_one}
pub use Rattle.iot_wire.{proofs.SpellingLaws.reply_laws, specs.Messages.IsOneMessage, specs.Rules.IsReply, specs.Spelling.reply_spelling}
