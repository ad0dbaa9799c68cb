-- The words of the contracts and of their proofs, from one place.
pub use Rattle.std.specs.Prelude.{Bool, Err, IfOk, List, Ok, OnOk, Result, Some, codes, false, length, map, true, ℕ, []}
pub use Rattle.{iot_event.specs.Declarations.ResolverIsDeclared, iot_judging.specs.Errands.IsErrand}
pub use Rattle.iot_laptop.specs.{Laptops.LaptopStands, Laptops.Stands, Laptops.stamps_in, Laptops.state_in, declared.laptop.Laptop.Laptop}
pub use Rattle.iot_machine.specs.{Calls.Goes, Calls.Try, Clients.Declared, Events.Refreshes, Machine.Client}
pub use Rattle.iot_machine.specs.{Machine.Pair, Options.OnConflict as Chosen, Refining.StepsTo, Serving.Verdict, Transactions.Begins}
pub use Rattle.{iot_machine.specs.Transactions.SyncsAll, iot_node.specs.Lines.name_of, iot_node.specs.declared.halt.Halt.Halt}
pub use Rattle.iot_server_node.specs.{Servers.ServerStands, Servers.is_up, declared.server.ServerNode.ServerNode}
pub use Rattle.iot_standing.specs.Scripts.{IsMeant, Means}
pub use Rattle.iot_tree.specs.Profiles.{IsProfile, IsWalkLimit}
