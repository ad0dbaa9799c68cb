use Rattle.std.proofs.Common.{◌≤◌}
use Rattle.iot_client.specs.Ties.{AreBegun, IsTied, live_of, place_of}
use Rattle.iot_tests.proofs.embeds.run.Given as goal

-- all that run were begun since the start
abbrev pub invariant-steps : goal.invariant-steps
invariant-steps g l = record {
  tied : IsTied g.D.Disk.medium l.client;
  begun : AreBegun (live_of l.client);
  place : place_of l.client ≤ 7;
}
