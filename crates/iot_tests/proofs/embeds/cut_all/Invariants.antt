use Rattle.std.proofs.Common.{◌≡◌, length}
use Rattle.iot_client.specs.Ties.{IsTied, place_of, state_of}
use Rattle.iot_tests.proofs.embeds.cut_all.Given as goal

abbrev pub invariant-cuts : goal.invariant-cuts
invariant-cuts g l = record {
  tied : IsTied g.D.Disk.medium l.client;
  place : place_of l.client ≡ place_of l.initial.client;
}

-- each cut leaves one less that runs
abbrev pub decreases-cuts : goal.decreases-cuts
decreases-cuts g l = length (state_of l.client).running
