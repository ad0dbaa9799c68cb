use Rattle.std.proofs.Common.{◌≡◌, take}
use Rattle.iot_hoard.specs.Sizes.{size_within}
use Rattle.iot_hoard.proofs.sizes.size_of.Given as goal

abbrev pub invariant-paths : goal.invariant-paths
invariant-paths l = l.size ≡ size_within l.s (take l.path-index l.k)
