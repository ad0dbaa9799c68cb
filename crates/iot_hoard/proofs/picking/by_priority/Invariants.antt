use Rattle.std.proofs.Common.{◌≡◌, map, take}
use Rattle.iot_hoard.proofs.picking.by_priority.Given as goal

abbrev pub invariant-wishes : goal.invariant-wishes
invariant-wishes l = map (λ wish. wish.now) l.sorted.items ≡ take l.wish-index l.wishes
