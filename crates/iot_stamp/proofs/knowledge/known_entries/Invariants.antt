use Rattle.std.proofs.Common.{◌≡◌, take}
use Rattle.std.specs.List.{filter_map, AllByRecursion}
use Rattle.iot_stamp.specs.Refresh.{known_stamp, IsStampedPath}
use Rattle.iot_stamp.specs.Pairing.{paired}
use Rattle.iot_stamp.proofs.knowledge.known_entries.Given as goal

abbrev pub invariant-rows : goal.invariant-rows
invariant-rows l = (l.known ≡ filter_map known_stamp (take l.at (paired l.rows l.stamps))) × AllByRecursion IsStampedPath l.known
