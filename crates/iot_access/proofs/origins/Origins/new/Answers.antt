use Rattle.iot_access.specs.Origins.{entries}
use Rattle.iot_access.proofs.EntriesLaws.{tells_first}
use Rattle.iot_access.proofs.OriginsLaws.{none_of}
use Rattle.iot_access.proofs.origins.Origins.new.Goals as goal

pub returns : goal.returns
returns c = record {
  rows = tells_first (entries c.new.result) (none_of c.new.result c.new.ensures.empty);
  modes = tells_first (entries c.new-2.result) (none_of c.new-2.result c.new-2.ensures.empty);
}
