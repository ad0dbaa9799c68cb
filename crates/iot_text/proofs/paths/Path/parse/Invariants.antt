use Rattle.std.proofs.Common.{◌+◌, ◌-◌, ◌<◌, length}
use Rattle.iot_text.specs.Paths.{IsPath}
use Rattle.iot_text.proofs.PathTextsLaws.{Stepped}
use Rattle.iot_text.proofs.paths.Path.parse.Given as goal

abbrev pub invariant-parts : goal.invariant-parts
invariant-parts l = record {
  names : IsPath l.names.items;
  stepped : Stepped l.names.items l.text l.start;
  not_root : 1 < length l.text;
}

abbrev pub decreases-parts : goal.decreases-parts
decreases-parts l = length l.text + 1 - l.start
