use Rattle.iot_codec.proofs.BasesLaws.{AreOnWay}
use Rattle.iot_codec.proofs.access.read_bases.Given as goal

abbrev pub invariant-bases : goal.invariant-bases
invariant-bases l = AreOnWay l.bytes l.count l.initial.end l.reads l.places l.counter l.end
