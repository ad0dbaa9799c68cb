use Rattle.std.proofs.Common.{length}
use Rattle.iot_codec.proofs.BasesLaws.{IsWritten}
use Rattle.iot_codec.proofs.access.put_bases.Given as goal

abbrev pub invariant-bases : goal.invariant-bases
invariant-bases l = IsWritten l.reads l.places (length l.yielded) l.fn.out l.out
