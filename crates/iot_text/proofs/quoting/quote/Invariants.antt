use Rattle.iot_text.proofs.QuotesLaws.{Quoting}
use Rattle.iot_text.proofs.quoting.quote.Given as goal

abbrev pub invariant-bytes : goal.invariant-bytes
invariant-bytes l = Quoting l.fn.out l.out l.bytes l.done l.at
