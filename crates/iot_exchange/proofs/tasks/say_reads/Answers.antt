use Rattle.iot_exchange.proofs.{Common.ap, Common.option_copied, DoesLaws.refuses, DoesLaws.tells, TransactionsLaws.reads_at}
use Rattle.iot_exchange.proofs.tasks.say_reads.Goals as goal

pub returns-in_ok-reads-in-Some : goal.returns-in_ok-reads-in-Some
returns-in_ok-reads-in-Some g c server ready scripts =
    reads_at c.args.place c.items.result.now c.get.result (cc) c.get.ensures.lookup (ap option_copied c.in-Some.is)
    (tells ready.keeps (λ names at pair here. c.in_ok-reads-in-Some.ensures.ok))

pub returns-in_ok-say-in-None : goal.returns-in_ok-say-in-None
returns-in_ok-say-in-None g c server ready scripts =
    reads_at c.args.place c.items.result.now c.get.result (cc) c.get.ensures.lookup (ap option_copied c.in-None.is)
    (refuses ready.keeps c.in_ok-say-in-None.ensures)
