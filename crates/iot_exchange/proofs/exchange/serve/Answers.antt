use Rattle.iot_exchange.proofs.ExchangeLaws.{replies, serves}
use Rattle.iot_exchange.proofs.exchange.serve.Goals as goal

pub returns-in_default-clause-asks : goal.returns-in_default-clause-asks
returns-in_default-clause-asks g c = λ names query asked.
    let it = serves g.D.Disk.medium c.args.message.now c.args.server.now c.serve.new.self c.args.out.now c.in_ok-served.field-0
    c.serve.new.out c.in_ok-served.ensures.lends c.in_ok-served.ensures.judges names query asked in
    record { is = rw c.in_default.is at it }

pub returns-clause-asks : goal.returns-clause-asks
returns-clause-asks g c = λ names query asked.
    let it = serves g.D.Disk.medium c.args.message.now c.args.server.now c.serve.new.self c.args.out.now c.in_ok-served.field-0
    c.serve.new.out c.in_ok-served.ensures.lends c.in_ok-served.ensures.judges names query asked in
    replies g.D.Disk.medium c.args.message.now c.args.server.now c.serve.new.self c.args.out.now c.in-Some.served
    c.in_ok-say_committed.ensures (rw c.in-Some.is at it)
