use Rattle.iot_exchange.proofs.ExchangeLaws.{away}
use Rattle.iot_exchange.proofs.exchange.miss.Goals as goal

pub returns-clause-all : goal.returns-clause-all
returns-clause-all g c = record {
  none = λ scripts names at query x. away c.args.server.now c.is_up.ensures c.pass.ensures.passage c.pass.ensures.after
      (rw c.requires.down at c.pass.ensures.passage);
}
