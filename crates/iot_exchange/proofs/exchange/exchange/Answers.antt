use Rattle.iot_exchange.proofs.ExchangeLaws.{comes, none_comes, reply_lost, unsent}
use Rattle.iot_exchange.proofs.FollowingLaws.{grows}
use Rattle.iot_exchange.proofs.exchange.exchange.Goals as goal

pub returns-in-Away-clause-replied : goal.returns-in-Away-clause-replied
returns-in-Away-clause-replied g c = record {
  is = λ scripts names at query asks.
      unsent c.args.server.now c.is_up.ensures c.pass.ensures.passage c.pass.ensures.after c.in-Away.is;
}

pub returns-in_ok-_lost-in-ReplyLost-clause-replied : goal.returns-in_ok-_lost-in-ReplyLost-clause-replied
returns-in_ok-_lost-in-ReplyLost-clause-replied g c = record {
  is = λ scripts names at query asks.
      reply_lost c.args.server.now c.is_up.ensures c.pass.ensures.passage c.pass.ensures.after (grows query) _ c.in-ReplyLost.is
      (c.in_ok-_lost-in-ReplyLost.ensures.asks names query asks);
}

pub returns-in-Some-clause-replied : goal.returns-in-Some-clause-replied
returns-in-Some-clause-replied g c = record {
  ready = c.requires.ready;
  asked = record {
    is = λ scripts names at query asks.
        comes c.args.server.now c.is_up.ensures c.pass.ensures.passage c.pass.ensures.after (grows query) c.in-Both.is
        (rw c.in-Some.is at (c.in_ok-reply-in-Both.ensures.asks names query asks));
  };
  same = c.pass.ensures.both c.in-Both.is;
  stands = rw (c.pass.ensures.both c.in-Both.is) c.requires.ready.alive;
  lends = rw c.in-Some.is at c.in_ok-reply-in-Both.ensures.lends;
}

pub returns-in-None-clause-replied : goal.returns-in-None-clause-replied
returns-in-None-clause-replied g c = record {
  is = λ scripts names at query asks.
      none_comes c.args.server.now c.is_up.ensures c.pass.ensures.passage c.pass.ensures.after (grows query) c.in-Both.is
      (rw c.in-None.is at (c.in_ok-reply-in-Both.ensures.asks names query asks)) c.broke.ensures;
}
