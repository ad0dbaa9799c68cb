-- How far an exchange over a link gets, and what it leaves of the link.
use Rattle.std.specs.Prelude.{Bool, true, false, Option, Some, None}
use Rattle.iot_link.specs.declared.passages.Loss.{Loss}
use Rattle.iot_link.specs.declared.passages.Loss.TheVariants.{Request, Reply}
use Rattle.iot_link.specs.declared.passages.Passage.{Passage}
use Rattle.iot_link.specs.declared.passages.Passage.TheVariants.{Away, RequestLost, ReplyLost, Both}

-- whether it is up, and the message that it is armed to lose
pub record LinkState : Type 0 where
  pub up : Bool
  pub armed : Option Loss

-- a link starts up, and with nothing armed
abbrev pub opened : LinkState
opened = record { up = true; armed = None }

abbrev pub connected : (up : Bool) → LinkState → LinkState
connected up link = record link { up = up }

abbrev pub arming : Loss → LinkState → LinkState
arming loss link = record link { armed = Some loss }

-- after a loss it is not up, and nothing is armed
abbrev pub broken : LinkState
broken = record { up = false; armed = None }

-- With the link up, the request is lost if its loss is armed or the server is down, and else the reply if its loss is armed.
abbrev pub passage_by : (up : Bool) → (armed : Option Loss) → (server_up : Bool) → Passage
passage_by false armed server_up = Away
passage_by true (Some Request) server_up = RequestLost
passage_by true (Some Reply) false = RequestLost
passage_by true None false = RequestLost
passage_by true (Some Reply) true = ReplyLost
passage_by true None true = Both

-- how far an exchange gets
abbrev pub passage : LinkState → (server_up : Bool) → Passage
passage link server_up = passage_by link.up link.armed server_up

-- what the exchange leaves of the link
abbrev pub after_exchange : Passage → LinkState → LinkState
after_exchange Away link = link
after_exchange RequestLost link = broken
after_exchange ReplyLost link = broken
after_exchange Both link = link
