-- What a durable state ends as if the state in memory is lent to be changed.
use Rattle.std.specs.Borrow.{Lends, Fml, RattleType, MutBor}
use Rattle.iot_durable.specs.contracts.durable.Durable.{the_row}
use Rattle.iot_durable.specs.declared.durable.Durable.{Durable}

-- once the borrow r ends, it has in memory what was last written through r, and the log is as it was
abbrev pub lends_state : (R L : RattleType) → MutBor (Durable R.Denot L.Denot) → MutBor R.Denot → Fml
lends_state R L s r = Lends (the_row R L) R s r (λ w. record s.now { state = w })
