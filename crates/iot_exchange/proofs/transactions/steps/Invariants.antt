use Rattle.iot_exchange.proofs.Common.{Declared, List, Steps, two}
use Rattle.iot_exchange.{proofs.DoesLaws.SoFar, specs.Pairs.IsReady}
use Rattle.iot_exchange.proofs.transactions.steps.Given as goal

-- what is left after these steps makes the whole
abbrev pub invariant-steps : goal.invariant-steps
invariant-steps g l =
    ((scripts : List Declared) → SoFar g.D.Disk.medium scripts l.most (Steps l.number l.loud) (two l.initial.laptop l.initial.server)
    l.initial.out l.counter (two l.laptop l.server) l.out) × IsReady g.D.Disk.medium (two l.laptop l.server)
