use Rattle.iot_exchange.proofs.{Common.IsReadyWith, Common.SyncsNext, Common.scripts_of, Common.two, DoesLaws.SoFar}
use Rattle.iot_exchange.proofs.queues.sync_all.Given as goal

-- what is left after these makes the whole, and the two are ready for it
abbrev pub invariant-syncs : goal.invariant-syncs
invariant-syncs g l =
    SoFar g.D.Disk.medium (scripts_of l.scripts) l.most SyncsNext (two l.initial.laptop l.initial.server) l.initial.out l.counter
    (two l.laptop l.server) l.out × IsReadyWith g.D.Disk.medium (scripts_of l.scripts) (two l.laptop l.server)
