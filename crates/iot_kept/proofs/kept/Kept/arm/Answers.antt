use Rattle.std.proofs.Common.{sym, subst}
use Rattle.iot_stamp.specs.Stamps.{nodes_of}
use Rattle.iot_kept.specs.Kept.{IsHeldRecord}
use Rattle.iot_kept.specs.declared.memory.Memory.{Memory}
use Rattle.iot_kept.proofs.kept.Kept.arm.Goals as goal

pub returns-clause-synced : goal.returns-clause-synced
returns-clause-synced g c = λ synced. record {
  checkpointed = c.arm.ensures.synced synced.checkpointed;
  spelled = subst (λ (m : Memory). IsHeldRecord c.args.self.now.held_record (nodes_of m.durable.held)) (sym c.arm.ensures.state)
      synced.spelled;
}
