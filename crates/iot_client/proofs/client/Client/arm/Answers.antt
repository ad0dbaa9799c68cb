use Rattle.std.proofs.Common.{sym, subst}
use Rattle.iot_kept.specs.States.{State}
use Rattle.iot_client.specs.Ties.{AreRuns}
use Rattle.iot_client.proofs.client.Client.arm.Goals as goal

pub returns-clause-tied : goal.returns-clause-tied
returns-clause-tied g c =
    λ tied. record {
      synced = c.arm.ensures.synced tied.synced;
      runs = subst (λ (s : State). AreRuns s.running c.args.self.now.interpreters.items) (sym c.arm.ensures.state) tied.runs;
    }
