use Rattle.std.proofs.Common.{refl}
use Rattle.iot_kept.proofs.TurnsLaws.{all_pass, turns_wait}
use Rattle.iot_kept.proofs.checks.all_wait.Goals as goal

pub returns : goal.returns
returns c = (
  (λ passed. turns_wait c.args.items.now (all_pass _ _ _ _ _ _ c.items.invariant c.items-test.false)),
  (λ all. refl),
)
