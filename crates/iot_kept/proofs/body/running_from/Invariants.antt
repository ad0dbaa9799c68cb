use Rattle.std.proofs.Common.{length}
use Rattle.iot_kept.proofs.ResumingLaws.{OnResume}
use Rattle.iot_kept.proofs.body.running_from.Given as goal

abbrev pub invariant-running : goal.invariant-running
invariant-running l = OnResume l.fn.running l.made.items l.left.items

abbrev pub decreases-running : goal.decreases-running
decreases-running l = length l.left.items
