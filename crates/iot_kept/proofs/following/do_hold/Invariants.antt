use Rattle.iot_kept.proofs.FollowingLaws.{ReadsOnWay}
use Rattle.iot_kept.proofs.following.do_hold.Given as goal

abbrev pub invariant-reads : goal.invariant-reads
invariant-reads l = ReadsOnWay l.tree l.reads l.read-index
