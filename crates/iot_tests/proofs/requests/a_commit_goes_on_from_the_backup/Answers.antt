use Rattle.iot_tests.proofs.StartsLaws.{empty_starts}
use Rattle.iot_tests.proofs.requests.a_commit_goes_on_from_the_backup.Goals as goal

pub started_on_both-requires : goal.started_on_both-requires
started_on_both-requires g c = record {
  each = λ one other left right.
      empty_starts one other (c.new.ensures.only.is one left) (c.new-in-loop-pick.ensures.only.is other right);
}
