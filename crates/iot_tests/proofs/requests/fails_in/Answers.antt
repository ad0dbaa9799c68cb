use Rattle.std.proofs.Common.{sym, ◌∙◌}
use Rattle.iot_tests.proofs.StartsLaws.{given_back}
use Rattle.iot_tests.proofs.requests.fails_in.Goals as goal

pub started_on_both-requires : goal.started_on_both-requires
started_on_both-requires g c =
    given_back g.D.Disk.medium c.handle.new.self c.into_disks-first.result.0 c.in-Some.second c.into_disks-first.ensures.first
    (sym c.in-Some.is ∙ c.into_disks-first.ensures.second) c.handle.ensures.restarts
