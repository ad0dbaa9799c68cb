-- A promotion of the server's backup loses no commit.
use Rattle.std.proofs.Common.{sym, subst}
use Rattle.iot_lasting.specs.Lasting.{StandsAt, Lasts}
use Rattle.iot_lasting.specs.Promoting.{PromotionKeepsCommits}
use Rattle.iot_lasting.proofs.FrontLaws.{stands_on, lasts_itself}
use Rattle.iot_lasting.proofs.KeepingLaws.{promotes}
use Rattle.iot_lasting.proofs.LastingLaws.{transcripts_grow}

pub a_promotion_keeps_commits : PromotionKeepsCommits
a_promotion_keeps_commits counts events m n text rest transcript tells step place commit said =
    let lasts : Lasts m.server n.server =
    (promotes m.server).at m n rest tt (lasts_itself m.server (transcripts_grow counts events text m transcript)) step in
    stands_on place commit m.server.durable n.server.durable lasts.front (subst (StandsAt place commit) (sym tells.commits) said)
