use Rattle.std.proofs.Common.{sym, subst}
use Rattle.std.proofs.lemmas.Result.{IfOk-weaker}
use Rattle.iot_tree.specs.Rows.{Rising}
use Rattle.iot_tree.specs.Snapshots.{ArePathsRising, is_known}
use Rattle.iot_tree.proofs.SnapshotLaws.{paths_rising}
use Rattle.iot_prune.proofs.knowledge.known.Goals as goal

pub returns-clause-rising : goal.returns-clause-rising
returns-clause-rising c =
    let rising : Rising c.as_slice.result.now = subst Rising (sym c.as_slice.ensures) c.rows.ensures.valid.rising in
    IfOk-weaker c.known_paths.result _ _
    (λ paths is. subst ArePathsRising (sym is) (paths_rising (λ row. is_known row.1) c.as_slice.result.now rising))
    c.known_paths.ensures
