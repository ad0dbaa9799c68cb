use Rattle.std.proofs.Common.{ap, sym, subst, ◌∙◌, List, []}
use Rattle.iot_limits.specs.Spelled.{IsSpelledTree}
use Rattle.iot_server.proofs.ChangesLaws.{changes_spelled}
use Rattle.iot_server.proofs.StandingLaws.{store_spelled}
use Rattle.iot_server.proofs.RepliesLaws.{if_ok, walked}
use Rattle.iot_store.specs.Store.{state_of}
use Rattle.iot_stamp.specs.Refresh.{changes_on}
use Rattle.iot_tree.specs.Snapshots.{has, ArePathsRising}
use Rattle.iot_tree.specs.Tree.{Path}
use Rattle.iot_server.proofs.answering.walk.Goals as goal

pub listed-requires : goal.listed-requires
listed-requires g c = subst ArePathsRising (sym c.as_slice.ensures) c.in_ok-paths.ensures.rising

pub write_reply-requires : goal.write_reply-requires
write_reply-requires g c =
    changes_spelled c.stamped.result.now [] (has c.as_slice.result.now) c.in_ok-changes.changes
    (subst IsSpelledTree (sym c.stamped.ensures.tree) (store_spelled _ _ c.requires))
    c.in_ok-changes.ensures.value c.in_ok-changes.ensures.rising c.in_ok-changes.ensures.each

pub returns : goal.returns
returns g c = λ client was.
    let has_one =
    changes_spelled c.stamped.result.now [] (has c.as_slice.result.now) c.in_ok-changes.changes
    (subst IsSpelledTree (sym c.stamped.ensures.tree) (store_spelled _ _ c.requires))
    c.in_ok-changes.ensures.value c.in_ok-changes.ensures.rising c.in_ok-changes.ensures.each in
    let is = c.in_ok-changes.ensures.value
    ∙ ap (λ (paths : List Path). changes_on c.stamped.result.now [] (has paths)) c.as_slice.ensures in
    if_ok _ _ c.write_reply.result
    (λ bytes spelled.
    walked (state_of c.args.store.now) was bytes.items client c.args.profile.now c.args.limit c.in_ok-paths.paths
    c.in_ok-changes.changes c.tree.result.now
    c.stamped.result.now c.tree.ensures c.stamped.ensures.stamps c.in_ok-paths.ensures.picks is has_one spelled)
    c.write_reply.ensures.spelled
