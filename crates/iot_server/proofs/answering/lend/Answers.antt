use Rattle.std.proofs.Common.{◌≡◌, sym, subst, IsTrue, List, ℕ}
use Rattle.std.specs.FinMap.{is_sorted}
use Rattle.iot_codec.specs.Laws.Sorted.{sorted_table}
use Rattle.iot_limits.specs.Spelled.{IsSpelledTree}
use Rattle.iot_server.proofs.ChangesLaws.{changes_spelled}
use Rattle.iot_server.proofs.StandingLaws.{store_spelled}
use Rattle.iot_server.proofs.RepliesLaws.{if_ok, refreshed}
use Rattle.iot_store.specs.Store.{state_of}
use Rattle.iot_stamp.specs.Refresh.{asked, changes_for}
use Rattle.iot_text.specs.Paths.{path_cmp}
use Rattle.iot_tree.specs.Tree.{Path}
use Rattle.iot_server.proofs.answering.lend.Goals as goal

pub changed-requires : goal.changed-requires
changed-requires g c =
    subst (λ (known : List (Path × ℕ)). IsTrue (is_sorted path_cmp known)) (sym c.as_slice.ensures)
    (sorted_table c.args.known.now c.requires.known.rising)

pub write_reply-requires : goal.write_reply-requires
write_reply-requires g c =
    changes_spelled c.stamped.result.now c.as_slice.result.now
    (asked c.stamped.result.now c.as_slice.result.now c.args.want.now) c.in_ok-changes.changes
    (subst IsSpelledTree (sym c.stamped.ensures.tree) (store_spelled _ _ c.requires.synced))
    c.in_ok-changes.ensures.value c.in_ok-changes.ensures.rising c.in_ok-changes.ensures.each

pub returns : goal.returns
returns g c = λ client was.
    let has =
    changes_spelled c.stamped.result.now c.as_slice.result.now
    (asked c.stamped.result.now c.as_slice.result.now c.args.want.now) c.in_ok-changes.changes
    (subst IsSpelledTree (sym c.stamped.ensures.tree) (store_spelled _ _ c.requires.synced))
    c.in_ok-changes.ensures.value c.in_ok-changes.ensures.rising c.in_ok-changes.ensures.each in
    let is =
    subst (λ (known : List (Path × ℕ)). c.in_ok-changes.changes ≡ changes_for c.stamped.result.now known c.args.want.now)
    c.as_slice.ensures c.in_ok-changes.ensures.value in
    if_ok _ _ c.write_reply.result
    (λ bytes spelled.
    refreshed (state_of c.args.store.now) was bytes.items client c.args.known.now c.args.want.now c.in_ok-changes.changes
    c.stamped.result.now c.stamped.ensures.stamps is has spelled)
    c.write_reply.ensures.spelled
