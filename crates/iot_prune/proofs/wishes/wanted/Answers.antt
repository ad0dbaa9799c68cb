use Rattle.std.proofs.Common.{◌≡◌, ◌||◌, ◌&&◌, sym, subst, ap, ◌∙◌}
use Rattle.std.proofs.lemmas.Result.{IfOk-weaker}
use Rattle.std.specs.FinMap.{find, get-entries}
use Rattle.std.specs.Prelude.{is_some}
use Rattle.iot_text.specs.Paths.{is_below, path_cmp, prefixes}
use Rattle.iot_tree.specs.Rows.{Rising}
use Rattle.iot_tree.specs.Snapshots.{ArePathsRising, has, wants}
use Rattle.iot_tree.specs.Tree.{Row}
use Rattle.iot_tree.proofs.SnapshotLaws.{paths_rising}
use Rattle.iot_prune.proofs.JoinLaws.{joined_rising, has_joined}
use Rattle.iot_prune.proofs.WishLaws.{prefixes_rising, has_below}
use Rattle.iot_prune.proofs.wishes.wanted.Goals as goal

pub returns-in-Path-clause-rising : goal.returns-in-Path-clause-rising
returns-in-Path-clause-rising c =
    IfOk-weaker c.prefixes.result _ _ (λ paths is. subst ArePathsRising (sym is) (prefixes_rising c.in-Path.path)) c.prefixes.ensures

pub returns-in_ok-below-in-Below-clause-rising : goal.returns-in_ok-below-in-Below-clause-rising
returns-in_ok-below-in-Below-clause-rising c =
    let rising : Rising c.as_slice.result.now = subst Rising (sym c.as_slice.ensures) c.rows.ensures.valid.rising in
    let above : ArePathsRising c.in_ok-above-in-Below.above =
    subst ArePathsRising (sym c.in_ok-above-in-Below.ensures) (prefixes_rising c.in-Below.path) in
    let below : ArePathsRising c.in_ok-below-in-Below.below =
    subst ArePathsRising (sym c.in_ok-below-in-Below.ensures)
    (paths_rising (λ (row : Row). is_below row.0 c.in-Below.path) c.as_slice.result.now rising) in
    IfOk-weaker c.joined.result _ _ (λ paths is.
    subst ArePathsRising (sym is) (joined_rising c.in_ok-above-in-Below.above c.in_ok-below-in-Below.below above below)) c.joined.ensures

pub returns-in_ok-below-in-Below-clause-paths : goal.returns-in_ok-below-in-Below-clause-paths
returns-in_ok-below-in-Below-clause-paths c =
    IfOk-weaker c.joined.result _ _ (λ paths is p.
    let below : has c.in_ok-below-in-Below.below p ≡ (is_below p c.in-Below.path && is_some (find path_cmp p c.as_slice.result.now)) =
    ap (λ list. has list p) c.in_ok-below-in-Below.ensures ∙ has_below c.in-Below.path p c.as_slice.result.now in
    let row = ap (find path_cmp p) (c.as_slice.ensures ∙ c.rows.ensures.rows) ∙ sym (get-entries c.args.s.now p) in
    ap (λ list. has list p) is ∙ has_joined c.in_ok-above-in-Below.above c.in_ok-below-in-Below.below p
    ∙ (λ i. has (c.in_ok-above-in-Below.ensures i) p || below i)
    ∙ ap (λ found. has (prefixes c.in-Below.path) p || (is_below p c.in-Below.path && is_some found)) row
    ∙ ap (λ want. wants c.args.s.now want p) (sym c.in-Below.is)) c.joined.ensures
