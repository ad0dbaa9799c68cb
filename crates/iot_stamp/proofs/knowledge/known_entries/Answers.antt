use Rattle.std.proofs.Common.{◌<◌, ◌∙◌, ◌++◌, ◌∷◌, [], sym, ap, List, ℕ, get_or, length, arith}
use Rattle.iot_stamp.proofs.EachLaws.{all_push}
use Rattle.iot_stamp.proofs.PickedLaws.{picked_more, picked_none, picked_all}
use Rattle.iot_stamp.specs.Stamps.{Entry}
use Rattle.iot_tree.specs.Tree.{Row, Path}
use Rattle.iot_stamp.specs.Refresh.{known_stamp, IsStampedPath}
use Rattle.iot_stamp.specs.Pairing.{paired}
use Rattle.iot_stamp.proofs.KnownLaws.{read_paired, stamp_some, stamp_none, long_paired}
use Rattle.iot_stamp.proofs.knowledge.known_entries.Goals.{then-is_known+in_ok-stamped_path+in_ok-push, else-is_known}
use Rattle.iot_stamp.proofs.knowledge.known_entries.Goals as goal

shorter : (rows : List Row) (stamps : List ℕ) (i : ℕ) → i < length rows → i < length (paired rows stamps)
shorter rows stamps i lt = omega (arith, lt, long_paired rows stamps)

pub rows-preserved : goal.rows-preserved
rows-preserved c =
    let e : Entry = (c.index-rows-at.result.0, (c.index-rows-at.result.1, get_or c.args.stamps.now c.rows.at 0)) in
    let is = read_paired c.args.rows.now c.args.stamps.now c.rows.at c.index-rows-at.result e c.rows-test.true c.index-rows-at.is in
    let lt = shorter c.args.rows.now c.args.stamps.now c.rows.at c.rows-test.true in
    elim c.if-is_known.branch [
      | then-is_known+in_ok-stamped_path+in_ok-push w ↦ (
        picked_more known_stamp (paired c.args.rows.now c.args.stamps.now) c.rows.at e (e.0, e.1.1) c.rows.known c.if-is_known.known lt
            is
            (stamp_some e (sym c.is_known.ensures ∙ w.if-is_known.true)) c.rows.invariant.0
            (w.known-is ∙ w.in_ok-push.ensures.ok
            ∙ ap (λ (entry : Path × ℕ). c.rows.known ++ entry ∷ []) w.in_ok-stamped_path.ensures.value),
        rw (w.known-is, w.in_ok-push.ensures.ok)
            (all_push IsStampedPath c.rows.known _ w.in_ok-stamped_path.ensures.each c.rows.invariant.1),
      )
      | else-is_known w ↦ (
        w.known-is
            ∙ picked_none known_stamp (paired c.args.rows.now c.args.stamps.now) c.rows.at e c.rows.known lt is
            (stamp_none e (sym c.is_known.ensures ∙ w.if-is_known.false)) c.rows.invariant.0,
        rw w.known-is c.rows.invariant.1,
      )
    ]

pub returns-clause-value : goal.returns-clause-value
returns-clause-value c =
    let long = long_paired c.args.rows.now c.args.stamps.now in
    picked_all known_stamp (paired c.args.rows.now c.args.stamps.now) c.rows.at c.rows.known (omega (arith, long, c.rows-test.false))
    (omega (arith, long, c.rows.auto.at-end)) c.rows.invariant.0

pub returns-clause-each : goal.returns-clause-each
returns-clause-each c = c.rows.invariant.1
