use Rattle.std.proofs.Common.{◌≡◌, ◌∙◌, List, get_or, refl, subst, sym}
use Rattle.iot_stamp.specs.Stamps.{Entry}
use Rattle.iot_held.proofs.JoiningLaws.{Merging, merging_none, merging_all, step_kept, step_left}
use Rattle.iot_held.proofs.joining.joined_rows.Goals.{then-is_kept+in_ok-copy+in_ok-copy-2+in_ok-push-2, else-is_kept}
use Rattle.iot_held.proofs.joining.joined_rows.Goals as goal

pub held-init : goal.held-init
held-init c =
    let all : c.from-rest.result.items ≡ c.args.rows = c.from-rest.ensures.0 ∙ c.into_vec.ensures in
    subst (λ (rest : List Entry). Merging c.args.held.now c.args.stamps.now c.args.rows c.args.gone.now rest c.args.gone.now
    c.new-flags.result.items c.from_vec-out.result 0) (sym all)
    (merging_none c.args.held.now c.args.stamps.now c.args.rows c.args.gone.now c.new-flags.result.items c.from_vec-out.result
    (c.from_vec-out.ensures ∙ c.in_ok-with_capacity.ensures.items) c.new-flags.ensures.items c.requires.rows c.requires.gone)

pub held-preserved : goal.held-preserved
held-preserved c =
    let cut_by = rw c.names.ensures.value at c.truncate.ensures.items in
    let above_by = rw c.as_slice.ensures.value at c.above_or_none-above.ensures in
    let goes_by = rw c.begins.ensures at c.either-goes.ensures in
    elim c.if-is_kept.branch [
      | then-is_kept+in_ok-copy+in_ok-copy-2+in_ok-push-2 w ↦
          step_kept c.args.held.now c.args.stamps.now c.args.rows c.args.gone.now c.held.rest.items c.held.left.now c.held.flags.items
          c.held.out c.held.at c.index-held-at.result c.requires.tree c.held-test.true c.index-held-at.is c.held.invariant
          c.truncate.new.self.items c.push.new.self.items c.above_or_none-above.result c.reach.new.entries.items
          c.from-left.result.now c.in_ok-set.set c.either-goes.result c.is_kept.result _ c.reach.new.out
          cut_by above_by c.in_ok-set.ensures.rest c.in_ok-set.ensures.out c.from-left.ensures
          c.in_ok-set.ensures.here goes_by refl c.in_ok-push.ensures.items c.is_kept.ensures
          _ c.if-is_kept.out w.if-is_kept.true
          (λ i. (w.in_ok-copy.ensures i, (w.in_ok-copy-2.ensures i, get_or c.args.stamps.now c.held.at 0)))
          (w.out-is ∙ w.in_ok-push-2.ensures.ok)
      | else-is_kept w ↦
          step_left c.args.held.now c.args.stamps.now c.args.rows c.args.gone.now c.held.rest.items c.held.left.now c.held.flags.items
          c.held.out c.held.at c.index-held-at.result c.requires.tree c.held-test.true c.index-held-at.is c.held.invariant
          c.truncate.new.self.items c.push.new.self.items c.above_or_none-above.result c.reach.new.entries.items
          c.from-left.result.now c.in_ok-set.set c.either-goes.result c.is_kept.result _ c.reach.new.out
          cut_by above_by c.in_ok-set.ensures.rest c.in_ok-set.ensures.out c.from-left.ensures
          c.in_ok-set.ensures.here goes_by refl c.in_ok-push.ensures.items c.is_kept.ensures
          c.if-is_kept.out w.if-is_kept.false w.out-is
    ]

pub returns : goal.returns
returns c =
    merging_all c.args.held.now c.args.stamps.now c.args.rows c.args.gone.now c.held.rest.items c.held.left.now c.held.flags.items
    c.held.out c.move_all.new.out c.held.at c.held-test.false c.held.auto.at-end c.held.invariant c.in_ok-move_all.ensures
