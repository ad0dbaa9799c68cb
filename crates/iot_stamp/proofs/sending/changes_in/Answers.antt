use Rattle.std.proofs.Common.{◌∙◌, ap, refl, ◌++◌, ◌∷◌, [], not, cond, Bool}
use Rattle.iot_stamp.specs.Refresh.{IsStampedRow}
use Rattle.iot_stamp.specs.Passes.{from_key, kept, sending}
use Rattle.iot_stamp.specs.Pairing.{stamps_of}
use Rattle.iot_stamp.proofs.EachLaws.{all_push}
use Rattle.iot_stamp.proofs.PickedLaws.{picked_all}
use Rattle.iot_stamp.specs.Stamps.{Entry}
use Rattle.iot_stamp.proofs.SendingLaws.{so_far_none, so_far_all, next_sent, next_unsent}
use Rattle.iot_stamp.proofs.sending.changes_in.Goals.{then-is_sent+in_ok-row_to_send+in_ok-push-2, else-is_sent}
use Rattle.iot_stamp.proofs.sending.changes_in.Goals as goal

pub rows-init : goal.rows-init
rows-init c = (
  so_far_none c.args.rows.now c.args.stamps.now c.args.sent.now c.args.want.now c.args.listed.now c.new-flags.result.items
      c.new-out.result c.new-gone.result c.new-out.ensures c.new-gone.ensures c.new-flags.ensures.items c.requires.rising
      c.requires.listed,
  (rw c.new-out.ensures tt, rw c.new-gone.ensures tt),
)

pub rows-preserved : goal.rows-preserved
rows-preserved c =
    let cut_by = rw c.names.ensures.value at c.truncate.ensures.items in
    let above_by = rw c.as_slice.ensures.value at c.above_of-above.ensures in
    let stack_by = c.in_ok-push.ensures.items
    ∙ ap (λ (kept : Bool × Bool). c.truncate.new.self.items ++ kept ∷ []) c.for_rows_below.ensures in
    let gone_each = c.in_ok-push_if.ensures.each (c.in_ok-known.ensures.each c.rows.invariant.1.1) in
    let hidden_by = c.in_ok-push_if.ensures.pushed
    ∙ ap (λ (b : Bool). c.pass_to.new.passed ++ cond b (c.index-rows-at.result.0 ∷ []) []) c.is_hidden.ensures in
    elim c.if-is_sent.branch [
      | then-is_sent+in_ok-row_to_send+in_ok-push-2 w ↦ (
        next_sent c.args.rows.now c.args.stamps.now c.args.sent.now c.args.want.now c.args.listed.now c.rows.rest.now c.rows.left.now
            c.rows.flags.items c.rows.out c.rows.gone c.rows.at c.index-rows-at.result c.requires.tree c.rows-test.true
            c.index-rows-at.is c.rows.invariant.0 c.truncate.new.self.items c.push.new.self.items c.above_of-above.result
            (from_key c.index-rows-at.result.0 c.rows.rest.now) c.in_ok-known.after.now c.from-left.result.now c.in_ok-known.known
            c.is_kept-kept.result _ c.is_sent.result _ c.pass_to.new.passed c.push_if.new.paths cut_by above_by refl
            c.in_ok-known.ensures.passed c.in_ok-known.ensures.stamp c.in_ok-known.ensures.rest c.from-left.ensures hidden_by
            c.is_kept-kept.ensures (ap not c.is_stamp-fresh.ensures) refl stack_by
            c.is_sent.ensures c.if-is_sent.out w.if-is_sent.true
            (w.out-is ∙ w.in_ok-push-2.ensures.ok ∙ ap (λ (e : Entry). c.rows.out ++ e ∷ []) w.in_ok-row_to_send.ensures.row),
        (
          rw (w.out-is, w.in_ok-push-2.ensures.ok)
              (all_push IsStampedRow c.rows.out _ w.in_ok-row_to_send.ensures.each c.rows.invariant.1.0),
          gone_each,
        ),
      )
      | else-is_sent w ↦
          rw w.out-is (
            next_unsent c.args.rows.now c.args.stamps.now c.args.sent.now c.args.want.now c.args.listed.now c.rows.rest.now
                c.rows.left.now c.rows.flags.items c.rows.out c.rows.gone c.rows.at c.index-rows-at.result c.requires.tree
                c.rows-test.true c.index-rows-at.is c.rows.invariant.0 c.truncate.new.self.items c.push.new.self.items
                c.above_of-above.result (from_key c.index-rows-at.result.0 c.rows.rest.now) c.in_ok-known.after.now
                c.from-left.result.now c.in_ok-known.known c.is_kept-kept.result _ c.is_sent.result _
                c.pass_to.new.passed c.push_if.new.paths cut_by above_by refl
                c.in_ok-known.ensures.passed c.in_ok-known.ensures.stamp c.in_ok-known.ensures.rest c.from-left.ensures hidden_by
                c.is_kept-kept.ensures (ap not c.is_stamp-fresh.ensures) refl stack_by c.is_sent.ensures w.if-is_sent.false,
            (c.rows.invariant.1.0, gone_each),
          )
    ]

pub returns-clause-rows : goal.returns-clause-rows
returns-clause-rows c =
    picked_all
    (sending (stamps_of c.args.rows.now c.args.stamps.now) c.args.sent.now
    (kept (stamps_of c.args.rows.now c.args.stamps.now) c.args.sent.now c.args.want.now c.args.listed.now))
    c.args.rows.now c.rows.at c.rows.out c.rows-test.false c.rows.auto.at-end c.rows.invariant.0.out_is

pub returns-clause-gone : goal.returns-clause-gone
returns-clause-gone c =
    so_far_all c.args.rows.now c.args.stamps.now c.args.sent.now c.args.want.now c.args.listed.now c.rows.rest.now c.rows.left.now
    c.rows.flags.items c.rows.out c.rows.gone
    c.pass_all.new.passed c.rows.at c.requires.tree.rising c.rows-test.false c.rows.auto.at-end c.rows.invariant.0
    c.in_ok-pass_all.ensures.passed

pub returns-clause-each : goal.returns-clause-each
returns-clause-each c = (c.rows.invariant.1.0, c.in_ok-pass_all.ensures.each c.rows.invariant.1.1)
