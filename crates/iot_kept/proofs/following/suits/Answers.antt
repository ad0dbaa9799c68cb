use Rattle.iot_acts.proofs.GuardLaws.{guarded_act}
use Rattle.iot_kept.proofs.following.suits.Goals as goal

pub returns-then-is_guarded : goal.returns-then-is_guarded
returns-then-is_guarded c =
    let guarded = c.is_guarded.ensures.0 c.if-is_guarded.true in
    let hold = rw (c.as_slice.ensures) at c.do_hold.ensures in (
      λ all. (guarded, guarded_act c.args.act.now guarded c.args.tree.now c.rows-tree.ensures.tree (hold.0 all), hold.0 all),
      λ suits. hold.1 suits.2,
    )
