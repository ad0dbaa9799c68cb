use Rattle.std.proofs.Common.{◌∙◌, sym, arith}
use Rattle.iot_tree.proofs.FollowLaws.{first_missing, grow_at, follow_at}
use Rattle.iot_tree.proofs.rows.first_bad_row.Goals as goal

pub returns-in_default : goal.returns-in_default
returns-in_default c = let none = rw c.in_default.is at c.first.ensures.value in first_missing c.args.rows.now (sym none)

pub rows-preserved : goal.rows-preserved
rows-preserved c =
    grow_at c.args.rows.now c.rows.at (omega arith) (omega arith) c.index-rows-at.result c.index-rows-at-in-rows.result c.index-rows-at.is
    c.index-rows-at-in-rows.is c.rows.invariant
    (c.follows.ensures.0 c.if-not-follows.false)

pub returns-then-not-follows : goal.returns-then-not-follows
returns-then-not-follows c = record {
  before = λ later. c.rows.invariant;
  bad = λ more.
      let follows =
      follow_at c.args.rows.now c.rows.at (omega arith) (omega arith) c.index-rows-at.result c.index-rows-at-in-rows.result
      c.index-rows-at.is c.index-rows-at-in-rows.is c.rows.invariant more in
      let never = sym c.if-not-follows.true ∙ c.follows.ensures.1 follows in cc;
}
