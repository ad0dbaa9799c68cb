use Rattle.std.proofs.Common.{◌-◌, ◌<◌, [], drop, length, take, subst, arith}
use Rattle.iot_tree.specs.Rows.{map_of}
use Rattle.iot_tree.specs.declared.nodes.Node.TheVariants.{Dir}
use Rattle.iot_hoard.specs.Choosing.{Taken, IsChoice, take_paths}
use Rattle.iot_hoard.proofs.BelowLaws.{paths_of, row_more}
use Rattle.iot_hoard.proofs.choosing.Choice.take_rows.Goals as goal

pub rows-preserved : goal.rows-preserved
rows-preserved c = record {
  marks = c.take_row.ensures.marks;
  takes = λ so_far is.
      let before : Taken =
      take_paths (map_of c.args.rows.now) (paths_of (take (c.rows.at - c.args.from) (drop c.args.from c.args.rows.now))) so_far in
      let inside : c.rows.at < length c.args.rows.now = omega (arith, c.rows-test.true, c.requires.end) in
      subst (λ (taken : Taken). IsChoice c.args.rows.now taken c.take_row.new.self)
      (row_more (map_of c.args.rows.now) c.args.rows.now c.args.from c.rows.at ([], Dir) so_far c.rows.auto.at inside)
      (c.take_row.ensures.takes before ([], Dir) (c.rows.invariant.takes so_far is));
}
