use Rattle.std.proofs.Common.{take, subst, arith}
use Rattle.std.proofs.lemmas.List.{take_all}
use Rattle.iot_tree.specs.Ancestors.{proper_prefixes}
use Rattle.iot_tree.specs.Rows.{map_of}
use Rattle.iot_tree.specs.Tree.{Path}
use Rattle.iot_hoard.specs.Choosing.{Taken, IsChoice, take_paths}
use Rattle.iot_hoard.proofs.BelowLaws.{above_more}
use Rattle.iot_hoard.proofs.choosing.Choice.take_above.Goals as goal

pub above-preserved : goal.above-preserved
above-preserved c = record {
  marks = c.take_path.ensures.marks;
  takes = λ so_far is.
      let before : Taken = take_paths (map_of c.args.rows.now) (proper_prefixes (take c.above.len c.args.names.now)) so_far in
      subst (λ (taken : Taken). IsChoice c.args.rows.now taken c.take_path.new.self)
      (above_more (map_of c.args.rows.now) c.args.names.now c.above.len so_far c.above-test.true)
      (c.take_path.ensures.takes before (c.above.invariant.takes so_far is));
}

pub returns-clause-takes : goal.returns-clause-takes
returns-clause-takes c = λ so_far is.
    subst (λ (path : Path).
    IsChoice c.args.rows.now (take_paths (map_of c.args.rows.now) (proper_prefixes path) so_far) c.above.self)
    (take_all c.above.len c.args.names.now (omega arith)) (c.above.invariant.takes so_far is)
