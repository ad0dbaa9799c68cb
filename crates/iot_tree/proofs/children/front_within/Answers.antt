use Rattle.std.proofs.Common.{◌≤◌, Bool, length, arith, rules}
use Rattle.std.proofs.lemmas.List.Sorted.{IsPartitionPoint-from_clause}
use Rattle.std.proofs.lemmas.List.Sums.{prefix_len-le-length}
use Rattle.std.specs.List.{prefix_len}
use Rattle.iot_tree.specs.Questions.{is_within}
use Rattle.iot_tree.specs.Tree.{Row}
use Rattle.iot_tree.proofs.CountLaws.{parted_between, front_end}
use Rattle.iot_tree.proofs.children.front_within.Goals as goal

pub overflow_mul-known : goal.overflow_mul-known
overflow_mul-known c =
    let known : c.half_within-known.result ≤ length c.args.rows.now =
    omega (arith, c.half_within-known.ensures.within, prefix_len-le-length (is_within c.args.names.now) c.args.rows.now) in
    search rules

pub offset_bounds-rows-known : goal.offset_bounds-rows-known
offset_bounds-rows-known c =
    let known : c.half_within-known.result ≤ length c.args.rows.now =
    omega (arith, c.half_within-known.ensures.within, prefix_len-le-length (is_within c.args.names.now) c.args.rows.now) in
    search rules

pub slice_bounds-between-count : goal.slice_bounds-between-count
slice_bounds-between-count c =
    omega
    (arith, c.min-end.ensures, c.half_within-known.ensures.within, prefix_len-le-length (is_within c.args.names.now) c.args.rows.now)

pub slice_bounds-between-start : goal.slice_bounds-between-start
slice_bounds-between-start c =
    let known : c.half_within-known.result ≤ length c.args.rows.now =
    omega (arith, c.half_within-known.ensures.within, prefix_len-le-length (is_within c.args.names.now) c.args.rows.now) in
    search rules

-- the closure tests a row's path
pub returns : goal.returns
returns c =
    let fits : c.min-end.result ≤ length c.args.rows.now = omega (arith, c.min-end.ensures) in
    let p : Row → Bool = is_within c.args.names.now in
    let most : prefix_len p c.args.rows.now ≤ c.min-end.result =
    omega (arith, c.min-end.ensures, c.half_within-known.ensures.half, prefix_len-le-length p c.args.rows.now) in
    front_end p c.args.rows.now c.requires c.half_within-known.result c.min-end.result c.partition_point.result
    c.half_within-known.ensures.within most fits c.partition_point.ensures.bound
    (IsPartitionPoint-from_clause p _ _ c.partition_point.ensures.partitioned
    (parted_between p c.args.rows.now c.requires c.half_within-known.result c.min-end.result fits)
    (λ a r f' called. (search rules, search rules)))
