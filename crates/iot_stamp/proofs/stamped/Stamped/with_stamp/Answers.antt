use Rattle.std.proofs.Common.{◌≡◌, ◌∙◌, sym, ap, subst}
use Rattle.std.specs.FinMap.{entries}
use Rattle.iot_stamp.specs.Lining.{stamps_by}
use Rattle.iot_stamp.specs.Pairing.{AreStamps, stamps_of}
use Rattle.iot_stamp.proofs.LiningLaws.{are_stamps_by, map_by}
use Rattle.iot_stamp.proofs.stamped.Stamped.with_stamp.Goals as goal

in_line : (c : goal.In_ok-stamps) → c.in_ok-stamps.stamps.items ≡ stamps_by (λ k. c.args.stamp) (entries c.args.tree)
in_line c = c.in_ok-stamps.ensures ∙ ap (stamps_by (λ k. c.args.stamp)) (c.as_slice.ensures ∙ c.rows.ensures.rows)

pub invariant_of-result : goal.invariant_of-result
invariant_of-result c =
    subst (AreStamps (entries c.args.tree)) (sym (in_line c)) (are_stamps_by (λ k. c.args.stamp) (entries c.args.tree))

pub returns : goal.returns
returns c = ap (stamps_of (entries c.args.tree)) (in_line c) ∙ map_by (λ k. c.args.stamp) c.args.tree
