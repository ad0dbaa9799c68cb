use Rattle.std.proofs.Common.{sym, arith, ap, ◌∙◌}
use Rattle.std.specs.Prelude.{bytes_eq}
use Rattle.std.specs.List.{starts_with}
use Rattle.iot_tree.proofs.FarLaws.{no_far_first, no_far_before, far_before}
use Rattle.iot_certify.proofs.places.is_far_before.Goals as goal

pub returns-then-gap-eq0 : goal.returns-then-gap-eq0
returns-then-gap-eq0 c = sym (no_far_first c.args.rows.now c.requires.tree c.args.path.now c.args.gap c.requires.gap c.if-gap-eq0.true)

pub returns-then-not-is_far_dir : goal.returns-then-not-is_far_dir
returns-then-not-is_far_dir c =
    sym
    (no_far_before c.args.rows.now c.requires.tree c.args.path.now c.args.gap c.requires.gap (omega arith) c.index-rows-gap.result
    c.index-rows-gap.is (sym c.is_far_dir.ensures ∙ c.if-not-is_far_dir.true))

pub returns : goal.returns
returns c =
    let tests = c.starts_with.ensures ∙ ap (starts_with bytes_eq c.args.path.now) c.names.ensures.value in
    sym
    (far_before c.args.rows.now c.requires.tree c.args.path.now c.args.gap c.requires.gap (omega arith) c.index-rows-gap.result
    c.index-rows-gap.is (sym c.is_far_dir.ensures ∙ c.if-not-is_far_dir.false) c.starts_with.result tests)
