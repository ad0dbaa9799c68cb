use Rattle.std.proofs.Common.{◌∙◌, ap, nat_eq, refl}
use Rattle.std.specs.List.{starts_with}
use Rattle.std.specs.Cmp.Lexicographic.{pointwise}
use Rattle.iot_tree.proofs.FollowLaws.{not_begun, longer_has, same_has}
use Rattle.iot_tree.proofs.rows.has_dir.Goals as goal
use Rattle.iot_tree.specs.Tree.{Path}

pub returns-then-not-starts_with : goal.returns-then-not-starts_with
returns-then-not-starts_with c =
    let tests = c.starts_with.ensures.value
    ∙ ap (λ (names : Path). starts_with (pointwise nat_eq) names c.args.path.now) c.names-names.ensures.value in
    (λ is. absurd cc, λ has. absurd (not_begun c.args.last.now c.args.path.now c.starts_with.result tests c.if-not-starts_with.true has))

pub returns-then-names-path : goal.returns-then-names-path
returns-then-names-path c =
    let tests = c.starts_with.ensures.value
    ∙ ap (λ (names : Path). starts_with (pointwise nat_eq) names c.args.path.now) c.names-names.ensures.value in
    let longer = rw c.names-names.ensures.value at c.if-names-path.true in
    (λ is. longer_has c.args.last.now c.args.path.now c.starts_with.result tests c.if-not-starts_with.false longer, λ has. refl)

pub returns : goal.returns
returns c =
    let tests = c.starts_with.ensures.value
    ∙ ap (λ (names : Path). starts_with (pointwise nat_eq) names c.args.path.now) c.names-names.ensures.value in
    let short = rw c.names-names.ensures.value at c.if-names-path.false in
    rw c.is_known_dir.ensures (same_has c.args.last.now c.args.path.now c.starts_with.result tests c.if-not-starts_with.false short)
