use Rattle.std.proofs.Common.{◌≡◌, ◌∙◌, sym, subst, [], ◌∷◌}
use Rattle.iot_tree.specs.Rows.{AreTreeRows}
use Rattle.iot_tree.proofs.RowLaws.{root_rows}
use Rattle.iot_tree.proofs.FollowLaws.{root_only, empty_is}
use Rattle.iot_tree.proofs.rows.begins_tree.Goals as goal
use Rattle.iot_tree.specs.Tree.{Path}

pub returns-then-not-is_empty : goal.returns-then-not-is_empty
returns-then-not-is_empty c = (
  λ is. absurd cc,
  λ all.
      let root = root_only c.args.row.now.0 c.args.row.now.1 all in
      let found = rw (c.names.ensures.value, root.0) at c.is_empty.ensures in
      sym c.if-not-is_empty.true ∙ found,
)

pub returns : goal.returns
returns c =
    let root : c.args.row.now.0
    ≡ [] = empty_is c.args.row.now.0 (sym (rw c.names.ensures.value at c.is_empty.ensures) ∙ c.if-not-is_empty.false) in (
      λ is. subst (λ (p : Path). AreTreeRows ((p, c.args.row.now.1) ∷ [])) (sym root)
          (root_rows c.args.row.now.1 (sym c.is_dir.ensures ∙ is)),
      λ all. c.is_dir.ensures ∙ (root_only c.args.row.now.0 c.args.row.now.1 all).1,
    )
