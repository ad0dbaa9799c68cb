use Rattle.std.proofs.Common.{◌≡◌, ◌∙◌, [], ◌∷◌, refl}
use Rattle.iot_tree.proofs.RowLaws.{root_rows, root_map}
use Rattle.iot_tree.proofs.grown.Grown.with_root.Goals as goal

-- the rows are the root's alone
rows_are : (c : goal.In_ok-push) → c.push.new.self ≡ ([], c.args.root) ∷ []
rows_are c = c.in_ok-push.ensures.ok ∙ rw (c.new-rows.ensures, c.root.ensures) refl

pub invariant_of-result : goal.invariant_of-result
invariant_of-result c = rw (rows_are c) (root_rows c.args.root c.requires)

pub returns : goal.returns
returns c = rw (rows_are c) (root_map c.args.root)
