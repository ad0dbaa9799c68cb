use Rattle.std.proofs.Common.{rules}
use Rattle.std.proofs.lemmas.Fn.{always_returns_same}
use Rattle.iot_text.specs.Paths.{path_cmp}
use Rattle.iot_tree.proofs.PlaceLaws.{searched}
use Rattle.iot_tree.specs.Tree.{Row}
use Rattle.iot_certify.proofs.places.place_of.Goals as goal

-- the closure compares a row's path with the lent one
pub returns : goal.returns
returns c =
    let facts = c.binary_search_by.ensures in
    searched c.args.rows.now c.requires c.args.path.now _ facts.bound
    (facts.position (λ (row : Row). path_cmp row.0 c.args.path.now)
    (always_returns_same _ _ _ (λ a r f' called. (search rules, search rules))))
