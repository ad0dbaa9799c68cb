-- Which row may follow the rows of a tree.
use Rattle.std.specs.Prelude.{◌≡◌, ◌⊎◌, MatchOption}
use Rattle.std.specs.declared.cmp.Ordering.TheVariants.{Less}
use Rattle.iot_text.specs.Paths.{path_cmp, parent_of, IsBelow}
use Rattle.iot_tree.specs.declared.nodes.Node.TheVariants.{Dir}
use Rattle.iot_tree.specs.Tree.{Path, Row}

-- rows of a tree that end in this one have a known directory at the path: the row itself, or one above it
abbrev pub HasDir : Row → Path → Type 0
HasDir last path = ((last.0 ≡ path) × (last.1 ≡ Dir)) ⊎ IsBelow last.0 path

-- the row may follow rows of a tree that end in `last`
pub record Follows (last row : Row) : Type 0 where
  pub rises : path_cmp last.0 row.0 ≡ Less
  pub parent : MatchOption (parent_of row.0) ⊥ (HasDir last)
