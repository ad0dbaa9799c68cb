-- Where the rows of a tree come from after updates, and where their modes do.
use Rattle.std.specs.Prelude.{List, [], ◌∷◌, ◌++◌, length, drop, bytes_eq, if◌then◌else◌, Option, Some, None}
use Rattle.std.specs.List.{starts_with}
use Rattle.iot_tree.specs.Tree.{Path}
use Rattle.iot_tree.specs.declared.updates.Update.{Update}
use Rattle.iot_tree.specs.declared.updates.Update.TheVariants.{Put, MakeDir, Remove, Move, SetMode}

-- what is at or below p no longer comes from the tree before
abbrev pub hidden : Path → (Path → Option Path) → Path → Option Path
hidden p s k = if starts_with bytes_eq k p then None else s k

-- what is at or below q comes from where what was at or below p came from
abbrev pub carried : Path → Path → (Path → Option Path) → Path → Option Path
carried p q s k = if starts_with bytes_eq k q then s (p ++ drop (length q) k) else hidden p s k

-- the path of the tree before from which the row at a path comes, but for its mode, after these updates, the last one first; none if the
-- updates made what is there, or made it free
abbrev pub source : List Update → Path → Option Path
source [] k = Some k
source (Put p bytes ∷ done) k = hidden p (source done) k
source (MakeDir p ∷ done) k = hidden p (source done) k
source (Remove p ∷ done) k = hidden p (source done) k
source (Move p q ∷ done) k = carried p q (source done) k
source (SetMode p mode ∷ done) k = source done k

-- the path of the tree before from which the mode at a path comes; a file that is put keeps the mode that is there
abbrev pub mode_source : List Update → Path → Option Path
mode_source [] k = Some k
mode_source (Put p bytes ∷ done) k = mode_source done k
mode_source (MakeDir p ∷ done) k = hidden p (mode_source done) k
mode_source (Remove p ∷ done) k = hidden p (mode_source done) k
mode_source (Move p q ∷ done) k = carried p q (mode_source done) k
mode_source (SetMode p mode ∷ done) k = hidden p (mode_source done) k
