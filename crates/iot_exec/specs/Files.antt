-- The files of a tree, as they are offered to the `keep` commands of a resolver.
use Rattle.std.specs.Prelude.{ℕ, List, Option, Some, None}
use Rattle.std.specs.List.{filter_map}
use Rattle.std.specs.FinMap.{entries}
use Rattle.iot_tree.specs.Tree.{Path, Row, Nodes}
use Rattle.iot_tree.specs.declared.nodes.Node.TheVariants.{Dir, File, FarDir, FarFile}

-- the file of a row whose contents are known; nothing of any other row
abbrev pub file_of : Row → Option (Path × List ℕ)
file_of (path, File bytes mode) = Some (path, bytes)
file_of (path, Dir) = None
file_of (path, FarDir) = None
file_of (path, FarFile mode) = None

-- the files of a tree whose contents are known, in the order of their paths
abbrev pub files_of : Nodes → List (Path × List ℕ)
files_of t = filter_map file_of (entries t)
