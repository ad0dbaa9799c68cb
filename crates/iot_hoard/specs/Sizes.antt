-- How much of a limit a list of paths takes.
use Rattle.std.specs.Prelude.{ℕ, ◌+◌, ◌-◌, ◌^◌, min, List, [], ◌∷◌, length, Option, Some}
use Rattle.std.specs.FinMap.{get}
use Rattle.iot_tree.specs.Tree.{Nodes, Path}
use Rattle.iot_tree.specs.declared.nodes.Node.{Node}
use Rattle.iot_tree.specs.declared.nodes.Node.TheVariants.{File}

-- the bytes of a file
abbrev pub bytes_in : Option Node → ℕ
bytes_in (Some (File bytes mode)) = length bytes
bytes_in other = 0

-- a path takes 64, and as much as its file has bytes
abbrev pub weight : Nodes → Path → ℕ
weight s path = 64 + bytes_in (get s path)

-- several paths take this together
abbrev pub size : Nodes → List Path → ℕ
size s [] = 0
size s (path ∷ paths) = weight s path + size s paths

-- the same as a number of 64 bits, the greatest of which stands for all above it
abbrev pub size_within : Nodes → List Path → ℕ
size_within s paths = min (size s paths) (2 ^ 64 - 1)
