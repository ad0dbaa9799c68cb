-- The files that are offered to a resolution.
use Rattle.std.specs.Prelude.{◌≡◌, ℕ, List, [], Bool, IsTrue, None, if◌then◌else◌}
use Rattle.std.specs.FinMap.{get, is_sorted}
use Rattle.iot_text.specs.Paths.{path_cmp}
use Rattle.iot_tree.specs.Tree.{Path, Nodes}
use Rattle.iot_tree.specs.Questions.{content_of}
use Rattle.iot_exec.specs.Commands.{kept_files}
use Rattle.iot_exec.specs.Files.{files_of}

-- what is offered to `keep`: the files of the tree if the plan keeps, else nothing
abbrev pub offered : Bool → Nodes → List (Path × List ℕ)
offered keeps t = if keeps then files_of t else []

-- the files rise by their paths, and `keep` reads at each path the contents that the tree has there if the plan keeps, else nothing
pub record OffersFilesOf (keeps : Bool) (t : Nodes) (files : List (Path × List ℕ)) : Type 0 where
  pub rising : IsTrue (is_sorted path_cmp files)
  pub each : (path : Path) → get (kept_files files) path ≡ (if keeps then content_of t path else None)
