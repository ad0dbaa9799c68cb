-- What a resolution is.
use Rattle.std.specs.Prelude.{◌≡◌, ℕ, List, IsTrue, None, if◌then◌else◌}
use Rattle.std.specs.FinMap.{get, is_sorted}
use Rattle.iot_text.specs.Paths.{path_cmp}
use Rattle.iot_tree.specs.Tree.{Path, Nodes}
use Rattle.iot_tree.specs.Questions.{content_of}
use Rattle.iot_lang.specs.Code.{Code}
use Rattle.iot_exec.specs.Commands.{kept_files}
use Rattle.iot_exec.specs.Runs.{run}
use Rattle.iot_exec.specs.Finding.{found_in, is_among, files_among}
use Rattle.iot_queue.specs.declared.items.Resolution.{Resolution}
use Rattle.iot_resolve.specs.declared.plan.Plan.{Plan}
use Rattle.iot_resolve.specs.Files.{offered}

-- the paths at which the run of the plan's script on the server's tree finds files, of those that are offered to it
abbrev pub found : Plan → Code → Nodes → Nodes → List Path
found plan code local server = found_in code (kept_files (offered plan.keeps local)) server plan.budget

-- the run of the plan's script on the server's whole tree, with the plan's budget; of the files that are offered to it, it keeps
-- exactly those that its `keep` commands find
abbrev pub resolved : Plan → Code → Nodes → Nodes → Resolution
resolved plan code local server =
    record {
      script = plan.script;
      budget = plan.budget;
      kept = files_among (found plan code local server) (offered plan.keeps local);
      acts = (run code (kept_files (offered plan.keeps local)) server plan.budget).acts;
    }

-- the files rise by their paths, and have at each path at which the run finds a file the contents that the local tree has there,
-- and nothing elsewhere
pub record KeepsFound (plan : Plan) (code : Code) (local server : Nodes) (files : List (Path × List ℕ)) : Type 0 where
  pub rising : IsTrue (is_sorted path_cmp files)
  pub each : (path : Path) → get (kept_files files) path
      ≡ (if is_among path (found plan code local server) then content_of local path else None)
