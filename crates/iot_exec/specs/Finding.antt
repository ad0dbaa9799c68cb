-- What the `keep` commands of a run find among the kept files.
use Rattle.std.specs.Prelude.{◌≡◌, ℕ, zero, suc, IsTrue, Bool, true, false, List, [], ◌∷◌, Option, Some, None, if◌then◌else◌}
use Rattle.std.specs.List.{filter_map, cons_option}
use Rattle.std.specs.FinMap.{get, is_sorted}
use Rattle.std.specs.Ordering.{eq_by_cmp}
use Rattle.iot_text.specs.Paths.{path_cmp}
use Rattle.iot_tree.specs.Tree.{Path, Nodes}
use Rattle.iot_lang.specs.Code.{Code, Plain}
use Rattle.iot_lang.specs.declared.blocks.Stmt.{Stmt}
use Rattle.iot_lang.specs.declared.blocks.Stmt.TheVariants as statements
use Rattle.iot_lang.specs.declared.words.Command.{Command}
use Rattle.iot_lang.specs.declared.words.Command.TheVariants.{Keep}
use Rattle.iot_acts.specs.Traces.{after_update}
use Rattle.iot_exec.specs.Plans.{Performed, perform, Effect}
use Rattle.iot_exec.specs.Commands.{Kept, kept_files, path_if_any}
use Rattle.iot_exec.specs.Runs.{run}
use Rattle.iot_exec.specs.Places.{Place, Over, At, start, plan_at}
use Rattle.iot_exec.specs.declared.env.Env.{Env}

-- the first of two paths, if there are both
abbrev pub first_of_both : Option Path → Option Path → Option Path
first_of_both None to = None
first_of_both (Some from) None = None
first_of_both (Some from) (Some to) = Some from

-- the path at which a command looks for a kept file: a `keep` with two good paths looks at the first one
abbrev pub wanted_by : Env → Command → Option Path
wanted_by env (Keep p q) = first_of_both (path_if_any env p) (path_if_any env q)
wanted_by env other = None

-- the path at which a statement looks for a kept file
abbrev pub wanted_of : Env → Stmt → Option Path
wanted_of env (statements.Do command) = wanted_by env command
wanted_of env other = None

-- the path at which the first of these statements looks for a kept file
abbrev pub wanted_in : Env → Code → Option Path
wanted_in env (Plain command rest) = wanted_by env command
wanted_in env other = None

-- the path at which the next act looks for a kept file
abbrev pub wanted_at : Place → Option Path
wanted_at Over = None
wanted_at (At code frames env) = wanted_in env code

-- the path, if a file is kept there
abbrev pub if_kept : Path → Option (List ℕ) → Option Path
if_kept path None = None
if_kept path (Some bytes) = Some path

abbrev pub found_of : Kept → Option Path → Option Path
found_of kept None = None
found_of kept (Some path) = if_kept path (get kept path)

-- the path at which the next act finds a kept file
abbrev pub next_found : Kept → Place → Option Path
next_found kept place = found_of kept (wanted_at place)

-- the paths at which so many acts find kept files, from a place on and in the order of the acts
abbrev pub found_then : Nodes → Performed (Effect Place) → (Place → Nodes → List Path) → List Path
found_then t performed next = next performed.result.result (after_update t performed.result.update)

abbrev pub finds_at : Kept → (Place → Nodes → List Path) → Place → Nodes → List Path
finds_at kept next Over t = []
finds_at kept next (At code frames env) t =
    cons_option (next_found kept (At code frames env)) (found_then t (perform t (plan_at kept code frames env)) next)

abbrev pub found_from : Kept → ℕ → Place → Nodes → List Path
found_from kept zero place t = []
found_from kept (suc n) place t = finds_at kept (λ place t. found_from kept n place t) place t

-- the paths at which the run of a script on a tree finds kept files
abbrev pub found_in : Code → Kept → Nodes → ℕ → List Path
found_in script kept t budget = found_from kept budget (start script) t

-- ---- the files at these paths

abbrev pub is_among : Path → List Path → Bool
is_among path [] = false
is_among path (other ∷ others) = if eq_by_cmp path_cmp path other then true else is_among path others

abbrev pub file_if : List Path → Path × List ℕ → Option (Path × List ℕ)
file_if paths file = if is_among file.0 paths then Some file else None

-- those of the files that lie at one of the paths, in their order
abbrev pub files_among : List Path → List (Path × List ℕ) → List (Path × List ℕ)
files_among paths files = filter_map (file_if paths) files

-- of the kept files the run of the script finds these, and needs no other one
pub record AreFound (script : Code) (kept found : List (Path × List ℕ)) (t : Nodes) (budget : ℕ) : Type 0 where
  -- at each path at which the run finds a file, the contents that are kept there, and nothing elsewhere
  pub each : (path : Path) → get (kept_files found) path
      ≡ (if is_among path (found_in script (kept_files kept) t budget) then get (kept_files kept) path else None)
  -- with these alone the run is the same, and finds files at the same paths
  pub same_run : run script (kept_files found) t budget ≡ run script (kept_files kept) t budget
  pub same_found : found_in script (kept_files found) t budget ≡ found_in script (kept_files kept) t budget
  -- they rise by their paths if all kept files do
  pub rising : IsTrue (is_sorted path_cmp kept) → IsTrue (is_sorted path_cmp found)
