-- Scripts as they were declared, and what a client may be asked to do with them.
use Rattle.std.specs.Prelude.{◌<◌, ◌≤◌}
use Rattle.iot_event.specs.declared.event.Task.{Task}
use Rattle.iot_exchange.specs.Words.{Declared, IsProfile, IsWalkLimit, List, ResolverIsDeclared, map, ℕ}
use Rattle.{iot_exchange.specs.declared.declared.DeclaredScript.DeclaredScript, iot_tree.specs.Profiles.Profile}
use Rattle.iot_event.specs.declared.event.Task.TheVariants as tasks

-- a script as it was declared
abbrev pub script_of : DeclaredScript → Declared
script_of script = record { name = script.name; code = script.script }

abbrev pub scripts_of : List DeclaredScript → List Declared
scripts_of scripts = map script_of scripts

-- its scripts are of so many, those that wait are counted from 1, and its profile and limit are some that there are
abbrev pub MayDo : Task ℕ Profile → (scripts : ℕ) → Type 0
MayDo (tasks.Run script option) scripts = (script < scripts) × ResolverIsDeclared option scripts
MayDo (tasks.Begin script option) scripts = (script < scripts) × ResolverIsDeclared option scripts
MayDo (tasks.Repair script) scripts = script < scripts
MayDo (tasks.Reads item) scripts = 1 ≤ item
MayDo (tasks.Walk profile limit) scripts = IsProfile profile × IsWalkLimit limit
MayDo other scripts = Unit {0}
