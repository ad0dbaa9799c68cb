-- The scripts that events declare.
use Rattle.std.specs.Prelude.{◌≡◌, ℕ, List, [], ◌∷◌, Option, Some, None, option_map, bytes_eq, if◌then◌else◌}
use Rattle.std.specs.BTreeMap.{get}
use Rattle.std.specs.Cmp.Lexicographic.{slice_cmp}
use Rattle.std.specs.Ordering.{nat_cmp}
use Rattle.iot_event.specs.declared.event.Event.{Event}
use Rattle.iot_event.specs.declared.event.Event.TheVariants.{Script}
use Rattle.iot_lang.specs.Code.{Code}
use Rattle.iot_lang.specs.Scripts.{IsScript}
use Rattle.iot_audit.specs.declared.scripts.Scripts.{Scripts}

-- the first script that is declared under this name
abbrev pub code_named : (name : List ℕ) → List Event → Option Code
code_named name [] = None
code_named name (Script other code ∷ events) = if bytes_eq other name then Some code else code_named name events
code_named name (event ∷ events) = code_named name events

-- the script under this name
abbrev pub code_in : Scripts → (name : List ℕ) → Option Code
code_in scripts name = option_map (λ script. script.value) (get (slice_cmp nat_cmp) scripts.by_name name)

-- these are the scripts that the events declare, and some lines spell each
pub record AreScriptsOf (events : List Event) (scripts : Scripts) : Type 0 where
  pub named : (name : List ℕ) → code_in scripts name ≡ code_named name events
  pub each : (name : List ℕ) (code : Code) → code_named name events ≡ Some code → IsScript code
