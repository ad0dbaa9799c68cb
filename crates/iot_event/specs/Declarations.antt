-- Events name only what was declared before them.
use Rattle.std.specs.Prelude.{◌≡◌, ℕ, ◌+◌, ◌<◌, ◌≤◌, false, List, [], ◌∷◌, ◌++◌, length, Option, IfSome}
use Rattle.iot_text.specs.Paths.{IsPath}
use Rattle.iot_tree.specs.Profiles.{Profile as Wishes, IsProfile, IsWalkLimit}
use Rattle.iot_event.specs.Meanings.{is_declared}
use Rattle.iot_event.specs.declared.declared.TheConstants.{CLIENT_LIMIT, SCRIPT_LIMIT}
use Rattle.iot_event.specs.declared.form.TheConstants.{STEP_LIMIT, TRANSACTION_LIMIT, READS_LIMIT, STOP_LIMIT}
use Rattle.iot_event.specs.declared.event.Choice.{Choice}
use Rattle.iot_event.specs.declared.event.Choice.TheVariants.{Reexec, Resolver, Abort, Manual}
use Rattle.iot_event.specs.declared.event.NodeEvent.{NodeEvent}
use Rattle.iot_event.specs.declared.event.NodeEvent.TheVariants.{Show, Stop, Crash, Restart}
use Rattle.iot_event.specs.declared.event.Task.{Task}
use Rattle.iot_event.specs.declared.event.Task.TheVariants.{Run, Hoard, Refresh, Walk, Begin, Step, End}
use Rattle.iot_event.specs.declared.event.Task.TheVariants.{Sync, Drain, Repair, Discard, Queue, Reads}
use Rattle.iot_event.specs.declared.event.ClientEvent.{ClientEvent}
use Rattle.iot_event.specs.declared.event.ClientEvent.TheVariants as client_events
use Rattle.iot_event.specs.declared.event.Event.{Event}
use Rattle.iot_event.specs.declared.event.Event.TheVariants.{Client, Script, Profile, At, Server, Promote, StopBackup, Log}

-- the resolver of an option, if it has one, is one of so many scripts
abbrev pub ResolverIsDeclared : Choice ℕ → (scripts : ℕ) → Type 0
ResolverIsDeclared Reexec scripts = Unit {0}
ResolverIsDeclared (Resolver script) scripts = script < scripts
ResolverIsDeclared Abort scripts = Unit {0}
ResolverIsDeclared Manual scripts = Unit {0}

-- its transaction, if it names one, has a number within the limit
abbrev pub MayBeNamed : Option ℕ → Type 0
MayBeNamed transaction = IfSome transaction (λ number. (1 ≤ number) × (number ≤ TRANSACTION_LIMIT))

-- its script and its resolver are of so many, its path is a path, its profile is a profile, and its numbers are within the limits
abbrev pub TaskIsDeclared : Task ℕ Wishes → (scripts : ℕ) → Type 0
TaskIsDeclared (Run script option) scripts = (script < scripts) × ResolverIsDeclared option scripts
TaskIsDeclared (Hoard path) scripts = IsPath path
TaskIsDeclared Refresh scripts = Unit {0}
TaskIsDeclared (Walk profile limit) scripts = IsProfile profile × IsWalkLimit limit
TaskIsDeclared (Begin script option) scripts = (script < scripts) × ResolverIsDeclared option scripts
TaskIsDeclared (Step count transaction) scripts = (1 ≤ count) × (count ≤ STEP_LIMIT) × MayBeNamed transaction
TaskIsDeclared (End transaction) scripts = MayBeNamed transaction
TaskIsDeclared Sync scripts = Unit {0}
TaskIsDeclared Drain scripts = Unit {0}
TaskIsDeclared (Repair script) scripts = script < scripts
TaskIsDeclared Discard scripts = Unit {0}
TaskIsDeclared Queue scripts = Unit {0}
TaskIsDeclared (Reads item) scripts = (1 ≤ item) × (item ≤ READS_LIMIT)

-- a line can name this device call
abbrev pub IsCall : (calls : ℕ) → Type 0
IsCall calls = (1 ≤ calls) × (calls ≤ STOP_LIMIT)

abbrev pub IsWithin : NodeEvent → Type 0
IsWithin Show = Unit {0}
IsWithin (Stop calls pick) = IsCall calls
IsWithin Crash = Unit {0}
IsWithin Restart = Unit {0}

abbrev pub ClientEventIsDeclared : ClientEvent ℕ Wishes → (scripts : ℕ) → Type 0
ClientEventIsDeclared (client_events.Node what) scripts = IsWithin what
ClientEventIsDeclared (client_events.Link what) scripts = Unit {0}
ClientEventIsDeclared (client_events.Task what) scripts = TaskIsDeclared what scripts

-- After so many clients and scripts of these names were declared: no more are declared than there may be, and no script again; each profile
-- is one, and each event is of a client that was declared, and says what it may say.
abbrev pub AreDeclared : List Event → (clients : ℕ) (scripts : List (List ℕ)) → Type 0
AreDeclared [] clients scripts = Unit {0}
AreDeclared (Client name ∷ later) clients scripts = (clients < CLIENT_LIMIT) × AreDeclared later (clients + 1) scripts
AreDeclared (Script name script ∷ later) clients scripts =
    (length scripts < SCRIPT_LIMIT) × (is_declared name scripts ≡ false) × AreDeclared later clients (scripts ++ name ∷ [])
AreDeclared (Profile name profile ∷ later) clients scripts = IsProfile profile × AreDeclared later clients scripts
AreDeclared (At client what ∷ later) clients scripts =
    (client < clients) × ClientEventIsDeclared what (length scripts) × AreDeclared later clients scripts
AreDeclared (Server what ∷ later) clients scripts = IsWithin what × AreDeclared later clients scripts
AreDeclared (Promote ∷ later) clients scripts = AreDeclared later clients scripts
AreDeclared (StopBackup calls pick ∷ later) clients scripts = IsCall calls × AreDeclared later clients scripts
AreDeclared (Log ∷ later) clients scripts = AreDeclared later clients scripts
