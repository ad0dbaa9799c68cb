-- What a line outside of scripts and profiles means.
use Rattle.std.specs.Prelude.{ℕ, ◌||◌, not, nat_lt, Bool, List, [], ◌∷◌, ◌++◌, length, position, Option, Some, None, is_some}
use Rattle.std.specs.Prelude.{codes, bytes_eq, if◌then◌else◌}
use Rattle.std.specs.List.{list_any}
use Rattle.std.specs.Map.{lookup}
use Rattle.std.specs.Option.{option_map, option_and_then}
use Rattle.iot_lines.specs.Words.{words, is_skipped}
use Rattle.iot_tree.specs.Profiles.{Profile}
use Rattle.iot_event.specs.Bytes.{fits_line}
use Rattle.iot_event.specs.Forms.{form_of}
use Rattle.iot_event.specs.Closing.{Closed, closed_by, first_closing}
use Rattle.iot_event.specs.declared.declared.TheConstants.{CLIENT_LIMIT, SCRIPT_LIMIT, PROFILE_LIMIT}
use Rattle.iot_event.specs.declared.form.Form.{Form}
use Rattle.iot_event.specs.declared.form.Form.TheVariants as forms
use Rattle.iot_event.specs.declared.event.Choice.{Choice}
use Rattle.iot_event.specs.declared.event.Choice.TheVariants.{Reexec, Resolver, Abort, Manual}
use Rattle.iot_event.specs.declared.event.Task.{Task}
use Rattle.iot_event.specs.declared.event.Task.TheVariants.{Run, Hoard, Refresh, Walk, Begin, Step, End}
use Rattle.iot_event.specs.declared.event.Task.TheVariants.{Sync, Drain, Repair, Discard, Queue, Reads}
use Rattle.iot_event.specs.declared.event.ClientEvent.{ClientEvent}
use Rattle.iot_event.specs.declared.event.ClientEvent.TheVariants as client_events
use Rattle.iot_event.specs.declared.event.Event.{Event}
use Rattle.iot_event.specs.declared.event.Event.TheVariants.{Client, At, Server, Promote, StopBackup, Log}
use Rattle.iot_event.specs.declared.fault.EventFault.{EventFault}
use Rattle.iot_event.specs.declared.fault.EventFault.TheVariants.{BadLine, UnknownName, Twice, TooMany}

-- what is known before a line: the names that were declared, in order, and the profiles that some of them name
pub record Scope : Type 0 where
  pub clients : List (List ℕ)
  pub scripts : List (List ℕ)
  pub profiles : List (List ℕ × Profile)

abbrev pub nothing_declared : Scope
nothing_declared = record { clients = []; scripts = []; profiles = [] }

abbrev pub is_declared : List ℕ → List (List ℕ) → Bool
is_declared name names = list_any (bytes_eq name) names

-- the place of a name, from 0
abbrev pub place_of : List ℕ → List (List ℕ) → Option ℕ
place_of name names = position (bytes_eq name) names

-- the profile of a name
abbrev pub profile_named : List ℕ → List (List ℕ × Profile) → Option Profile
profile_named name profiles = lookup (bytes_eq name) profiles

-- ---- what names stand for, if they are declared

-- an option, with the place of its resolver
abbrev pub choice_of : Choice (List ℕ) → (scripts : List (List ℕ)) → Option (Choice ℕ)
choice_of Reexec scripts = Some Reexec
choice_of (Resolver script) scripts = option_map (λ s. Resolver s) (place_of script scripts)
choice_of Abort scripts = Some Abort
choice_of Manual scripts = Some Manual

-- a script with an option, both by their places
abbrev pub script_with : (script : List ℕ) → Choice (List ℕ) → (scripts : List (List ℕ)) → (ℕ → Choice ℕ → Task ℕ Profile)
    → Option (Task ℕ Profile)
script_with script option scripts task =
    option_and_then (λ s. option_map (λ o. task s o) (choice_of option scripts)) (place_of script scripts)

-- what a client does, with the places of its scripts, and its profile
abbrev pub task_of : Task (List ℕ) (List ℕ) → (scripts : List (List ℕ)) (profiles : List (List ℕ × Profile)) → Option (Task ℕ Profile)
task_of (Run script option) scripts profiles = script_with script option scripts (λ s o. Run s o)
task_of (Hoard path) scripts profiles = Some (Hoard path)
task_of Refresh scripts profiles = Some Refresh
task_of (Walk profile limit) scripts profiles = option_map (λ p. Walk p limit) (profile_named profile profiles)
task_of (Begin script option) scripts profiles = script_with script option scripts (λ s o. Begin s o)
task_of (Step count transaction) scripts profiles = Some (Step count transaction)
task_of (End transaction) scripts profiles = Some (End transaction)
task_of Sync scripts profiles = Some Sync
task_of Drain scripts profiles = Some Drain
task_of (Repair script) scripts profiles = option_map (λ s. Repair s) (place_of script scripts)
task_of Discard scripts profiles = Some Discard
task_of Queue scripts profiles = Some Queue
task_of (Reads item) scripts profiles = Some (Reads item)

-- an event of a client, with the places of its scripts, and its profile
abbrev pub event_of : ClientEvent (List ℕ) (List ℕ) → (scripts : List (List ℕ)) (profiles : List (List ℕ × Profile))
    → Option (ClientEvent ℕ Profile)
event_of (client_events.Node what) scripts profiles = Some (client_events.Node what)
event_of (client_events.Link what) scripts profiles = Some (client_events.Link what)
event_of (client_events.Task what) scripts profiles = option_map (λ task. client_events.Task task) (task_of what scripts profiles)

-- ---- what a line means

-- what a line means: it is refused, it says nothing, it is an event, it opens a script, or it begins the list of a profile's wishes; an
-- event and a script with what is known after it
pub data Meaning : Type 0 where
  Refused : (fault : EventFault) → Meaning
  Skipped : Meaning
  Says : (event : Event) (after : Scope) → Meaning
  Opens : (name : List ℕ) (script : Closed) (after : Scope) → Meaning
  Lists : (name : List ℕ) (block : Closed) → Meaning

-- the server and its backup are nodes from the start
abbrev pub is_servers : (name : List ℕ) → Bool
is_servers name = bytes_eq name (codes "server") || bytes_eq name (codes "backup")

-- a client that is not a node yet, if there may be one more
abbrev pub client_line : Scope → (number : ℕ) (name : List ℕ) → Meaning
client_line scope number name =
    if is_servers name || is_declared name scope.clients then Refused (Twice number)
    else if nat_lt (length scope.clients) CLIENT_LIMIT
    then Says (Client name) (record scope { clients = scope.clients ++ name ∷ [] })
    else Refused (TooMany number)

-- a script that is closed and not declared yet, if there may be one more
abbrev pub script_line : Scope → (number : ℕ) (name : List ℕ) → Option Closed → Meaning
script_line scope number name None = Refused (BadLine number)
script_line scope number name (Some script) =
    if is_declared name scope.scripts then Refused (Twice number)
    else if nat_lt (length scope.scripts) SCRIPT_LIMIT
    then Opens name script (record scope { scripts = scope.scripts ++ name ∷ [] })
    else Refused (TooMany number)

-- a profile that is closed and not declared yet, if there may be one more
abbrev pub profile_line : Scope → (number : ℕ) (name : List ℕ) → Option Closed → Meaning
profile_line scope number name None = Refused (BadLine number)
profile_line scope number name (Some block) =
    if is_some (profile_named name scope.profiles) then Refused (Twice number)
    else if nat_lt (length scope.profiles) PROFILE_LIMIT then Lists name block
    else Refused (TooMany number)

-- what a line says of what its names stand for, if they are declared
abbrev pub if_known : {X : Type 0} → Option X → (number : ℕ) → (X → Meaning) → Meaning
if_known None number says = Refused (UnknownName number)
if_known (Some known) number says = says known

-- an event of a client, if it, its scripts and its profile are declared
abbrev pub at_line : Scope → (number : ℕ) (client : List ℕ) (what : ClientEvent (List ℕ) (List ℕ)) → Meaning
at_line scope number client what =
    if_known (place_of client scope.clients) number
    (λ c. if_known (event_of what scope.scripts scope.profiles) number (λ it. Says (At c it) scope))

-- a line of this form, before these lines
abbrev pub meaning_of_form : Option Form → Scope → (number : ℕ) (later : List (List ℕ)) → Meaning
meaning_of_form None scope number later = Refused (BadLine number)
meaning_of_form (Some (forms.Client name)) scope number later = client_line scope number name
meaning_of_form (Some (forms.Script name)) scope number later = script_line scope number name (closed_by later 0)
meaning_of_form (Some (forms.Profile name)) scope number later = profile_line scope number name (first_closing later)
meaning_of_form (Some (forms.At client what)) scope number later = at_line scope number client what
meaning_of_form (Some (forms.Server what)) scope number later = Says (Server what) scope
meaning_of_form (Some forms.Promote) scope number later = Says Promote scope
meaning_of_form (Some (forms.StopBackup calls pick)) scope number later = Says (StopBackup calls pick) scope
meaning_of_form (Some forms.Log) scope number later = Says Log scope

-- the line of this number, before these lines; the rule on bytes and length comes first
abbrev pub meaning_of : Scope → (number : ℕ) (line : List ℕ) (later : List (List ℕ)) → Meaning
meaning_of scope number line later =
    if not (fits_line line) then Refused (BadLine number)
    else if is_skipped line then Skipped
    else meaning_of_form (form_of (words line)) scope number later
