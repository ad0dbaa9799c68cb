-- Which event may come, if so many clients, and scripts of these names, are declared.
use Rattle.std.specs.Prelude.{◌<◌, ◌≡◌}
use Rattle.iot_event.specs.{Meanings.is_declared, declared.declared.TheConstants.CLIENT_LIMIT}
use Rattle.iot_event.specs.declared.event.{ClientEvent.ClientEvent, ClientEvent.TheVariants.Task, NodeEvent.TheVariants.Stop}
use Rattle.{iot_exchange.specs.Scripts.MayDo, iot_tree.specs.Profiles.Profile}
use Rattle.iot_world.specs.Prelude.{Bool, Event, List, Node, NodeEvent, false, length, true, ℕ}
use Rattle.iot_event.specs.declared.event.Event.TheVariants as events

-- what a client is asked to do is with scripts that are declared
abbrev pub MayBefall : ClientEvent ℕ Profile → (scripts : ℕ) → Type 0
MayBefall (Task task) scripts = MayDo task scripts
MayBefall other scripts = Unit {0}

-- there are not too many clients, no script is declared again, and each event of a client is of one that is declared
abbrev pub IsAllowed : Event → (clients : ℕ) (scripts : List (List ℕ)) → Type 0
IsAllowed (events.Client name) clients scripts = clients < CLIENT_LIMIT
IsAllowed (events.Script name code) clients scripts = is_declared name scripts ≡ false
IsAllowed (events.At client what) clients scripts = (client < clients) × MayBefall what (length scripts)
IsAllowed other clients scripts = Unit {0}

-- ---- the events that arm a disk, and the one that gives one up

abbrev pub stops_node : NodeEvent → Bool
stops_node (Stop calls pick) = true
stops_node other = false

abbrev pub stops_client : ClientEvent ℕ Profile → Bool
stops_client (Node what) = stops_node what
stops_client other = false

abbrev pub arms_a_disk : Event → Bool
arms_a_disk (events.At client what) = stops_client what
arms_a_disk (events.Server what) = stops_node what
arms_a_disk (events.StopBackup calls pick) = true
arms_a_disk other = false

abbrev pub promotes : Event → Bool
promotes events.Promote = true
promotes other = false
