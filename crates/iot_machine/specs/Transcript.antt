-- A list of events, from the opening of the machine on.
use Rattle.std.specs.Prelude.{ℕ, List, [], ◌∷◌}
use Rattle.iot_event.specs.declared.event.Event.{Event}
use Rattle.iot_machine.specs.Calls.{Part, Nothing, Then, At}
use Rattle.iot_machine.specs.Machine.{Machine, handed, server}
use Rattle.iot_machine.specs.Nodes.{Counts}
use Rattle.iot_machine.specs.Events.{event_part}
use Rattle.iot_machine.specs.Serving.{server_name}
use Rattle.iot_machine.specs.Stops.{OpensNode}

-- the server starts, or stops in that
abbrev pub Opening : Part Machine
Opening = Then (At server (OpensNode server_name)) (λ _. Nothing)

-- events in turn, each by its part
abbrev pub InTurn : List Event → Part Machine
InTurn [] = Nothing
InTurn (event ∷ events) = Then (event_part event) (λ _. InTurn events)

-- what the opening and these events print, over disks with these counts, and the machine at their end
abbrev pub Transcript : List Counts → List Event → List ℕ → Machine → Type 0
Transcript counts events text m = Then Opening (λ _. InTurn events) (handed counts) text tt m
