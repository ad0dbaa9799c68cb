-- What events do to what the machine's disks count: how often they have failed, and how they were armed. And that a machine stays sound.
use Rattle.std.specs.Prelude.{◌≡◌, ◌⊎◌, ℕ, ◌+◌, Bool, true, false, List, length}
use Rattle.iot_count.specs.Counts.{Rose}
use Rattle.iot_event.specs.declared.event.ClientEvent.TheVariants as client_events
use Rattle.iot_event.specs.declared.event.Event.{Event}
use Rattle.iot_event.specs.declared.event.Event.TheVariants as events
use Rattle.iot_event.specs.declared.event.NodeEvent.TheVariants as nodes
use Rattle.iot_machine.specs.Events.{add_client, event_part}
use Rattle.iot_machine.specs.Machine.{Machine, handed, client_in, put_client, give_up, arm_backup}
use Rattle.iot_machine.specs.Nodes.{Node, Counts, armed}
use Rattle.iot_machine.specs.Sound.{IsSound}
use Rattle.iot_machine.specs.Transcript.{Opening}

-- it has not stopped, and what is counted of its disk is what it was
pub record IsSteady {S : Type 0} (node n : Node S) : Type 0 where
  pub counts : n.counts ≡ node.counts
  pub stops : n.stops ≡ node.stops

-- it has stopped, once, and its count of faults rose; no disk was armed
pub record HasStopped {S : Type 0} (node n : Node S) : Type 0 where
  pub down : n.alive ≡ false
  pub rose : Rose node.counts.faults n.counts.faults
  pub arms : n.counts.arms ≡ node.counts.arms
  pub stops : n.stops ≡ node.stops + 1

abbrev pub StopsOnce : {S : Type 0} → Node S → Node S → Type 0
StopsOnce node n = IsSteady node n ⊎ HasStopped node n

-- since this machine no client was declared and no disk given up, each node has stopped at most once, and no disk was armed
pub record Since (m n : Machine) : Type 0 where
  pub server : StopsOnce m.server n.server
  pub clients : (c : ℕ) → StopsOnce (client_in m c).node (client_in n c).node
  pub count : length n.clients ≡ length m.clients
  pub promoted : n.promoted ≡ m.promoted
  pub beside : n.beside ≡ m.beside
  pub spare : n.spare ≡ m.spare

-- the first disk is given up if the server is down and has a backup
abbrev pub base_of_promote : (alive promoted : Bool) → Machine → Machine
base_of_promote false false m = give_up m
base_of_promote false true m = m
base_of_promote true promoted m = m

-- the machine with what the event itself arms, gives up or declares: it arms the disk of its node alone, with its call and its pick
abbrev pub base_of : Event → Machine → Machine
base_of (events.Client name) m = add_client name m
base_of (events.Server (nodes.Stop calls pick)) m = record m { server = armed calls pick m.server }
base_of (events.At c (client_events.Node (nodes.Stop calls pick))) m =
    put_client c (record (client_in m c) { node = armed calls pick (client_in m c).node }) m
base_of events.Promote m = base_of_promote m.server.alive m.promoted m
base_of (events.StopBackup calls pick) m = arm_backup calls pick m.promoted m
base_of other m = m

-- in each event each node stops at most once, its count of faults rises exactly if it does, and disks are armed by `stop` alone
abbrev pub EventCounts : Type 0
EventCounts = (event : Event) (m n : Machine) (text : List ℕ) → IsSound m → event_part event m text tt n
    → Since (base_of event m) n

-- in the opening the server stops at most once, and its count of faults rises exactly if it does
abbrev pub OpeningCounts : Type 0
OpeningCounts = (counts : List Counts) (m : Machine) (text : List ℕ) → Opening (handed counts) text tt m → Since (handed counts) m

-- no event makes a sound machine unsound
abbrev pub EventKeepsSound : Type 0
EventKeepsSound = (event : Event) (m n : Machine) (text : List ℕ) → IsSound m → event_part event m text tt n → IsSound n

-- a machine is sound after its opening
abbrev pub OpeningIsSound : Type 0
OpeningIsSound = (counts : List Counts) (m : Machine) (text : List ℕ) → Opening (handed counts) text tt m → IsSound m
