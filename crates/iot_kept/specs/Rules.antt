-- How what is durable of a client is kept behind checkpoints.
use Rattle.std.specs.Prelude.{◌≡◌, ℕ, List, codes}
use Rattle.iot_changes.specs.Rules.{IsChange}
use Rattle.iot_changes.specs.declared.changes.Change.{Change}
use Rattle.iot_durable.specs.Rules.{Rules}
use Rattle.iot_stamp.specs.Stamps.{nodes_of, unstamped}
use Rattle.iot_slots.specs.declared.version.Version.{Version}
use Rattle.iot_kept.specs.Bodies.{IsBody, IsState}
use Rattle.iot_kept.specs.Changes.{CanFollow, after}
use Rattle.iot_kept.specs.Memory.{memory_state, classes_of, classes_after, AreSecond, Sees}
use Rattle.iot_kept.specs.Stamps.{restamped}
use Rattle.iot_kept.specs.States.{State, opening}
use Rattle.iot_kept.specs.Versions.{SpellsChange}
use Rattle.iot_kept.specs.declared.memory.Memory.{Memory}

-- what follows byte 0 of a client's disk
abbrev pub header : List ℕ
header = codes "IOTSLOT2"

-- the states are a client's, and what changes them are its changes; the versions differ only in how both are spelled
abbrev pub rules : Version → Rules State Change
rules version = record {
  header = header;
  opening = opening;
  IsBody = IsBody version;
  IsChange = IsChange;
  IsRecord = SpellsChange version;
  CanFollow = CanFollow;
  after = after;
}

-- what is in memory has a state that a client may have, and its views beside it
pub record IsMemory (memory : Memory) : Type 0 where
  pub state : IsState (memory_state memory)
  pub sees : Sees memory

-- after a start no stamp of a server is known, and transactions that run are second class
pub record IsStarted (memory : Memory) : Type 0 where
  pub stamps : memory.durable.held ≡ unstamped (nodes_of memory.durable.held)
  pub class : AreSecond (classes_of memory.durable.running.items)

-- what a change makes of the stamps and of the classes
pub record ChangesMemory (old : Memory) (change : Change) (new : Memory) : Type 0 where
  pub stamps : new.durable.held ≡ restamped old.durable.queue old.durable.held change
  pub class : classes_of new.durable.running.items
      ≡ classes_after change (memory_state old).running (classes_of old.durable.running.items)

-- the change was made in memory: of the state, of what no disk keeps, and of the views
pub record IsNoted (old : Memory) (change : Change) (new : Memory) : Type 0 where
  pub state : memory_state new ≡ after (memory_state old) change
  pub makes : ChangesMemory old change new
  pub sees : Sees new
