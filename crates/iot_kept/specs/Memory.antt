-- What a client has in memory of its durable state.
use Rattle.std.specs.Prelude.{◌≡◌, ℕ, zero, suc, Bool, true, false, List, [], ◌∷◌, ◌++◌, map, drop, if◌then◌else◌}
use Rattle.std.specs.List.{AllByRecursion}
use Rattle.iot_tree.specs.Tree.{Nodes}
use Rattle.iot_stamp.specs.Stamps.{nodes_of}
use Rattle.iot_changes.specs.declared.changes.Change.{Change}
use Rattle.iot_changes.specs.declared.changes.Change.TheVariants.{Begun, Ended, Cut}
use Rattle.iot_kept.specs.States.{Transaction, State, view, own_view, has_number}
use Rattle.iot_kept.specs.declared.durable.Durable.{Durable}
use Rattle.iot_kept.specs.declared.memory.Memory.{Memory}
use Rattle.iot_kept.specs.declared.running.Ground.{Ground}
use Rattle.iot_kept.specs.declared.running.Ground.TheVariants.{View, Past}
use Rattle.iot_kept.specs.declared.running.Running.{Running}

-- a running transaction without its class
abbrev pub transaction : Running → Transaction
transaction running =
    record { number = running.tid; script = running.script; option = running.option; base = running.base; acts = running.acts }

abbrev pub transactions : List Running → List Transaction
transactions running = map transaction running

-- the state
abbrev pub durable_state : Durable → State
durable_state durable = record {
  held = nodes_of durable.held;
  items = durable.queue;
  running = transactions durable.running.items;
  last = durable.last;
  access = durable.access;
}

abbrev pub memory_state : Memory → State
memory_state memory = durable_state memory.durable

-- ---- the trees beside the state

-- the one beside a running transaction is its own view
abbrev pub SeesOwn : Running → Type 0
SeesOwn running = running.own ≡ own_view (transaction running)

-- this is so of one that runs on the view
abbrev pub IfOnView : Ground → Type 0 → Type 0
IfOnView View P = P
IfOnView Past P = Unit {0}

-- and its base is this tree, if it runs on the view
pub record StandsOn (t : Nodes) (running : Running) : Type 0 where
  pub own : SeesOwn running
  pub base : IfOnView running.on (running.base ≡ t)

-- the tree beside the state is its view, on which those that run stand
pub record Sees (memory : Memory) : Type 0 where
  pub view : memory.view ≡ view (memory_state memory)
  pub running : AllByRecursion (StandsOn memory.view) memory.durable.running.items

-- ---- the classes

-- whether those that run are first class, in their order
abbrev pub classes_of : List Running → List Bool
classes_of running = map (λ (it : Running). it.first) running

-- without that of the one with this number
abbrev pub other_classes : ℕ → List Transaction → List Bool → List Bool
other_classes number [] classes = classes
other_classes number (it ∷ running) [] = []
other_classes number (it ∷ running) (first ∷ classes) =
    if has_number number it then classes else first ∷ other_classes number running classes

-- with another one for the one with this number
abbrev pub with_class : ℕ → Bool → List Transaction → List Bool → List Bool
with_class number new [] classes = classes
with_class number new (it ∷ running) [] = []
with_class number new (it ∷ running) (first ∷ classes) =
    if has_number number it then new ∷ classes else first ∷ with_class number new running classes

-- the classes after a change of what ran: one that begins is second class
abbrev pub classes_after : Change → List Transaction → List Bool → List Bool
classes_after (Begun number script option) running classes = classes ++ false ∷ []
classes_after (Ended number) running classes = other_classes number running classes
classes_after (Cut number acts) running classes = drop 1 classes
classes_after other running classes = classes

-- all are second class
abbrev pub AreSecond : List Bool → Type 0
AreSecond classes = AllByRecursion (λ first. first ≡ false) classes

-- ---- those that run, one by one

-- the first one with this number is at this place
abbrev pub IsPlace : ℕ → List Running → ℕ → Type 0
IsPlace number [] place = ⊥
IsPlace number (it ∷ running) zero = has_number number (transaction it) ≡ true
IsPlace number (it ∷ running) (suc place) = (has_number number (transaction it) ≡ false) × IsPlace number running place

-- one in second class
abbrev pub second : Running → Running
second it = record it { first = false }

-- one that began on a view that is past
abbrev pub past : Running → Running
past it = record it { on = Past }
