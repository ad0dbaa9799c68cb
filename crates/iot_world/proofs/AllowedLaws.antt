-- Of events that are declared the next one may come, and those behind it stay declared.
use Rattle.{std.proofs.lemmas.List.drop_more, iot_event.specs.Declarations.ClientEventIsDeclared}
use Rattle.{iot_event.specs.declared.event.ClientEvent.ClientEvent, iot_world.proofs.Common.DeclaredOn, iot_world.proofs.Common.Event}
use Rattle.iot_world.proofs.Common.{List, Profile, World, client_count, drop, length, script_names, slice_index_or, ℕ, ◌+◌, ◌<◌, ◌∷◌, ◌≡◌}
use Rattle.iot_world.specs.Allowed.{IsAllowed, MayBefall}
use Rattle.iot_event.specs.declared.event.ClientEvent.TheVariants as client_events
use Rattle.iot_event.specs.declared.event.Event.TheVariants as events
use Rattle.iot_event.specs.declared.event.Task.TheVariants as tasks

-- what a client may be asked, if it says what it may say
may_befall : (what : ClientEvent ℕ Profile) (scripts : ℕ) → ClientEventIsDeclared what scripts → MayBefall what scripts
may_befall (client_events.Task (tasks.Run script option)) scripts declared = declared
may_befall (client_events.Task (tasks.Begin script option)) scripts declared = declared
may_befall (client_events.Task (tasks.Repair script)) scripts declared = declared
may_befall (client_events.Task (tasks.Reads item)) scripts declared = declared.0
may_befall (client_events.Task (tasks.Walk profile limit)) scripts declared = declared
may_befall what scripts declared = tt

-- the first of events that are declared may come
allowed_first : {D : Type 0} (event : Event) (later : List Event) (world : World D) → DeclaredOn (event ∷ later) world
    → IsAllowed event (client_count world) (script_names world)
allowed_first (events.Client name) later world declared = declared.0
allowed_first (events.Script name code) later world declared = declared.1
allowed_first (events.At client what) later world declared = (declared.0, may_befall what _ declared.1)
allowed_first event later world declared = tt

-- so many events are done in turn, those behind them are declared, and this is the next one
module _ {D : Type 0} (events : List Event) (done : ℕ) (event : Event) (world : World D) (declared : DeclaredOn (drop done events) world)
    (within : done < length events) (here : event ≡ slice_index_or events done event) where
  left : DeclaredOn (event ∷ drop (done + 1) events) world
  left = rw (drop_more events done event within, ← here) at declared

  -- it may come
  pub next_allowed : IsAllowed event (client_count world) (script_names world)
  next_allowed = allowed_first event (drop (done + 1) events) world left

  -- when it is done, those behind it are declared
  pub rest_declared : (new : World D) → ((later : List Event) → DeclaredOn (event ∷ later) world → DeclaredOn later new)
      → DeclaredOn (drop (done + 1) events) new
  rest_declared new declares = declares (drop (done + 1) events) left
