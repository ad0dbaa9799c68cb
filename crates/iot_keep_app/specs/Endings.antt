-- How a server that starts from a disk and serves frames ends.
use Rattle.std.specs.Prelude.{◌≡◌, ◌⊎◌, ℕ, List, [], Result, Ok, Err}
use Rattle.iot_durable.specs.Damage.{IsDamagedAt}
use Rattle.iot_slots.specs.Decoding.{Foreign as foreign, decoded}
use Rattle.iot_store.specs.Rules.{header, rules}
use Rattle.iot_store.specs.Standing.{StandFor}
use Rattle.iot_store.specs.States.{State}
use Rattle.iot_keep_app.specs.Serving.{Kept, Effects, EachKeeps, ServesAll, ServeFails}
use Rattle.iot_keep_app.specs.declared.fault.ServeFault.{ServeFault}
use Rattle.iot_keep_app.specs.declared.fault.ServeFault.TheVariants.{NoMemory, Foreign, Damaged, Stopped}

-- the server started from what the disk read as, and this came of what it kept
pub record Started (bytes : List ℕ) (Ending : Kept → Type 0) : Type 0 where
  pub start : Kept
  pub stood : StandFor bytes start.state
  pub ends : Ending start

-- nothing was read and nothing written
pub record DidNothing (it : Effects) : Type 0 where
  pub took : it.took []
  pub wrote : it.wrote []

-- the server did not start: each image stands for the state for which the disk stood
pub record NotStarted (it : Effects) (bytes : List ℕ) : Type 0 where
  pub idle : DidNothing it
  pub keeps : (state : State) → StandFor bytes state → EachKeeps it.images state

-- the bytes of the disk are refused, and it is as it was
pub record Refused (it : Effects) (untouched why : Type 0) : Type 0 where
  pub idle : DidNothing it
  pub same : untouched
  pub so : why

-- by the fault, how it fails, by what the disk read as, and whether the disk is as it was
abbrev pub FailsBy : Effects → (bytes : List ℕ) → (untouched : Type 0) → ServeFault → Type 0
FailsBy it bytes untouched Foreign = Refused it untouched (decoded header bytes ≡ foreign)
FailsBy it bytes untouched (Damaged at) = Refused it untouched (IsDamagedAt rules bytes at)
FailsBy it bytes untouched NoMemory = NotStarted it bytes ⊎ Started bytes (λ start. ServeFails it start NoMemory)
FailsBy it bytes untouched Stopped = NotStarted it bytes ⊎ Started bytes (λ start. ServeFails it start Stopped)
FailsBy it bytes untouched other = Started bytes (λ start. ServeFails it start other)

-- how it ends
abbrev pub Ends : {T : Type 0} → Effects → (bytes : List ℕ) → (untouched : Type 0) → Result T ServeFault → Type 0
Ends it bytes untouched (Ok _) = Started bytes (λ start. ServesAll it start)
Ends it bytes untouched (Err fault) = FailsBy it bytes untouched fault
