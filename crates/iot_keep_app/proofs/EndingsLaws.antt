-- A server that does not start, or has served.
use Rattle.std.proofs.Common.{inl, inr, ℕ, List, Option, arith}
use Rattle.std.specs.Prelude.{Result, Ok, Err}
use Rattle.std.specs.Io.KnownBytes.{Appends, IsAtEnd}
use Rattle.std.proofs.KnownBytes.{Appends-nil, Consumes-nil}
use Rattle.iot_disk.specs.declared.faults.StartFault.{StartFault}
use Rattle.iot_disk.specs.declared.faults.StartFault.TheVariants as start
use Rattle.iot_durable.specs.Causes.{HasCause}
use Rattle.iot_io.specs.ReadAll.{Took}
use Rattle.iot_records.specs.Records.{ChangesNothing}
use Rattle.iot_store.specs.Rules.{rules}
use Rattle.iot_store.specs.Standing.{StandFor}
use Rattle.iot_store.specs.States.{State}
use Rattle.iot_keep_app.specs.Endings.{DidNothing, Ends, FailsBy}
use Rattle.iot_keep_app.specs.Serving.{Effects, EachKeeps, Kept, ServeEnds}
use Rattle.iot_keep_app.specs.Status.{of_start}
use Rattle.iot_keep_app.specs.declared.fault.ServeFault.{ServeFault}
use Rattle.iot_keep_app.specs.declared.fault.ServeFault.TheVariants.{NoMemory, Foreign, Damaged, Stopped, ReadFailed, Cut}
use Rattle.iot_keep_app.specs.declared.fault.ServeFault.TheVariants.{TooLong, WriteFailed, TooMany}

-- nothing was read and nothing written
pub idle : {S : Type 0} (left : S → Option (List ℕ)) (taken : S → ℕ) (source : S) (written : Option (List ℕ)) (images : List ℕ → Type 0)
    → DidNothing (record {
      took = Took left taken source source;
      at_end = IsAtEnd (left source);
      wrote = Appends written written;
      images = images;
    })
idle left taken source written images = record {
  took = record { consumed = Consumes-nil (left source); counted = omega arith };
  wrote = Appends-nil written;
}

-- by the fault of a start
pub start_fails : (it : Effects) (bytes : List ℕ) (A B : Type 0) (before now : ℕ) → DidNothing it
    → ((state : State) → StandFor bytes state → EachKeeps it.images state) → (fault : StartFault)
    → HasCause rules fault bytes before now → ChangesNothing fault A → ChangesNothing fault B → FailsBy it bytes (A × B) (of_start fault)
start_fails it bytes A B before now rests keeps start.NoMemory cause a b = inl (record { idle = rests; keeps = keeps })
start_fails it bytes A B before now rests keeps start.Stopped cause a b = inl (record { idle = rests; keeps = keeps })
start_fails it bytes A B before now rests keeps start.Foreign cause a b = record { idle = rests; same = (a, b); so = cause.0 }
start_fails it bytes A B before now rests keeps (start.Damaged at) cause a b = record { idle = rests; same = (a, b); so = cause.0 }

-- by how serving ends
pub then_ends : (T : Type 0) (it : Effects) (bytes : List ℕ) (untouched : Type 0) (start : Kept) → StandFor bytes start.state
    → (result : Result T ServeFault) → ServeEnds it start result → Ends it bytes untouched result
then_ends T it bytes untouched start stood (Ok done) ends = record { start = start; stood = stood; ends = ends }
then_ends T it bytes untouched start stood (Err NoMemory) ends = inr (record { start = start; stood = stood; ends = ends })
then_ends T it bytes untouched start stood (Err Stopped) ends = inr (record { start = start; stood = stood; ends = ends })
then_ends T it bytes untouched start stood (Err Foreign) ends = absurd ends.ends
then_ends T it bytes untouched start stood (Err (Damaged at)) ends = absurd ends.ends
then_ends T it bytes untouched start stood (Err ReadFailed) ends = record { start = start; stood = stood; ends = ends }
then_ends T it bytes untouched start stood (Err Cut) ends = record { start = start; stood = stood; ends = ends }
then_ends T it bytes untouched start stood (Err TooLong) ends = record { start = start; stood = stood; ends = ends }
then_ends T it bytes untouched start stood (Err WriteFailed) ends = record { start = start; stood = stood; ends = ends }
then_ends T it bytes untouched start stood (Err TooMany) ends = record { start = start; stood = stood; ends = ends }
