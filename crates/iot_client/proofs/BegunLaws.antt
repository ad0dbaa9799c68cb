-- A transaction begins, if not too many run.
use Rattle.std.proofs.Common.{◌≡◌, ℕ, ◌<◌, ◌+◌, Bool, true, false, List, [], ◌∷◌, ◌++◌, length, Option, Some, None, refl, sym, ◌∙◌}
use Rattle.std.proofs.lemmas.Bool.Decides.{nat_tests}
use Rattle.std.proofs.Common.{arith}
use Rattle.std.specs.Prelude.{nat_lt, if◌then◌else◌}
use Rattle.iot_disk.specs.Disk.{Medium}
use Rattle.iot_tree.specs.declared.labels.OnConflict.{OnConflict}
use Rattle.iot_bodies.specs.declared.running.TheConstants.{RUN_LIMIT}
use Rattle.iot_changes.specs.declared.changes.Change.TheVariants.{Begun}
use Rattle.iot_lang.specs.Code.{Code}
use Rattle.iot_lang.specs.Scripts.{IsScript}
use Rattle.iot_kept.specs.Changes.{after}
use Rattle.iot_kept.specs.Memory.{with_class}
use Rattle.iot_kept.specs.States.{Transaction, view}
use Rattle.iot_kept.proofs.SyncedLaws.{synced_numbered}
use Rattle.iot_client.specs.Calls.{busy}
use Rattle.iot_client.specs.Doing.{Starts}
use Rattle.iot_client.specs.Ties.{lives, AreRuns, IsTied, state_of, classes_in, live_of}
use Rattle.iot_client.specs.declared.client.Client.{Client}
use Rattle.iot_client.specs.declared.fault.ClientFault.TheVariants.{Busy}
use Rattle.iot_client.specs.declared.interpreter.Interpreter.{Interpreter}
use Rattle.iot_client.proofs.LivesLaws.{all_others, begun_lives}
use Rattle.iot_client.proofs.PlaceLaws.{count_is, runs_count}
use Rattle.iot_client.proofs.TiesLaws.{carried, runs_begun}

-- ---- one more may run

room_by : (few : Bool) (n : ℕ) → nat_lt n RUN_LIMIT ≡ few → (if few then None else Some Busy) ≡ None → n < RUN_LIMIT
room_by true n few none = grind (arith, nat_tests)
room_by false n few none = absurd cc

pub has_room : (running : List Transaction) → busy running ≡ None → length running < RUN_LIMIT
has_room running none = room_by (nat_lt (length running) RUN_LIMIT) (length running) refl none

-- ---- it begins

module _ {D : Type 0} (medium : Medium D) (old : Client D) (tied : IsTied medium old) (number : ℕ) (script : List ℕ) (option : OnConflict)
    (code : Code) (new : Interpreter) (same : new.script.value ≡ code) where
  abbrev it : Transaction
  it = record { number = number; script = script; option = option; base = view (state_of old); acts = [] }

  module _ (running : List Transaction) (interpreters : List (Option Interpreter))
      (runs : running ≡ (after (state_of old) (Begun number script option)).running)
      (push : interpreters ≡ old.interpreters.items ++ Some new ∷ []) where
    pub tied_begun : Starts code new → IsScript code → AreRuns running interpreters
    tied_begun starts good =
        carried (after (state_of old) (Begun number script option)).running running (old.interpreters.items ++ Some new ∷ []) interpreters
        runs push
        (runs_begun (state_of old) number script option old.interpreters.items code new same starts good tied.runs)

    pub live_begun : (noted set : List Bool) (first : Bool) → number ≡ (state_of old).last + 1 → noted ≡ classes_in old ++ false ∷ []
        → set ≡ with_class number first running noted
        → lives set interpreters ≡ live_of old ++ record { first = first; code = Some code } ∷ []
    live_begun noted set first next second made =
        begun_lives number (state_of old).running running it (classes_in old) noted set old.interpreters.items interpreters first new code
        refl (count_is old) (count_is old ∙ sym (runs_count (state_of old).running old.interpreters.items tied.runs))
        (all_others (state_of old).last number (state_of old).items (state_of old).running next
        (synced_numbered medium old.kept tied.synced).last)
        runs second made push same
