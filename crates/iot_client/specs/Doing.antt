-- What an interpreter does when it does one act.
use Rattle.std.specs.Prelude.{◌≡◌, ◌<◌, ℕ, zero, suc, Bool, true, false, List, [], ◌∷◌, length, Option, Some, None}
use Rattle.std.specs.FinMap.{empty}
use Rattle.iot_tree.specs.Tree.{Nodes}
use Rattle.iot_tree.specs.declared.limits.TheConstants.{ACT_LIMIT}
use Rattle.iot_acts.specs.Guards.{IsGuarded}
use Rattle.iot_acts.specs.Traces.{ActsHold, after_update}
use Rattle.iot_lang.specs.Code.{Code}
use Rattle.iot_exec.specs.Places.{is_over}
use Rattle.iot_exec.specs.Execs.{IsNextAt, IsRunning, RunsOn, place, kept_by, act_count, next_miss}
use Rattle.iot_kept.specs.States.{Transaction, has_number, numbered}
use Rattle.iot_client.specs.Calls.{live_numbered, has_ended, IsSoOf, missed_by}
use Rattle.iot_client.specs.Ties.{Live}
use Rattle.iot_client.specs.declared.interpreter.Decided.{Decided}
use Rattle.iot_client.specs.declared.interpreter.Decided.TheVariants as decides
use Rattle.iot_client.specs.declared.interpreter.Interpreter.{Interpreter}
use Rattle.iot_client.specs.declared.interpreter.Done.{Done}

-- ---- the one with a number

-- among those that run it is at this place
abbrev pub IsAt : ℕ → List Transaction → (at : ℕ) → Type 0
IsAt number [] at = ⊥
IsAt number (it ∷ running) zero = has_number number it ≡ true
IsAt number (it ∷ running) (suc at) = (has_number number it ≡ false) × IsAt number running at

-- it runs, its script is known, and this is so of both and of its class
abbrev pub IsSoOfOne : (Transaction → (first : Bool) → Code → Type 0) → (number : ℕ) → List Transaction → List Live → Type 0
IsSoOfOne Is number running lives = IsSoOf Is (numbered number running) (live_numbered number running lives)

-- its script has not ended, and it may do one more act
abbrev pub GoesOn : Transaction → (first : Bool) → Code → Type 0
GoesOn it first code = (has_ended it code ≡ false) × (length it.acts < ACT_LIMIT)

-- ---- its interpreter

-- it is at the first act of this script, on any tree
abbrev pub Starts : Code → Interpreter → Type 0
Starts code i = (t : Nodes) → IsRunning code empty t 0 [] i.exec t

-- the other one is at the first act of the same script
pub record IsAgain (i j : Interpreter) : Type 0 where
  pub same : j.script.value ≡ i.script.value
  pub starts : Starts i.script.value j

abbrev pub IsAgainIfAny : Option Interpreter → Option Interpreter → Type 0
IsAgainIfAny None None = Unit {0}
IsAgainIfAny None (Some j) = ⊥
IsAgainIfAny (Some i) None = ⊥
IsAgainIfAny (Some i) (Some j) = IsAgain i j

-- there is one, its script has not ended, and it may do one more act
abbrev pub IsAble : Option Interpreter → Type 0
IsAble None = ⊥
IsAble (Some i) = (is_over (place i.exec) ≡ false) × (act_count i.exec < ACT_LIMIT)

-- it did the next act of its script on the tree t, but for the act's update
pub record Did (i : Interpreter) (t : Nodes) (done : Done) (j : Interpreter) : Type 0 where
  pub same : j.script.value ≡ i.script.value
  pub next : IsNextAt (kept_by i.exec) (place i.exec) t done.act (place j.exec) (after_update t done.act.update)
  pub goes_on : RunsOn i.exec t done.act j.exec (after_update t done.act.update)
  pub holds : ActsHold t (done.act ∷ [])
  pub guarded : IsGuarded done.act
  pub counted : done.acts ≡ act_count j.exec
  pub over : done.ended ≡ is_over (place j.exec)

abbrev pub DidIfAny : Option Interpreter → Nodes → Done → Option Interpreter → Type 0
DidIfAny None t done j = ⊥
DidIfAny (Some i) t done None = ⊥
DidIfAny (Some i) t done (Some j) = Did i t done j

-- the next act was done, and if it is first class it misses nothing; or it is first class, misses this path, and was not done
abbrev pub Decides : Bool → Interpreter → Nodes → Decided → Interpreter → Type 0
Decides first i t (decides.Did done) j = (None ≡ missed_by first (next_miss (kept_by i.exec) (place i.exec) t)) × Did i t done j
Decides first i t (decides.Missed path) j = (Some path ≡ missed_by first (next_miss (kept_by i.exec) (place i.exec) t)) × (j ≡ i)

abbrev pub DecidesIfAny : Bool → Option Interpreter → Nodes → Decided → Option Interpreter → Type 0
DecidesIfAny first None t decided j = ⊥
DecidesIfAny first (Some i) t decided None = ⊥
DecidesIfAny first (Some i) t decided (Some j) = Decides first i t decided j
