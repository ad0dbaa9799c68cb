-- A step, an end and a cut leave a client at its place.
use Rattle.std.specs.Prelude.{◌≡◌, ◌≤◌, ℕ, Bool, List, [], ◌∷◌, Option, Some, None, IsSomeAnd, Result, Ok, Err, OnOk}
use Rattle.std.proofs.Common.{ap, subst, sym}
use Rattle.iot_lang.specs.Code.{Code}
use Rattle.iot_kept.specs.States.{Transaction}
use Rattle.iot_client.specs.Calls.{CutsIfAny, StepIs, EndIs, IsSoOf}
use Rattle.iot_client.specs.Ties.{Live, place_of}
use Rattle.iot_client.specs.declared.client.Client.{Client}
use Rattle.iot_client.specs.declared.steps.Step.{Step}
use Rattle.iot_client.specs.declared.steps.Step.TheVariants.{Acted, Fetch, AtEnd, AtLimit}
use Rattle.iot_client.specs.declared.ended.Ended.{Ended}
use Rattle.iot_client.specs.declared.ended.Ended.TheVariants.{Joined, Again}

module _ {D : Type 0} (old new : Client D) where
  step_is : (step : Step) (it : Transaction) (first : Bool) (code : Code) → StepIs old it first code step new → place_of new ≡ place_of old
  step_is (Acted acts ended) it first code is = is.notes.place
  step_is (Fetch request path) it first code is = is.1.stays.place
  step_is (AtEnd acts) it first code is = is.2.place
  step_is (AtLimit acts) it first code is = is.3.place

  end_is : (ended : Ended) (it : Transaction) (first : Bool) (code : Code) → EndIs old it first code ended new → place_of new ≡ place_of old
  end_is (Joined tid class) it first code is = is.2.notes.place
  end_is (Again read question) it first code is = is.notes.place

  known : (Is : Code → Type 0) → ((code : Code) → Is code → place_of new ≡ place_of old) → (code : Option Code) → IsSomeAnd code Is
      → place_of new ≡ place_of old
  known Is so None is = absurd is
  known Is so (Some code) is = so code is

  one : (Is : Transaction → (first : Bool) → Code → Type 0)
      → ((it : Transaction) (first : Bool) (code : Code) → Is it first code → place_of new ≡ place_of old)
      → (it : Option Transaction) (live : Option Live) → IsSoOf Is it live → place_of new ≡ place_of old
  one Is so None live is = absurd is
  one Is so (Some it) None is = absurd is
  one Is so (Some it) (Some live) is = known (Is it live.first) (so it live.first) live.code is

  -- whatever the step was
  pub step_stays : (step : Step) (it : Option Transaction) (live : Option Live)
      → IsSoOf (λ it first code. StepIs old it first code step new) it live → place_of new ≡ place_of old
  step_stays step = one (λ it first code. StepIs old it first code step new) (step_is step)

  -- whatever came of the end
  pub end_stays : (ended : Ended) (it : Option Transaction) (live : Option Live)
      → IsSoOf (λ it first code. EndIs old it first code ended new) it live → place_of new ≡ place_of old
  end_stays ended = one (λ it first code. EndIs old it first code ended new) (end_is ended)

  -- whatever was cut
  pub cut_stays : (running : List Transaction) (told : Option (ℕ × ℕ)) → CutsIfAny running told old new → place_of new ≡ place_of old
  cut_stays [] told is = ap place_of is.1
  cut_stays (it ∷ running) told is = is.notes.place

  pub at_most : place_of new ≡ place_of old → place_of old ≤ 7 → place_of new ≤ 7
  at_most same few = subst (λ place. place ≤ 7) (sym same) few

pub if_ok : {T E : Type 0} (P : Type 0) (answer : Result T E) → P → OnOk answer P
if_ok P (Ok value) so = so
if_ok P (Err fault) so = tt
