-- What is said of a second disk, if there is one.
use Rattle.std.proofs.Common.{◌≡◌, Option, Some, None, refl}
use Rattle.std.specs.Prelude.{option_map}
use Rattle.iot_backup.specs.Parts.{Changes, If}

module _ {X : Type 0} where
  -- what is left as it was
  pub changes_same : (R : X → X → Type 0) → ((x : X) → R x x) → (o : Option X) → Changes R o o
  changes_same R so (Some x) = so x
  changes_same R so None = tt

  -- and what was so before
  pub changes_still : (P : X → Type 0) (R : X → X → Type 0) → ((x : X) → P x → R x x) → (o : Option X) → If P o → Changes R o o
  changes_still P R so (Some x) it = so x it
  changes_still P R so None it = tt

  pub changes_map : (R Q : X → X → Type 0) → ((was now : X) → R was now → Q was now) → (old new : Option X) → Changes R old new
      → Changes Q old new
  changes_map R Q so (Some was) (Some now) it = so was now it
  changes_map R Q so (Some was) None it = absurd it
  changes_map R Q so None (Some now) it = absurd it
  changes_map R Q so None None it = tt

  pub changes_if : (R : X → X → Type 0) (P : X → Type 0) → ((was now : X) → R was now → P now) → (old new : Option X) → Changes R old new
      → If P new
  changes_if R P so (Some was) (Some now) it = so was now it
  changes_if R P so (Some was) None it = absurd it
  changes_if R P so None (Some now) it = absurd it
  changes_if R P so None None it = tt

  -- none comes
  pub changes_none : (R : X → X → Type 0) (old new : Option X) → Changes R old new → old ≡ None → new ≡ None
  changes_none R None None it is = refl
  changes_none R None (Some now) it is = absurd it
  changes_none R (Some was) new it is = absurd cc

  pub if_map : (P Q : X → Type 0) → ((x : X) → P x → Q x) → (o : Option X) → If P o → If Q o
  if_map P Q so (Some x) it = so x it
  if_map P Q so None it = tt

  pub if_both : (P Q R : X → Type 0) → ((x : X) → P x → Q x → R x) → (o : Option X) → If P o → If Q o → If R o
  if_both P Q R so (Some x) one other = so x one other
  if_both P Q R so None one other = tt

  -- what was so before, of what it was made of
  pub changes_from : (P Q : X → Type 0) (R : X → X → Type 0) → ((was now : X) → P was → R was now → Q now) → (old new : Option X) → If P old
      → Changes R old new → If Q new
  changes_from P Q R so (Some was) (Some now) one it = so was now one it
  changes_from P Q R so (Some was) None one it = absurd it
  changes_from P Q R so None (Some now) one it = absurd it
  changes_from P Q R so None None one it = tt

-- what is made of it
pub if_mapped : {X Y : Type 0} (P : Y → Type 0) (f : X → Y) (o : Option X) → If (λ x. P (f x)) o → If P (option_map f o)
if_mapped P f (Some x) it = it
if_mapped P f None it = tt
