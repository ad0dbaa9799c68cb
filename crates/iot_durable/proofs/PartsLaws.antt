-- What is said of a disk that may be missing, and of two, one of which is concerned.
use Rattle.std.proofs.Common.{◌≡◌, Bool, true, false, Option, Some, None, refl, sym, ap, subst}
use Rattle.std.specs.Prelude.{not}
use Rattle.iot_backup.specs.Parts.{part, If, Changes}

-- what is there, or else this
known : {X : Type 0} → X → Option X → X
known x (Some y) = y
known x None = x

pub some_same : {X : Type 0} (x y : X) → Some x ≡ Some y → x ≡ y
unfolding known
some_same x y is = ap (known x) is

module _ {X : Type 0} where
  pub if_map : (P Q : X → Type 0) → ((x : X) → P x → Q x) → (o : Option X) → If P o → If Q o
  if_map P Q so (Some x) it = so x it
  if_map P Q so None it = tt

  pub if_both : (P Q T : X → Type 0) → ((x : X) → P x → Q x → T x) → (o : Option X) → If P o → If Q o → If T o
  if_both P Q T so (Some x) it also = so x it also
  if_both P Q T so None it also = tt

  -- nothing was done
  pub changes_same : (P : X → Type 0) (R : X → X → Type 0) → ((x : X) → P x → R x x) → (a b : Option X) → b ≡ a → If P a → Changes R a b
  changes_same P R so a b same it = subst (Changes R a) (sym same) (by a it)
    where
      by : (o : Option X) → If P o → Changes R o o
      by (Some x) here = so x here
      by None here = tt

  pub changes_map : (R Q : X → X → Type 0) → ((x y : X) → R x y → Q x y) → (a b : Option X) → Changes R a b → Changes Q a b
  changes_map R Q so (Some x) (Some y) it = so x y it
  changes_map R Q so (Some x) None it = absurd it
  changes_map R Q so None (Some y) it = absurd it
  changes_map R Q so None None it = tt

  pub changes_both : (R T Q : X → X → Type 0) → ((x y : X) → R x y → T x y → Q x y) → (a b : Option X) → Changes R a b → Changes T a b
      → Changes Q a b
  changes_both R T Q so (Some x) (Some y) it also = so x y it also
  changes_both R T Q so (Some x) None it also = absurd it
  changes_both R T Q so None (Some y) it also = absurd it
  changes_both R T Q so None None it also = tt

  -- by what was so before
  pub changes_with : (P : X → Type 0) (R Q : X → X → Type 0) → ((x y : X) → P x → R x y → Q x y) → (a b : Option X) → If P a
      → Changes R a b → Changes Q a b
  changes_with P R Q so (Some x) (Some y) before it = so x y before it
  changes_with P R Q so (Some x) None before it = absurd it
  changes_with P R Q so None (Some y) before it = absurd it
  changes_with P R Q so None None before it = tt

  -- what is so now
  pub changes_if : (R : X → X → Type 0) (P : X → Type 0) → ((x y : X) → R x y → P y) → (a b : Option X) → Changes R a b → If P b
  changes_if R P so (Some x) (Some y) it = so x y it
  changes_if R P so (Some x) None it = absurd it
  changes_if R P so None (Some y) it = absurd it
  changes_if R P so None None it = tt

  -- by what is so now
  pub changes_now : (P : X → Type 0) (R Q : X → X → Type 0) → ((x y : X) → P y → R x y → Q x y) → (a b : Option X) → If P b
      → Changes R a b → Changes Q a b
  changes_now P R Q so (Some x) (Some y) now it = so x y now it
  changes_now P R Q so (Some x) None now it = absurd it
  changes_now P R Q so None (Some y) now it = absurd it
  changes_now P R Q so None None now it = tt

  -- one after the other
  pub changes_join : (R T Q : X → X → Type 0) → ((x y z : X) → R x y → T y z → Q x z) → (a b c : Option X) → Changes R a b
      → Changes T b c → Changes Q a c
  changes_join R T Q so (Some x) (Some y) (Some z) one two = so x y z one two
  changes_join R T Q so (Some x) (Some y) None one two = absurd two
  changes_join R T Q so (Some x) None c one two = absurd one
  changes_join R T Q so None (Some y) c one two = absurd one
  changes_join R T Q so None None (Some z) one two = absurd two
  changes_join R T Q so None None None one two = tt

  -- none comes
  pub none_comes : (R : X → X → Type 0) (a b : Option X) → Changes R a b → a ≡ None → b ≡ None
  none_comes R a b it none = by b (subst (λ (o : Option X). Changes R o b) none it)
    where
      by : (o : Option X) → Changes R None o → o ≡ None
      by (Some y) here = absurd here
      by None here = refl

  -- what is so of the disk that was concerned, and was so of both
  pub part_new : (P : X → Type 0) (b : Bool) (one one_now : X) (other other_now : Option X) → If P (part b one_now other_now)
      → part (not b) one_now other_now ≡ part (not b) one other → P one → If P other → P one_now × If P other_now
  part_new P false one one_now other other_now here same first second = (here, subst (If P) (sym same) second)
  part_new P true one one_now other other_now here same first second = (subst P (sym (some_same one_now one same)) first, here)

  pub part_old : (P : X → Type 0) (b : Bool) (one : X) (other : Option X) → P one → If P other → If P (part b one other)
  part_old P false one other first second = first
  part_old P true one other first second = second
