-- What holds of each element of a list that grows.
use Rattle.std.proofs.Common.{List, [], ◌∷◌, ◌++◌}
use Rattle.std.specs.List.{AllByRecursion}

pub all_push : {A : Type 0} (P : A → Type 0) (xs : List A) (x : A) → P x → AllByRecursion P xs → AllByRecursion P (xs ++ x ∷ [])
all_push P [] x it all = (it, tt)
all_push P (y ∷ ys) x it all = (all.0, all_push P ys x it all.1)
