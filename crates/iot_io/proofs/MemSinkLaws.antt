-- Whether the next call is among those listed.
use Rattle.std.proofs.Common.{◌≡◌, ℕ, ◌+◌, List, subst, Contains}

-- it is, whichever way the list and the count of calls are reached
pub listed_same : (xs ys : List ℕ) (m n : ℕ) → xs ≡ ys → m ≡ n → Contains xs (m + 1) → Contains ys (n + 1)
listed_same xs ys m n lists counts listed =
    subst (λ l. Contains l (n + 1)) lists (subst (λ k. Contains xs (k + 1)) counts listed)
