-- Tables of bytes that have a 1 at each byte which passes a test, and a 0 at each other.
use Rattle.std.proofs.Common.{◌≡◌, ℕ, ◌==◌, ◌<◌, Bool, true, false, List, map, cond, get_or, refl, ap, ◌∙◌, arith}
use Rattle.std.proofs.lemmas.List.FromFn.{get_or-map-range_with_len}
use Rattle.std.specs.List.{range_with_len}

marked : (t : Bool) → (cond t 1 0 == 1) ≡ t
marked true = refl
marked false = refl

module _ (test : ℕ → Bool) where
  abbrev mark : ℕ → ℕ
  mark b = cond (test b) 1 0

  -- a byte passes the test exactly if the table has a 1 there
  pub table_tells : (table : List ℕ) → table ≡ map mark (range_with_len 0 256) → (b : ℕ) → b < 256 → (get_or table b 0 == 1) ≡ test b
  table_tells table is b within =
      ap (λ (n : ℕ). n == 1) (ap (λ t. get_or t b 0) is ∙ get_or-map-range_with_len mark 0 256 b b 0 within (omega arith))
      ∙ marked (test b)
