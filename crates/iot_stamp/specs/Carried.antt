-- Stamps that move with their rows.
use Rattle.std.specs.Prelude.{◌≡◌, ℕ, Bool, cond, List, ◌++◌, ◌||◌, length, bytes_eq}
use Rattle.std.specs.List.{starts_with}
use Rattle.iot_tree.specs.Tree.{Path}

-- `new` is `old` after a move: as many stamps as come are taken out at `at`, of the others the one at `to` if it goes,
-- and those that come stand at `to`
pub record IsCarried (old : List ℕ) (at to : ℕ) (goes : Bool) (come new : List ℕ) : Type 0 where
  pub by : (a b c front own back : List ℕ) → old ≡ a ++ (b ++ c) → length a ≡ at → length b ≡ length come
      → a ++ c ≡ front ++ (own ++ back) → length front ≡ to → length own ≡ cond goes 1 0 → new ≡ front ++ (come ++ back)

-- whether a path is at or below p or q
abbrev pub in_either : Path → Path → Path → Bool
in_either p q k = starts_with bytes_eq k q || starts_with bytes_eq k p
