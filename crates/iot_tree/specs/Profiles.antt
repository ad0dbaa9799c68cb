-- Profiles: what a client wishes to take along, and within which limit.
use Rattle.std.specs.Prelude.{◌≤◌, ℕ, List, length}
use Rattle.std.specs.List.{AllByRecursion}
use Rattle.iot_text.specs.Paths.{IsPath}
use Rattle.iot_tree.specs.declared.limits.TheConstants.{PRIORITY_LIMIT, WALK_LIMIT, WISH_LIMIT}
use Rattle.iot_tree.specs.declared.profile.Wish.{Wish}

abbrev pub Profile : Type 0
Profile = List Wish

-- a wish for a path, of a priority that there is
pub record IsWish (wish : Wish) : Type 0 where
  pub least : 1 ≤ wish.priority
  pub most : wish.priority ≤ PRIORITY_LIMIT
  pub path : IsPath wish.path

-- such wishes, not too many
pub record IsProfile (profile : Profile) : Type 0 where
  pub few : length profile ≤ WISH_LIMIT
  pub each : AllByRecursion IsWish profile

-- a limit that there is
pub record IsWalkLimit (limit : ℕ) : Type 0 where
  pub least : 1 ≤ limit
  pub most : limit ≤ WALK_LIMIT
