-- Which paths of a tree a profile takes along.
use Rattle.std.specs.Prelude.{◌≡◌, ◌≤◌, ◌-◌, ℕ, nat_le, if◌then◌else◌, List, [], ◌∷◌, ◌++◌, filter, is_some}
use Rattle.std.specs.FinMap.{get, keys}
use Rattle.std.specs.List.{flat_map}
use Rattle.iot_text.specs.Paths.{is_below, prefixes}
use Rattle.iot_tree.specs.Snapshots.{has}
use Rattle.iot_tree.specs.Tree.{Nodes, Path}
use Rattle.iot_hoard.specs.Sizes.{size, weight}
use Rattle.iot_tree.specs.declared.profile.Reach.{Reach}
use Rattle.iot_tree.specs.declared.profile.Reach.TheVariants as reaches
use Rattle.iot_tree.specs.declared.profile.Wish.{Wish}

-- ---- the order of wishes: by priority, greatest first, then by line

-- a wish in front of others of a later line, which stand in this order
abbrev pub put_wish : Wish → List Wish → List Wish
put_wish wish [] = wish ∷ []
put_wish wish (next ∷ wishes) =
    if nat_le next.priority wish.priority then wish ∷ next ∷ wishes else next ∷ put_wish wish wishes

abbrev pub by_priority : List Wish → List Wish
by_priority [] = []
by_priority (wish ∷ wishes) = put_wish wish (by_priority wishes)

-- ---- the paths of wishes

-- the paths of the tree below a path, in order, if the wish reaches so far
abbrev pub reached : Nodes → Reach → Path → List Path
reached s reaches.Path path = []
reached s reaches.Below path = filter (λ other. is_below other path) (keys s)

-- those of a wish: the path and the ones above it from the root down, then those below it
abbrev pub wished : Nodes → Wish → List Path
wished s wish = prefixes wish.path ++ reached s wish.reach wish.path

-- each path at its first place alone, where some came before
abbrev pub first_places : (before : List Path) → List Path → List Path
first_places before [] = []
first_places before (path ∷ paths) =
    if has before path then first_places before paths else path ∷ first_places (path ∷ before) paths

-- those of all wishes in their order which the tree has, each at its first place
abbrev pub listed : Nodes → List Wish → List Path
listed s wishes = first_places [] (filter (λ path. is_some (get s path)) (flat_map (wished s) (by_priority wishes)))

-- ---- the paths that are taken

-- the longest front of a list whose size is within the limit: any other that is within it is a front of this one
pub record IsLongestFront (s : Nodes) (limit : ℕ) (paths front : List Path) : Type 0 where
  pub later : List Path
  pub split : paths ≡ front ++ later
  pub within : size s front ≤ limit
  pub longest : (more rest : List Path) → paths ≡ more ++ rest → size s more ≤ limit → (others : List Path) × (front ≡ more ++ others)

-- these paths, as they stand in the tree
abbrev pub in_order : Nodes → List Path → List Path
in_order s paths = filter (has paths) (keys s)

-- what is taken: the longest front of the list, in the order of paths
pub record IsPick (s : Nodes) (wishes : List Wish) (limit : ℕ) (picked : List Path) : Type 0 where
  pub front : List Path
  pub longest : IsLongestFront s limit (listed s wishes) front
  pub is : picked ≡ in_order s front

-- ---- the same, path by path

-- the paths up to the first that does not fit into what is left of the limit
abbrev pub fitting : Nodes → (left : ℕ) → List Path → List Path
fitting s left [] = []
fitting s left (path ∷ paths) = if nat_le (weight s path) left then path ∷ fitting s (left - weight s path) paths else []

abbrev pub picked : Nodes → List Wish → (limit : ℕ) → List Path
picked s wishes limit = in_order s (fitting s limit (listed s wishes))
