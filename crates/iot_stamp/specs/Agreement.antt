-- When a held tree and the server's tree agree.
use Rattle.std.specs.Prelude.{◌≡◌, ◌≢◌, ℕ, ◌≤◌, ◌<◌, true, List, [], ◌∷◌, ◌++◌, Option, Some, option_map, Bool}
use Rattle.std.specs.FinMap.{get}
use Rattle.iot_tree.specs.Tree.{Path, Nodes, IsTree, IsWhole}
use Rattle.iot_tree.specs.declared.nodes.Node.{Node}
use Rattle.iot_tree.specs.Snapshots.{is_known, far}
use Rattle.iot_stamp.specs.Stamps.{Entry, Stamps, nodes_of}
use Rattle.iot_tree.specs.declared.want.Want.{Want}
use Rattle.iot_stamp.specs.Refresh.{known_with_stamps, asked, changed_rows, gone_paths}

-- what the directory of a path shows of it: the object without its inside, which is its kind, and the mode of a file
abbrev pub shown_in : Nodes → Path → Option Node
shown_in t p = option_map far (get t p)

-- both trees have the same row at the path, and the same names below it with the same kinds and modes
pub record SameInside (t u : Nodes) (p : Path) : Type 0 where
  pub row : get t p ≡ get u p
  pub names : (name : List ℕ) → shown_in t (p ++ name ∷ []) ≡ shown_in u (p ++ name ∷ [])

-- rows at one path with the same stamp are the same, also inside
abbrev pub Agrees : Stamps → Stamps → Type 0
Agrees held s =
    (p : Path) (a b : Node) (stamp : ℕ) → get held p ≡ Some (a, stamp) → get s p ≡ Some (b, stamp)
    → SameInside (nodes_of held) (nodes_of s) p

-- each stamp is a number that a commit gave
abbrev pub IsPositive : Stamps → Type 0
IsPositive s = (p : Path) (a : Node) (stamp : ℕ) → get s p ≡ Some (a, stamp) → 0 < stamp

-- no stamp is above the bound
abbrev pub UpTo : Stamps → ℕ → Type 0
UpTo t bound = (p : Path) (a : Node) (stamp : ℕ) → get t p ≡ Some (a, stamp) → stamp ≤ bound

-- each known row of `new` that has not this stamp was there before, and is the same inside
abbrev pub Keeps : Stamps → Stamps → ℕ → Type 0
Keeps old new stamp =
    (p : Path) (a : Node) (n : ℕ) → get new p ≡ Some (a, n) → is_known a ≡ true → n ≢ stamp
    → (get old p ≡ Some (a, n)) × SameInside (nodes_of old) (nodes_of new) p

-- each path that the held tree knows is among k
pub record Knows (h : Stamps) (k : Path → Bool) : Type 0 where
  pub all : (p : Path) (a : Node) (n : ℕ) → get h p ≡ Some (a, n) → is_known a ≡ true → k p ≡ true

-- these are the changes of the whole tree s, cut down to k, for what the held tree knows, all of which is among k; and both trees agree
pub record IsCutTo (held s : Stamps) (k : Path → Bool) (rows : List Entry) (gone : List Path) : Type 0 where
  pub tree : IsTree (nodes_of s)
  pub whole : IsWhole (nodes_of s)
  pub agrees : Agrees held s
  pub knows : Knows held k
  pub rows_are : rows ≡ changed_rows s (known_with_stamps held) k
  pub gone_are : gone ≡ gone_paths s (known_with_stamps held) k

-- these are the changes of the whole tree s for what the held tree knows and what is wanted, and both trees agree
pub record IsRefresh (held s : Stamps) (want : Want) (rows : List Entry) (gone : List Path) : Type 0 where
  pub tree : IsTree (nodes_of s)
  pub whole : IsWhole (nodes_of s)
  pub agrees : Agrees held s
  pub rows_are : rows ≡ changed_rows s (known_with_stamps held) (asked s (known_with_stamps held) want)
  pub gone_are : gone ≡ gone_paths s (known_with_stamps held) (asked s (known_with_stamps held) want)
