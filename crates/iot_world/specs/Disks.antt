-- The disks of a world: the first is the server's, and the last that of its backup. Between them are those of its clients, and then those
-- that no node has yet.
use Rattle.std.specs.Prelude.{◌++◌, ◌+◌, ◌∷◌, ◌≡◌, ◌⊎◌}
use Rattle.{iot_count.specs.Counts.Rose, iot_judging.specs.Lists.state_of}
use Rattle.{iot_machine.specs.Nodes.Counts, iot_machine.specs.Nodes.paired, iot_server_node.specs.Records.GoesOnFrom}
use Rattle.iot_world.specs.Prelude.{AllByRecursion, Bool, Client, Commit, List, Machine, Medium, false, length, map, true, ℕ, []}
pub use Rattle.{std.specs.List.AllZip as Each, iot_node.specs.Disks.CountsOn, iot_node.specs.Disks.IsEmpty, iot_node.specs.Disks.counts_on}
pub use Rattle.iot_server_node.specs.Disks.{other_of, own_of}

-- ten empty disks on which nothing is pending
pub record AreFresh {D : Type 0} (medium : Medium D) (disks : List D) : Type 0 where
  pub ten : length disks ≡ 10
  pub each : AllByRecursion (IsEmpty medium) disks

-- ---- the first and the last

-- these, with one before them and one behind them
abbrev pub with_ends : {A : Type 0} → (first last : A) → List A → List A
with_ends first last others = first ∷ others ++ last ∷ []

-- a list has a first element and, behind others, a last one
pub record HasEnds {A : Type 0} (list : List A) : Type 0 where
  pub first : A
  pub last : A
  pub others : List A
  pub is : list ≡ with_ends first last others

-- where the server's own disk stands among the ten, from 0
abbrev pub place_of : (promoted : Bool) → ℕ
place_of false = 0
place_of true = 9

-- ---- calls in which none was armed

-- the count of faults is what it was, or rose
abbrev pub SameOrRose : (before now : ℕ) → Type 0
SameOrRose before now = (now ≡ before) ⊎ Rose before now

-- a disk after calls in which it was not armed: its count of faults is what it was, or rose
pub record IsUnarmed {D : Type 0} (medium : Medium D) (old new : D) : Type 0 where
  pub arms : medium.arms new ≡ medium.arms old
  pub faults : SameOrRose (medium.faults old) (medium.faults new)

-- the server's two disks likewise: both count together
pub record AreTwoUnarmed {D : Type 0} (medium : Medium D) (first last new_first new_last : D) : Type 0 where
  pub first_arms : medium.arms new_first ≡ medium.arms first
  pub last_arms : medium.arms new_last ≡ medium.arms last
  pub faults : SameOrRose (medium.faults first + medium.faults last) (medium.faults new_first + medium.faults new_last)

-- none of the disks was armed, each at its place
pub record AreUnarmed {D : Type 0} (medium : Medium D) (old new : List D) : Type 0 where
  pub was : HasEnds old
  pub now : HasEnds new
  pub server : AreTwoUnarmed medium was.first was.last now.first now.last
  pub each : Each (IsUnarmed medium) was.others now.others

-- ---- what the disks count

-- what the server has counted that goes on from a disk that has counted the one, and beside which it has a disk that has counted the other:
-- how often both have failed together, and how each was armed
pub record CountsServer (own other : Counts) (m : Machine) : Type 0 where
  pub both : m.server.counts ≡ paired own other
  pub beside : m.beside ≡ other.arms

-- what the machine counts of the disks between the server's two
abbrev pub counts_between : Machine → List Counts
counts_between m = map (λ (client : Client). client.node.counts) m.clients ++ m.spare

-- the first disk, the last and those between them have counted what the machine has
pub record CountOn {D : Type 0} (medium : Medium D) (m : Machine) (first last : D) (others : List D) : Type 0 where
  pub server : CountsServer (counts_on medium (own_of m.promoted first last)) (counts_on medium (other_of m.promoted first last)) m
  pub between : map (counts_on medium) others ≡ counts_between m

-- ---- what the server's disks begin with

-- Each image of the disk begins with these commits: it stands for their state, or for one to which more commits lead from theirs, each of
-- which can follow the ones before it.
pub record DiskBegins {D : Type 0} (medium : Medium D) (commits : List Commit) (disk : D) : Type 0 where
  pub each : (image : List ℕ) → medium.may_leave disk image → GoesOnFrom (state_of commits) image

-- so it is of the last disk, and of the first, unless that was given up
pub record ServerBegins {D : Type 0} (medium : Medium D) (given_up : Bool) (commits : List Commit) (first last : D) : Type 0 where
  pub of_last : DiskBegins medium commits last
  pub of_first : given_up ≡ false → DiskBegins medium commits first
