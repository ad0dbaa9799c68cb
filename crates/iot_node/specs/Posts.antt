-- Which node of the machine a node over a keeper stands for.
use Rattle.std.specs.Prelude.{Bool, codes, if◌then◌else◌, ◌++◌, ◌==◌, ◌≡◌, ◌⊎◌}
use Rattle.iot_machine.specs.Texts.{kept_as, lost_as, stopped_line}
use Rattle.iot_node.specs.{Disks.OnlyImage, Disks.counts_on, Keeping.EachIs, Keeping.IsEither, Keeping.Keeping}
use Rattle.iot_node.specs.Prelude.{Between, Call, Doubt, Down, Err, Halt, JournalFault, List, NoMemory}
use Rattle.iot_node.specs.Prelude.{Node, None, Ok, Option, Over, Result, Some, Storing, Up, false, line, next, option_map, true, ℕ}
use Rattle.iot_node.specs.declared.comeback.Comeback.{Comeback, TheVariants.Promote, TheVariants.Restart}
use Rattle.iot_node.specs.declared.post.{Fallen.Fallen, Post.Post}

abbrev pub is_on : {K D : Type 0} → Post K D → Bool
is_on (Up keeper) = true
is_on (Down fallen) = false
is_on Between = false

abbrev pub is_fallen : {K D : Type 0} → Post K D → Bool
is_fallen (Up keeper) = false
is_fallen (Down fallen) = true
is_fallen Between = false

-- its disk, which it has except inside a call that starts or stops it
abbrev pub disk_of : {K D : Type 0} → (K → D) → Post K D → Option D
disk_of disk (Up keeper) = Some (disk keeper)
disk_of disk (Down fallen) = Some fallen.disk
disk_of disk Between = None

-- what it has besides, if it is alive
abbrev pub live_of : {K D L : Type 0} → (K → L) → Post K D → Option L
live_of live (Up keeper) = Some (live keeper)
live_of live (Down fallen) = None
live_of live Between = None

-- what its disk has besides
abbrev pub beside_of : {K D B : Type 0} → (D → B) → (K → D) → Post K D → Option B
beside_of beside disk post = option_map beside (disk_of disk post)

-- never started, on a disk with one image
abbrev pub Ready : {K D I : Type 0} → Storing D I → Post K D → Type 0
Ready medium (Up keeper) = ⊥
Ready medium (Down fallen) = (fallen.doubt ≡ None) × OnlyImage (medium.reads fallen.disk) (medium.may_leave fallen.disk)
Ready medium Between = ⊥

-- what is said of a node of this name that comes back so
abbrev pub words_of : Comeback → (name : List ℕ) → List ℕ
words_of Restart name = codes "restart " ++ name
words_of Promote name = codes "promote"

-- What is said, after these words, of one that is back with so many records, counted modulo 2 ^ 64: the one in doubt is lost if there are
-- as many as before it.
abbrev pub back_said : (words : List ℕ) → Option Doubt → (number : ℕ) → List ℕ
back_said words None number = line words
back_said words (Some doubt) number = if number == doubt.count then lost_as words else kept_as words ++ doubt.lines

-- the call that was answered so went on, or ended its event
abbrev pub Answered : {T : Type 0} → (Bool → Type 0) → Result T JournalFault → Result T Halt → Type 0
Answered step answer (Ok done) = (answer ≡ Ok done) × step true
Answered step answer (Err NoMemory) = Unit {0}
Answered step answer (Err Over) = step false

-- a step by this call from this node, to one for which the new one stands
abbrev pub StepsFrom : {W M A : Type 0} → (W → M → Type 0) → Call M A → M → (new : W) → (x y : List ℕ) → A → Type 0
StepsFrom {M = M} stands call node new x y a = (text : List ℕ) × (n : M) × (y ≡ x ++ text) × call node text a n × stands new n

module _ {K S D I : Type 0} {disks : K → D} (keeping : Keeping K S D I disks) (medium : Storing D I) (says : S → S → List ℕ) where
  pub record UpStands (keeper : K) (node : Node S) : Type 0 where
    pub alive : node.alive ≡ true
    pub sure : node.doubt ≡ None
    pub counts : counts_on medium (disks keeper) ≡ node.counts
    pub count : ℕ
    pub stands : keeping.stands keeper count node.durable

  pub record Sure (images : I → Type 0) (count : ℕ) (node : Node S) : Type 0 where
    pub sure : node.doubt ≡ None
    pub each : EachIs images (λ image. keeping.image image count node.durable)

  pub record InDoubt (images : I → Type 0) (count : ℕ) (doubt : Doubt) (node : Node S) : Type 0 where
    pub after : S
    pub is : node.doubt ≡ Some after
    pub each : EachIs images (λ image. IsEither keeping image count node.durable after)
    pub counted : doubt.count ≡ count
    pub lines : doubt.lines ≡ says node.durable after

  abbrev pub HoldsBy : (images : I → Type 0) → ℕ → Option Doubt → Node S → Type 0
  HoldsBy images count None node = Sure images count node
  HoldsBy images count (Some doubt) node = InDoubt images count doubt node

  pub record DownStands (fallen : Fallen D) (node : Node S) : Type 0 where
    pub alive : node.alive ≡ false
    pub counts : counts_on medium fallen.disk ≡ node.counts
    pub count : ℕ
    pub holds : HoldsBy (medium.may_leave fallen.disk) count fallen.doubt node

  abbrev pub PostStands : Post K D → Node S → Type 0
  PostStands (Up keeper) node = UpStands keeper node
  PostStands (Down fallen) node = DownStands fallen node
  PostStands Between node = ⊥

-- it stands for some node
pub record IsStanding {K S D I : Type 0} {disks : K → D} (keeping : Keeping K S D I disks) (medium : Storing D I) (post : Post K D)
    : Type 0 where
  pub says : S → S → List ℕ
  pub node : Node S
  pub stands : PostStands keeping medium says post node

module _ {K S D I : Type 0} {disks : K → D} (keeping : Keeping K S D I disks) (medium : Storing D I) where
  -- ---- what its disk holds, whatever became of a call

  -- what is durable, or that and the record in doubt, perhaps in its midst
  abbrev pub HoldsEither : (count : ℕ) → (durable : S) → (doubt : Option S) → I → Type 0
  HoldsEither count durable doubt image =
      keeping.image image count durable ⊎ ((after : S) × (doubt ≡ Some after) × keeping.turning image count durable after)

  -- each image of its disk holds that
  pub record Lasts (post : Post K D) (durable : S) (doubt : Option S) : Type 0 where
    pub disk : D
    pub has : disk_of disks post ≡ Some disk
    pub count : ℕ
    pub each : EachIs (medium.may_leave disk) (HoldsEither count durable doubt)

  -- ---- how it came back

  -- from one of the images that its disk might have: that decides whether the record in doubt was kept, and it is said
  pub record CameFrom (fallen : Fallen D) (words x y : List ℕ) (durable : S) (doubt : Option S) : Type 0 where
    pub image : I
    pub left : medium.may_leave fallen.disk image
    pub count : ℕ
    pub said : ((y ≡ x ++ back_said words fallen.doubt count) × keeping.image image count durable)
        ⊎ ((after : S) × (y ≡ x ++ back_said words fallen.doubt (next count)) × (doubt ≡ Some after)
        × keeping.turning image count durable after)

  -- if it was down: so, or it has stopped again, which is said
  abbrev pub CameIf : (on : Bool) → Post K D → Comeback → (name x y : List ℕ) → (durable : S) → (doubt : Option S) → Type 0
  CameIf true (Down fallen) by name x y durable doubt = CameFrom fallen (words_of by name) x y durable doubt
  CameIf false (Down fallen) by name x y durable doubt = y ≡ x ++ stopped_line name
  CameIf on post by name x y durable doubt = Unit {0}
