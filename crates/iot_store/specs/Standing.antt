-- The state for which bytes on a server's disk stand.
use Rattle.std.specs.Prelude.{◌≡◌, ◌≤◌, ◌^◌, ℕ, List, length}
use Rattle.iot_backup.specs.Following as pairs
use Rattle.iot_backup.specs.Pairs.{EachPair}
use Rattle.iot_durable.specs.Standing as durable
use Rattle.iot_slots.specs.Decoding.{State as Encoded}
use Rattle.iot_slots.specs.Slots.{appended}
use Rattle.iot_store.specs.Rules.{header, rules}
use Rattle.iot_store.specs.States.{State}
use Rattle.iot_store.specs.declared.commit.Commit.{Commit}

-- how many commits were ever appended to what the bytes encode, modulo 2 ^ 64
abbrev pub records_in : List ℕ → ℕ
records_in bytes = durable.records_in rules bytes

-- the bytes stand for the state
abbrev pub StandFor : List ℕ → State → Type 0
StandFor bytes state = durable.StandFor rules bytes state

-- each image stands for the state, with so many commits, modulo 2 ^ 64
abbrev pub EachStands : (images : List ℕ → Type 0) → (count : ℕ) → State → Type 0
EachStands images count state = durable.EachStands rules images count state

-- each image stands for the one state, with so many commits, or for the other, with one more
abbrev pub EachStandsEither : (images : List ℕ → Type 0) → (count : ℕ) → (before after : State) → Type 0
EachStandsEither images count before after = durable.EachStandsEither rules images count before after

-- what is encoded has the record of this commit last; before it is what was there, or a checkpoint of the state before alone
pub record IsGrown (was : Encoded) (before : State) (commit : Commit) (now : Encoded) : Type 0 where
  pub body : List ℕ
  pub mid : Encoded
  pub next : durable.IsNext rules mid body commit
  pub renews : durable.IsRenewed rules was before mid
  pub is : now ≡ appended mid body

-- each image stands for the state, with so many commits, and encodes what was there, or a checkpoint of the state alone
abbrev pub EachStays : (images : List ℕ → Type 0) → (count : ℕ) → (was : Encoded) → State → Type 0
EachStays images count was state = durable.EachStays rules images count was state

-- ---- two disks

-- the first one has as many commits as the second or one more, and a start from the two can bring the second up
abbrev pub MayFollow : (one other : List ℕ) → Type 0
MayFollow one other = pairs.MayFollow header one other

-- the same of each pair of images
abbrev pub EachFollows : (ones others : List ℕ → Type 0) → Type 0
EachFollows ones others = EachPair (pairs.MayFollow header) ones others

-- the first one stands for the state, and so does the second, or it stands for the state before the first one's last record
abbrev pub StandTogether : (one other : List ℕ) → State → Type 0
StandTogether one other state = durable.StandTogether rules one other state

-- each image of the second disk stands for what that disk stood for, or for what the first does
abbrev pub EachBrings : (images : List ℕ → Type 0) → (one other : List ℕ) → (state was : State) → Type 0
EachBrings images one other state was = durable.EachBrings rules images one other state was

-- what a start from two disks needs of them
pub record MayStart (one other : List ℕ) : Type 0 where
  pub follows : MayFollow one other
  pub together : length one ≤ 2 ^ 62 → (state : State) → StandFor one state → StandTogether one other state

-- the same of each pair of images
abbrev pub EachStarts : (ones others : List ℕ → Type 0) → Type 0
EachStarts ones others = EachPair MayStart ones others
