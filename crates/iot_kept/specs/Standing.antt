-- The state for which bytes on a client's disk stand.
use Rattle.std.specs.Prelude.{◌≡◌, ◌<◌, ◌^◌, ℕ, List, length}
use Rattle.iot_durable.specs.Standing as durable
use Rattle.iot_kept.specs.Rules.{rules}
use Rattle.iot_kept.specs.States.{State}

-- how many records were ever appended to what the bytes encode, modulo 2 ^ 64
abbrev pub records_in : List ℕ → ℕ
records_in bytes = durable.records_in rules bytes

-- the bytes stand for the state
abbrev pub StandFor : List ℕ → State → Type 0
StandFor bytes state = durable.StandFor rules bytes state

-- and so many records were ever appended to them, modulo 2 ^ 64
abbrev pub StandWith : List ℕ → ℕ → State → Type 0
StandWith bytes count state = durable.StandWith rules bytes count state

-- bytes stand for one state at most; a file has fewer than 2 ^ 64
abbrev pub StandsForOne : Type 0
StandsForOne = (bytes : List ℕ) (one other : State) → length bytes < 2 ^ 64 → StandFor bytes one → StandFor bytes other → one ≡ other

-- each image stands for the state, with so many records, modulo 2 ^ 64
abbrev pub EachStands : (images : List ℕ → Type 0) → (count : ℕ) → State → Type 0
EachStands images count state = durable.EachStands rules images count state

-- each image stands for the one state, with so many records, or for the other, with one more
abbrev pub EachStandsEither : (images : List ℕ → Type 0) → (count : ℕ) → (before now : State) → Type 0
EachStandsEither images count before now = durable.EachStandsEither rules images count before now
