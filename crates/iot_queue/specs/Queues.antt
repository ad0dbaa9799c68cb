-- The first of the transactions that wait.
use Rattle.std.specs.Prelude.{List, [], ◌∷◌, Option, Some, None}
use Rattle.iot_tree.specs.declared.labels.OnConflict.{OnConflict}
use Rattle.iot_queue.specs.declared.items.Item.{Item}
use Rattle.iot_queue.specs.declared.items.Stage.{Stage}

-- the first transaction, if there is one
abbrev pub head_of : List Item → Option Item
head_of [] = None
head_of (item ∷ items) = Some item

-- the transactions with the first one changed
abbrev pub with_head : (Item → Item) → List Item → List Item
with_head change [] = []
with_head change (item ∷ items) = change item ∷ items

-- a transaction in another stage
abbrev pub staged : Stage → Item → Item
staged stage item = record item { stage = stage }

-- a transaction with another option
abbrev pub optioned : OnConflict → Item → Item
optioned option item = record item { option = option }
