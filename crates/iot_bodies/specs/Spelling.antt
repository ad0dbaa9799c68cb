-- The one spelling of each body of a checkpoint.
use Rattle.std.specs.Prelude.{ℕ, List, [], ◌∷◌, ◌++◌}
use Rattle.iot_tree.specs.Tree.{Nodes}
use Rattle.iot_tree.specs.declared.access.Access.{Access}
use Rattle.iot_tree.specs.declared.acts.Act.{Act}
use Rattle.iot_tree.specs.declared.labels.OnConflict.{OnConflict}
use Rattle.iot_access.specs.Access.{no_access}
use Rattle.iot_codec.specs.Spelling.{number_spelling, name_spelling, option_spelling, access_spelling, acts_spelling, tree_spelling}
use Rattle.iot_codec.specs.Spelling.{label_spelling, list_spelling}
use Rattle.iot_queue.specs.declared.items.Item.{Item}
use Rattle.iot_queue.specs.declared.items.Stage.{Stage}
use Rattle.iot_queue.specs.declared.items.Stage.TheVariants.{Waiting as Waits, Conflict, Manual, Resolved}
use Rattle.iot_changes.specs.Spelling.{resolution_spelling}
use Rattle.iot_bodies.specs.declared.server.ServerBody.{ServerBody}
use Rattle.iot_bodies.specs.declared.client.ClientBody.{ClientBody}
use Rattle.iot_bodies.specs.declared.client.Running.{Running}
use Rattle.iot_bodies.specs.declared.client.Waiting.{Waiting}

-- a server's: its tree, the labels of its commits, and the stamps in the order of the rows
unfoldable pub server_spelling : ServerBody → List ℕ
server_spelling body =
    tree_spelling body.tree ++ (list_spelling label_spelling body.labels ++ list_spelling number_spelling body.stamps)

-- ---- a client's

-- a stage: its tag, and then what was run in the place of a transaction, if that was done, and what this asked
unfoldable pub stage_spelling : Stage → Access → List ℕ
stage_spelling Waits access = 1 ∷ []
stage_spelling Conflict access = 2 ∷ []
stage_spelling Manual access = 3 ∷ []
stage_spelling (Resolved done) access = 4 ∷ (resolution_spelling done ++ access_spelling access)

-- a transaction that waits: its number, its script and its budget, ..
abbrev pub order_spelling : Item → List ℕ
order_spelling item = number_spelling item.tid ++ (name_spelling item.script ++ number_spelling item.budget)

-- .. and what it did, what is done if it conflicts, and its stage
abbrev pub course_spelling : Waiting → List ℕ
course_spelling it = acts_spelling it.item.acts ++ (option_spelling it.item.option ++ stage_spelling it.item.stage it.access)

unfoldable pub waiting_spelling : Waiting → List ℕ
waiting_spelling it = order_spelling it.item ++ course_spelling it

-- one that waits after the first, and so has no access
abbrev pub other_spelling : Item → List ℕ
other_spelling item = waiting_spelling (record { item = item; access = no_access })

-- one that runs: its number, its script and what is done if it conflicts, ..
abbrev pub begun_spelling : ℕ → List ℕ → OnConflict → List ℕ
begun_spelling tid script option = number_spelling tid ++ (name_spelling script ++ option_spelling option)

-- .. and the tree on which it began, and what it did since
abbrev pub done_spelling : Nodes → List Act → List ℕ
done_spelling base acts = tree_spelling base ++ acts_spelling acts

unfoldable pub running_spelling : Running → List ℕ
running_spelling it = begun_spelling it.tid it.script it.option ++ done_spelling it.base it.acts

-- the held tree, the transactions that wait, those that run, and the number of the last one
unfoldable pub client_spelling : ClientBody → List ℕ
client_spelling body =
    tree_spelling body.held
    ++ (list_spelling waiting_spelling body.items ++ (list_spelling running_spelling body.running ++ number_spelling body.last))
