-- What nodes hold, as JSON.
use Rattle.std.specs.Prelude.{ℕ, ◌≡◌, ◌+◌, true, false, List, [], ◌∷◌}
use Rattle.std.specs.Prelude.{length, map, codes, slice_index_or, encode_utf8_all, Option, Some, None}
use Rattle.std.specs.FinMap.{entries}
use Rattle.serde_json.specs.Data.{Data, null, boolean, number, string, array, object, unsigned, Items, item, no_items, member, no_members}
use Rattle.serde_json.specs.View.{items_of, items_view}
use Rattle.serde_json.specs.Written.{items_have_float}
use Rattle.serde_json.specs.declared.value.Value.{Value}
use Rattle.iot_text.specs.Paths.{path_text}
use Rattle.iot_tree.specs.Tree.{Nodes}
use Rattle.iot_tree.specs.declared.nodes.Mode.{Mode}
use Rattle.iot_tree.specs.declared.nodes.Mode.TheVariants.{Off, On}
use Rattle.iot_tree.specs.declared.nodes.Node.{Node}
use Rattle.iot_tree.specs.declared.nodes.Node.TheVariants.{Dir, File, FarDir, FarFile}
use Rattle.iot_tree.specs.declared.labels.Label.{Label}
use Rattle.iot_queue.specs.declared.items.Item.{Item}
use Rattle.iot_inspect.specs.Texts.{transaction_name, option_text, stage_text, way_text}

-- a text: each byte as the character of that number
abbrev pub text_data : List ℕ → Data
text_data bytes = string (encode_utf8_all bytes)

-- a path with a word
abbrev pub pair_data : List (List ℕ) → List ℕ → Data
pair_data path word = array (item (text_data (path_text path)) (item (string word) no_items))

-- the last word of the row of a file, if its mode is on
abbrev pub mode_items : Mode → Items
mode_items Off = no_items
mode_items On = item (string (codes "x")) no_items

-- a file with its contents and its mode
abbrev pub file_data : List (List ℕ) → List ℕ → Mode → Data
file_data path contents mode =
    array (item (text_data (path_text path)) (item (string (codes "file")) (item (text_data contents) (mode_items mode))))

-- a file whose contents are not known, with its mode
abbrev pub far_file_data : List (List ℕ) → Mode → Data
far_file_data path mode = array (item (text_data (path_text path)) (item (string (codes "far file")) (mode_items mode)))

-- a row of a tree
abbrev pub row_data : List (List ℕ) → Node → Data
row_data path Dir = pair_data path (codes "dir")
row_data path (File contents mode) = file_data path contents mode
row_data path FarDir = pair_data path (codes "far dir")
row_data path (FarFile mode) = far_file_data path mode

-- all rows in order of their paths
abbrev pub tree_data : Nodes → Data
tree_data tree = array (items_of (map (λ row. row_data row.0 row.1) (entries tree)))

-- a transaction that waits
abbrev pub item_data : List ℕ → Item → Data
item_data client waiting = object (
    member (codes "acts") (number (unsigned (length waiting.acts))) (
    member (codes "option") (text_data (option_text waiting.option)) (
    member (codes "script") (text_data waiting.script) (
    member (codes "stage") (text_data (stage_text waiting.stage)) (
    member (codes "tid") (text_data (transaction_name client waiting.tid)) no_members))))
    )

-- the transactions that wait, in their order
abbrev pub queue_data : List ℕ → List Item → Data
queue_data client items = array (items_of (map (item_data client) items))

-- a client that is alive
abbrev pub live_data : List ℕ → List Item → Nodes → Data
live_data name items tree = object (
    member (codes "alive") (boolean true) (
    member (codes "name") (text_data name) (
    member (codes "queue") (queue_data name items) (
    member (codes "view") (tree_data tree) no_members)))
    )

-- a client that is down
abbrev pub down_data : List ℕ → Data
down_data name = object (
    member (codes "alive") (boolean false) (
    member (codes "name") (text_data name) (
    member (codes "queue") (array no_items) (
    member (codes "view") null no_members)))
    )

-- the commit of this number
abbrev pub commit_data : List (List ℕ) → ℕ → Label → Data
commit_data names place label = object (
    member (codes "number") (number (unsigned place)) (
    member (codes "script") (text_data label.script) (
    member (codes "tid") (text_data (transaction_name (slice_index_or names label.client []) label.tid)) (
    member (codes "way") (text_data (way_text label.way)) no_members)))
    )

-- commits, of which the first has this number
abbrev pub commits_from : List (List ℕ) → ℕ → List Label → List Data
commits_from names place [] = []
commits_from names place (label ∷ labels) = commit_data names place label ∷ commits_from names (place + 1) labels

-- the commits, if the server is alive
abbrev pub commits_data : List (List ℕ) → List Label → Option Nodes → Data
commits_data names labels None = array no_items
commits_data names labels (Some tree) = array (items_of (commits_from names 1 labels))

-- the server's tree, if it is alive
abbrev pub server_data : Option Nodes → Data
server_data None = null
server_data (Some tree) = tree_data tree

-- all nodes: the clients, the commits and the server
abbrev pub whole_data : Items → List (List ℕ) → List Label → Option Nodes → Data
whole_data clients names labels server = object (
    member (codes "clients") (array clients) (
    member (codes "commits") (commits_data names labels server) (
    member (codes "server") (server_data server) no_members))
    )

-- these values hold no float, so their text is known byte for byte
abbrev pub IsPlain : List Value → Type 0
IsPlain values = items_have_float (items_view values) ≡ false
