-- What nodes hold has no float.
use Rattle.std.proofs.Common.{◌≡◌, ℕ, ◌+◌, ◌||◌, Bool, true, false, List, [], ◌∷◌, ◌++◌, map, Option, Some, None, refl, ap, ◌∙◌}
use Rattle.std.proofs.lemmas.List.{map-append}
use Rattle.serde_json.specs.declared.value.Value.{Value}
use Rattle.std.specs.FinMap.{entries}
use Rattle.serde_json.specs.Data.{Data, Items}
use Rattle.serde_json.specs.View.{view, items_of}
use Rattle.serde_json.specs.Written.{has_float, items_have_float}
use Rattle.iot_tree.specs.Tree.{Nodes}
use Rattle.iot_tree.specs.declared.nodes.Mode.TheVariants.{Off, On}
use Rattle.iot_tree.specs.declared.nodes.Node.{Node}
use Rattle.iot_tree.specs.declared.nodes.Node.TheVariants.{Dir, File, FarDir, FarFile}
use Rattle.iot_tree.specs.declared.labels.Label.{Label}
use Rattle.iot_queue.specs.declared.items.Item.{Item}
use Rattle.iot_inspect.specs.Values.{row_data, tree_data, queue_data, live_data, down_data, commits_from, commits_data, server_data}
use Rattle.iot_inspect.specs.Values.{whole_data, IsPlain}

-- neither has one
neither : (a b : Bool) → a ≡ false → b ≡ false → (a || b) ≡ false
neither a b first second = rw first second

row_plain : (path : List (List ℕ)) (node : Node) → has_float (row_data path node) ≡ false
row_plain path Dir = refl
row_plain path (File contents Off) = refl
row_plain path (File contents On) = refl
row_plain path FarDir = refl
row_plain path (FarFile Off) = refl
row_plain path (FarFile On) = refl

rows_plain : (rows : List (List (List ℕ) × Node)) → items_have_float (items_of (map (λ row. row_data row.0 row.1) rows)) ≡ false
rows_plain [] = refl
rows_plain (row ∷ rows) = neither _ _ (row_plain row.0 row.1) (rows_plain rows)

tree_plain : (tree : Nodes) → has_float (tree_data tree) ≡ false
tree_plain tree = rows_plain (entries tree)

queue_plain : (client : List ℕ) (items : List Item) → has_float (queue_data client items) ≡ false
queue_plain client [] = refl
queue_plain client (item ∷ items) = queue_plain client items

pub live_plain : (name : List ℕ) (items : List Item) (tree : Nodes) → has_float (live_data name items tree) ≡ false
live_plain name items tree = neither _ _ (queue_plain name items) (neither _ _ (tree_plain tree) refl)

commits_plain : (names : List (List ℕ)) (place : ℕ) (labels : List Label)
    → items_have_float (items_of (commits_from names place labels)) ≡ false
commits_plain names place [] = refl
commits_plain names place (label ∷ labels) = commits_plain names (place + 1) labels

committed_plain : (names : List (List ℕ)) (labels : List Label) (server : Option Nodes)
    → has_float (commits_data names labels server) ≡ false
committed_plain names labels None = refl
committed_plain names labels (Some tree) = commits_plain names 1 labels

server_plain : (server : Option Nodes) → has_float (server_data server) ≡ false
server_plain None = refl
server_plain (Some tree) = tree_plain tree

pub whole_plain : (clients : Items) (names : List (List ℕ)) (labels : List Label) (server : Option Nodes) → items_have_float clients ≡ false
    → has_float (whole_data clients names labels server) ≡ false
whole_plain clients names labels server plain =
    neither _ _ plain (neither _ _ (committed_plain names labels server) (neither _ _ (server_plain server) refl))

-- one more without a float
pub more_plain : (some : List Data) (next : Data) → items_have_float (items_of some) ≡ false → has_float next ≡ false
    → items_have_float (items_of (some ++ next ∷ [])) ≡ false
more_plain [] next plain last = neither _ _ last refl
more_plain (d ∷ ds) next plain last =
    by_first (has_float d) refl plain
    (λ (h : items_have_float (items_of ds) ≡ false). more_plain ds next h last)
  where
    by_first : (first : Bool) → has_float d ≡ first → (first || items_have_float (items_of ds)) ≡ false
        → (items_have_float (items_of ds) ≡ false → items_have_float (items_of (ds ++ next ∷ [])) ≡ false)
        → (has_float d || items_have_float (items_of (ds ++ next ∷ []))) ≡ false
    by_first true is plain more = absurd cc
    by_first false is plain more = neither _ _ is (more plain)

pub pushed_plain : (old new : List Value) (value : Value) → new ≡ old ++ value ∷ [] → IsPlain old → has_float (view value) ≡ false
    → IsPlain new
pushed_plain old new value is plain last =
    ap (λ (vs : List Value). items_have_float (items_of (map view vs))) is
    ∙ ap (λ (ds : List Data). items_have_float (items_of ds)) (map-append view old (value ∷ []))
    ∙ more_plain (map view old) (view value) plain last
