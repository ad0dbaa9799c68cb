-- What changed in a tree that has a spelling has one.
use Rattle.std.proofs.Common.{Bool, true, false, cond, ◌&&◌, ◌≡◌, ℕ, IsTrue, List, [], ◌∷◌, Some, None, sym, subst}
use Rattle.std.specs.FinMap.{entries, is_sorted}
use Rattle.std.specs.List.{filter_map, cons_option, AllByRecursion}
use Rattle.iot_text.specs.Paths.{IsPath, path_cmp}
use Rattle.iot_codec.specs.Laws.Sorted.{rising_table}
use Rattle.iot_views.specs.Rules.{IsNode, IsStampedNode, AreChanges}
use Rattle.iot_limits.specs.Spelled.{IsSpelledNode, IsSpelledRow, IsSpelledTree}
use Rattle.iot_stamp.proofs.SendingLaws.{sent_rows}
use Rattle.iot_stamp.specs.Passes.{sending}
use Rattle.iot_stamp.specs.Refresh.{changed_rows, changes_on, is_new, IsStampedRow}
use Rattle.iot_stamp.specs.Stamps.{Entry, Stamps, nodes_of}
use Rattle.iot_tree.specs.Snapshots.{seen, is_reached, ArePathsRising}
use Rattle.iot_tree.specs.Tree.{Path, Row}
use Rattle.iot_tree.specs.declared.changes.Changes.{Changes}
use Rattle.iot_tree.specs.declared.nodes.Node.{Node}
use Rattle.iot_tree.specs.declared.nodes.Node.TheVariants.{Dir, File, FarDir, FarFile}
use Rattle.iot_tree.proofs.EachLaws.{each_entry}

-- a node that is sent has a spelling
seen_node : (inside : Bool) (node : Node) → IsSpelledNode node → IsNode (seen inside node)
seen_node true Dir is = tt
seen_node true (File bytes mode) is = is
seen_node true FarDir is = tt
seen_node true (FarFile mode) is = tt
seen_node false Dir is = tt
seen_node false (File bytes mode) is = tt
seen_node false FarDir is = tt
seen_node false (FarFile mode) is = tt

abbrev HasNode : Entry → Type 0
HasNode row = IsNode row.1.0

abbrev HaveNodes : List Entry → Type 0
HaveNodes rows = AllByRecursion HasNode rows

put_node : (sends : Bool) (row : Entry) (rows : List Entry) → HasNode row → HaveNodes rows
    → HaveNodes (cons_option (cond sends (Some row) None) rows)
put_node true row rows is are = (is, are)
put_node false row rows is are = are

sent_nodes : (s : Stamps) (sent : List (Path × ℕ)) (k : Path → Bool) (rows : List Row)
    → AllByRecursion (λ (row : Row). IsSpelledRow row.0 row.1) rows → HaveNodes (filter_map (sending s sent k) rows)
sent_nodes s sent k [] are = tt
sent_nodes s sent k (row ∷ rows) are =
    put_node (is_reached k row.0 && is_new s sent k row.0) _ (filter_map (sending s sent k) rows)
    (seen_node (k row.0) row.1 are.0.is_node) (sent_nodes s sent k rows are.1)

-- so have the nodes of all rows that are sent
changed_nodes : (s : Stamps) (sent : List (Path × ℕ)) (k : Path → Bool) → IsSpelledTree (nodes_of s)
    → HaveNodes (changed_rows s sent k)
changed_nodes s sent k tree =
    subst HaveNodes (sent_rows s sent k)
    (sent_nodes s sent k (entries (nodes_of s)) (each_entry IsSpelledRow (nodes_of s) tree.each))

rows_each : (rows : List Entry) → AllByRecursion IsStampedRow rows → HaveNodes rows
    → AllByRecursion (λ (row : Entry). IsPath row.0 × IsStampedNode row.1) rows
rows_each [] stamped nodes = tt
rows_each (row ∷ rows) stamped nodes = ((stamped.0.0, (nodes.0, stamped.0.1)), rows_each rows stamped.1 nodes.1)

pub changes_spelled : (s : Stamps) (sent : List (Path × ℕ)) (k : Path → Bool) (changes : Changes) → IsSpelledTree (nodes_of s)
    → changes ≡ changes_on s sent k → IsTrue (is_sorted path_cmp changes.rows) × ArePathsRising changes.gone
    → AllByRecursion IsStampedRow changes.rows × AllByRecursion IsPath changes.gone → AreChanges changes
changes_spelled s sent k changes tree is rising each =
    let nodes : HaveNodes changes.rows =
    subst (λ (c : Changes). HaveNodes c.rows) (sym is) (changed_nodes s sent k tree) in
    record {
      rows = record { rising = rising_table changes.rows rising.0; each = rows_each changes.rows each.0 nodes };
      gone = record { rising = rising.1; each = each.1 };
    }
