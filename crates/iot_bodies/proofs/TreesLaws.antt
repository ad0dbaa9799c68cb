-- Trees whose rows have spellings, and updates of them.
use Rattle.std.proofs.Common.{List, [], ◌∷◌, ◌++◌, length, drop, IsTrue, bytes_eq, refl, sym, ◌∙◌, subst}
use Rattle.std.proofs.lemmas.Bool.{cond_both}
use Rattle.std.proofs.lemmas.Option.{none-some}
use Rattle.std.specs.List.{starts_with}
use Rattle.std.specs.FinMap.{empty, entries, get, get-empty, get-entries}
use Rattle.iot_text.specs.Paths.{IsPath, path_cmp}
use Rattle.iot_text.proofs.PathsLaws.{IsPath-drop, IsPath-append}
use Rattle.iot_tree.specs.Questions.{is_dir}
use Rattle.iot_tree.specs.Tree.{Path, Nodes, IsTree, root_alone}
use Rattle.iot_tree.specs.Updates.{Fits, mode_in, with_mode, renamed, updated}
use Rattle.iot_tree.specs.declared.nodes.Mode.{Mode}
use Rattle.iot_tree.specs.declared.nodes.Node.{Node}
use Rattle.iot_tree.specs.declared.nodes.Node.TheVariants.{Dir, File, FarDir, FarFile}
use Rattle.iot_tree.specs.declared.updates.Update.{Update}
use Rattle.iot_tree.specs.declared.updates.Update.TheVariants.{Put, MakeDir, Remove, Move, SetMode}
use Rattle.iot_tree.proofs.EachLaws.{EachNode, found_row, each_entry, each_inserted, each_moded, each_removed, each_moved}
use Rattle.iot_tree.proofs.RowLaws.{root_rows, root_map}
use Rattle.iot_tree.proofs.UpdateLaws.{tree_updated}
use Rattle.iot_access.specs.Access.{FitInTurn, after_updates}
use Rattle.iot_views.specs.Rules.{AreUpdates, IsNode, IsRow, IsTreeOfRows, IsUpdate}

abbrev IsRowAt : Path → Node → Type 0
IsRowAt path node = IsRow (path, node)

renamed_is_path : (from to path : Path) → IsPath to → IsPath path → IsPath (renamed from to path)
renamed_is_path from to path to_valid valid =
    cond_both (starts_with bytes_eq path from) (to ++ drop (length from) path) path IsPath
    (λ inside. IsPath-append to (drop (length from) path) to_valid (IsPath-drop (length from) path valid))
    (λ outside. valid)

mode_is_node : (mode : Mode) (node : Node) → IsNode node → IsNode (with_mode mode node)
mode_is_node mode Dir is = tt
mode_is_node mode (File bytes old) is = is
mode_is_node mode FarDir is = tt
mode_is_node mode (FarFile old) is = tt

each_updated : (t : Nodes) (update : Update) → IsUpdate update → EachNode IsRowAt t → EachNode IsRowAt (updated t update)
each_updated t (Put path bytes) is each = each_inserted IsRowAt t path (File bytes (mode_in (get t path))) each (is.0, is.1)
each_updated t (MakeDir path) is each = each_inserted IsRowAt t path Dir each (is, tt)
each_updated t (SetMode path mode) is each =
    each_moded IsRowAt mode (λ path node row. (row.0, mode_is_node mode node row.1)) t path each
each_updated t (Remove path) is each = each_removed IsRowAt t path each
each_updated t (Move from to) is each =
    each_moved IsRowAt from to (λ path node row. (renamed_is_path from to path is.1 row.0, row.1)) t each

-- after an update that has a spelling and fits
pub rows_updated : (t : Nodes) (update : Update) → IsUpdate update → Fits t update → IsTreeOfRows t → IsTreeOfRows (updated t update)
rows_updated t update is fits rows =
    let each : EachNode IsRowAt t = λ path node has. found_row IsRowAt (entries t) rows.each path node (sym (get-entries t path) ∙ has) in
    record {
      tree = tree_updated t update rows.tree fits;
      each = each_entry IsRowAt (updated t update) (each_updated t update is each);
    }

-- after updates that have spellings and fit in turn
pub rows_after : (t : Nodes) (updates : List Update) → AreUpdates updates → FitInTurn t updates → IsTreeOfRows t
    → IsTreeOfRows (after_updates t updates)
rows_after t [] are fit rows = rows
rows_after t (update ∷ updates) are fit rows =
    rows_after (updated t update) updates are.1 fit.1 (rows_updated t update are.0 fit.0 rows)

-- a root alone, known or not
pub root_of_rows : (node : Node) → IsTrue (is_dir node) → IsNode node → IsTreeOfRows (root_alone node)
root_of_rows node dir is =
    let none : EachNode IsRowAt empty = λ path node has. absurd (none-some node (sym (get-empty path_cmp path) ∙ has)) in
    record {
      tree = subst IsTree (root_map node) (root_rows node dir).tree;
      each = each_entry IsRowAt (root_alone node) (each_inserted IsRowAt empty [] node none (refl, is));
    }
