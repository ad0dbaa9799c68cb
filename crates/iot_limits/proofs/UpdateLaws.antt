-- An update that has a spelling leaves a tree that has one.
use Rattle.std.proofs.Common.{◌++◌, [], drop, length, Option, Some, None, refl, sym, ◌∙◌, bytes_eq}
use Rattle.std.proofs.lemmas.Bool.{cond_both}
use Rattle.std.proofs.lemmas.Option.{none-some}
use Rattle.std.specs.List.{starts_with}
use Rattle.std.specs.FinMap.{empty, get, get-empty}
use Rattle.iot_text.specs.Paths.{IsPath, path_cmp}
use Rattle.iot_text.proofs.PathsLaws.{IsPath-drop, IsPath-append}
use Rattle.iot_tree.specs.Tree.{Path, Nodes, root_alone}
use Rattle.iot_tree.specs.Updates.{mode_in, with_mode, renamed, updated}
use Rattle.iot_tree.specs.declared.nodes.Mode.{Mode}
use Rattle.iot_tree.specs.declared.nodes.Node.{Node}
use Rattle.iot_tree.specs.declared.nodes.Node.TheVariants.{Dir, File, FarDir, FarFile}
use Rattle.iot_tree.specs.declared.updates.Update.{Update}
use Rattle.iot_tree.specs.declared.updates.Update.TheVariants.{Put, MakeDir, Remove, Move, SetMode}
use Rattle.iot_tree.proofs.EachLaws.{EachNode, each_inserted, each_moded, each_removed, each_moved}
use Rattle.iot_acts.specs.Traces.{after_update}
use Rattle.iot_views.specs.Rules.{IsUpdate, IsOptionalUpdate}
use Rattle.iot_limits.specs.Spelled.{IsSpelledNode, IsSpelledRow, IsSpelledTree}

renamed_is_path : (from to path : Path) → IsPath to → IsPath path → IsPath (renamed from to path)
renamed_is_path from to path to_valid valid =
    cond_both (starts_with bytes_eq path from) (to ++ drop (length from) path) path IsPath
    (λ inside. IsPath-append to (drop (length from) path) to_valid (IsPath-drop (length from) path valid))
    (λ outside. valid)

mode_spelled : (mode : Mode) (node : Node) → IsSpelledNode node → IsSpelledNode (with_mode mode node)
mode_spelled mode Dir is = tt
mode_spelled mode (File bytes old) is = is
mode_spelled mode FarDir is = tt
mode_spelled mode (FarFile old) is = tt

each_updated : (t : Nodes) (update : Update) → IsUpdate update → EachNode IsSpelledRow t → EachNode IsSpelledRow (updated t update)
each_updated t (Put path bytes) is each =
    each_inserted IsSpelledRow t path (File bytes (mode_in (get t path))) each (record { is_path = is.0; is_node = is.1 })
each_updated t (MakeDir path) is each = each_inserted IsSpelledRow t path Dir each (record { is_path = is; is_node = tt })
each_updated t (SetMode path mode) is each =
    each_moded IsSpelledRow mode (λ path node row. record { is_path = row.is_path; is_node = mode_spelled mode node row.is_node })
    t path each
each_updated t (Remove path) is each = each_removed IsSpelledRow t path each
each_updated t (Move from to) is each =
    each_moved IsSpelledRow from to
    (λ path node row. record { is_path = renamed_is_path from to path is.1 row.is_path; is_node = row.is_node })
    t each

pub tree_after : (t : Nodes) (update : Option Update) → IsOptionalUpdate update → IsSpelledTree t → IsSpelledTree (after_update t update)
tree_after t None is tree = tree
tree_after t (Some update) is tree = record { each = each_updated t update is tree.each }

pub root_tree : IsSpelledTree (root_alone Dir)
root_tree = record {
  each =
      each_inserted IsSpelledRow empty [] Dir
      (λ path node is. absurd (none-some node (sym (get-empty path_cmp path) ∙ is)))
      (record { is_path = refl; is_node = tt });
}
