-- Trees that are cut down, and trees after runs, have spellings.
use Rattle.std.proofs.Common.{◌≡◌, ℕ, Bool, true, false, cond, [], Option, Some, None, option_map, refl, sym, subst, ◌∙◌}
use Rattle.std.proofs.lemmas.Option.{same_Some, none-some}
use Rattle.std.specs.FinMap.{get, empty, get-empty}
use Rattle.iot_text.specs.Paths.{path_cmp}
use Rattle.iot_tree.specs.Tree.{Path, Nodes, root_alone}
use Rattle.iot_tree.specs.Snapshots.{seen, is_reached, prune}
use Rattle.iot_tree.specs.declared.nodes.Node.{Node}
use Rattle.iot_tree.specs.declared.nodes.Node.TheVariants.{Dir, File, FarDir, FarFile}
use Rattle.iot_tree.proofs.EachLaws.{each_inserted}
use Rattle.iot_tree.proofs.PruneLaws.{get_pruned}
use Rattle.iot_lang.specs.Code.{Code}
use Rattle.iot_lang.specs.Scripts.{IsScript}
use Rattle.iot_exec.specs.Runs.{run}
use Rattle.iot_limits.specs.Spelled.{IsSpelledNode, IsSpelledRow, IsSpelledTree}
use Rattle.iot_limits.proofs.SpelledLaws.{run_is_spelled, no_files_are_spelled}

-- ---- trees that are cut down

seen_spelled : (inside : Bool) (node : Node) → IsSpelledNode node → IsSpelledNode (seen inside node)
seen_spelled true node is = is
seen_spelled false Dir is = tt
seen_spelled false (File bytes mode) is = tt
seen_spelled false FarDir is = tt
seen_spelled false (FarFile mode) is = tt

left_spelled : (path : Path) (reached inside : Bool) (o : Option Node) → ((node : Node) → o ≡ Some node → IsSpelledRow path node)
    → (node : Node) → cond reached (option_map (seen inside) o) None ≡ Some node → IsSpelledRow path node
left_spelled path false inside o each node is = absurd (none-some node is)
left_spelled path true inside None each node is = absurd (none-some node is)
left_spelled path true inside (Some old) each node is =
    let row : IsSpelledRow path old = each old refl in
    subst (IsSpelledRow path) (same_Some _ _ is) (record { is_path = row.is_path; is_node = seen_spelled inside old row.is_node })

pub pruned_spelled : (s : Nodes) (k : Path → Bool) → IsSpelledTree s → IsSpelledTree (prune s k)
pruned_spelled s k tree = record {
  each = λ path node is. left_spelled path (is_reached k path) (k path) (get s path) (tree.each path) node
      (sym (get_pruned s k path) ∙ is);
}

-- ---- a root alone

module _ (node : Node) (is : IsSpelledNode node) where
  pub root_spelled : IsSpelledTree (root_alone node)
  root_spelled = record {
    each = each_inserted IsSpelledRow empty [] node (λ path node is. absurd (none-some node (sym (get-empty path_cmp path) ∙ is)))
        (record { is_path = refl; is_node = is });
  }

-- what a new client holds
pub far_root_spelled : IsSpelledTree (root_alone FarDir)
far_root_spelled = root_spelled FarDir tt

-- ---- after a run

pub run_spelled : (code : Code) (t : Nodes) (n : ℕ) → IsScript code → IsSpelledTree t → IsSpelledTree (run code empty t n).tree
run_spelled code t n is tree = (run_is_spelled code empty t n is no_files_are_spelled tree).tree
