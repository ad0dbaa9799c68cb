-- Changes that cut a tree down to paths: those of a refresh, and those of a walk.
use Rattle.std.proofs.Common.{◌≡◌, ℕ, Bool, true, ◌||◌, List, [], ◌∷◌, map, Option, Some, is_some, refl, sym, ap, ◌∙◌}
use Rattle.std.specs.FinMap.{entries, find, get-entries}
use Rattle.std.specs.List.{filter_map}
use Rattle.iot_text.specs.Paths.{path_cmp}
use Rattle.iot_tree.proofs.RowLaws.{entries_rows, root_map}
use Rattle.iot_tree.specs.Snapshots.{wants}
use Rattle.iot_tree.specs.Tree.{IsTree, IsWhole, Path, Row, root_alone}
use Rattle.iot_tree.specs.declared.nodes.Node.TheVariants.{FarDir}
use Rattle.iot_tree.specs.declared.want.Want.{Want}
use Rattle.iot_stamp.specs.Agreement.{IsCutTo, IsPositive, IsRefresh, Knows}
use Rattle.iot_stamp.specs.Refresh.{asked, changed_rows, gone_paths, known_stamp, known_with_stamps}
use Rattle.iot_stamp.specs.Stamps.{Entry, Stamps, nodes_of, nothing_held, stamped_node}
use Rattle.iot_stamp.proofs.AgreementLaws.{agrees_zero}
use Rattle.iot_stamp.proofs.FoundLaws.{never, sent_some}
use Rattle.iot_stamp.proofs.MappedLaws.{entries_of_mapped}

-- a held tree knows paths that it sends alone
knows_sent : (held : Stamps) (k : Path → Bool) → ((p : Path) (n : ℕ) → find path_cmp p (known_with_stamps held) ≡ Some n → k p ≡ true)
    → Knows held k
knows_sent held k among = record {
  all = λ p a n here known. among p n (sent_some p a n (entries held) (sym (get-entries held p) ∙ here) known);
}

-- a refresh brings the tree cut down to what the held tree knows and what is wanted
pub refresh_cut : (held s : Stamps) (want : Want) (rows : List Entry) (gone : List Path) → IsRefresh held s want rows gone
    → IsCutTo held s (asked s (known_with_stamps held) want) rows gone
refresh_cut held s want rows gone is = record {
  tree = is.tree;
  whole = is.whole;
  agrees = is.agrees;
  knows =
      knows_sent held (asked s (known_with_stamps held) want)
      (λ p n sent. ap (λ (o : Option ℕ). is_some o || wants (nodes_of s) want p) sent);
  rows_are = is.rows_are;
  gone_are = is.gone_are;
}

-- who holds nothing sends nothing
pub nothing_sent : known_with_stamps nothing_held ≡ []
nothing_sent =
    ap (filter_map known_stamp)
    (entries_of_mapped (λ p node. stamped_node node 0) (root_alone FarDir)
    ∙ ap (map (λ (row : Row). (row.0, stamped_node row.1 0)))
    (ap entries (sym (root_map FarDir)) ∙ entries_rows (([], FarDir) ∷ []) refl))

-- a walk brings the tree cut down to any paths
pub walk_cut : (s : Stamps) (k : Path → Bool) → IsTree (nodes_of s) → IsWhole (nodes_of s) → IsPositive s
    → IsCutTo nothing_held s k (changed_rows s [] k) (gone_paths s [] k)
walk_cut s k tree whole positive = record {
  tree = tree;
  whole = whole;
  agrees = agrees_zero (root_alone FarDir) s positive;
  knows = knows_sent nothing_held k (λ p n sent. absurd (never n (ap (find path_cmp p) (sym nothing_sent) ∙ sent)));
  rows_are = ap (λ (sent : List (Path × ℕ)). changed_rows s sent k) (sym nothing_sent);
  gone_are = ap (λ (sent : List (Path × ℕ)). gone_paths s sent k) (sym nothing_sent);
}
