-- What the server's disk keeps: a tree with its stamps, and the labels of the commits that made it.
use Rattle.std.specs.Prelude.{◌≡◌, ℕ, ◌==◌, ◌&&◌, Bool, false, List, [], ◌∷◌, ◌++◌, length, refl}
use Rattle.std.specs.List.{list_any}
use Rattle.std.specs.Coded.{Coded, code_by, coded×, coded_list}
use Rattle.iot_tree.specs.Tree.{Nodes, root_alone}
use Rattle.iot_tree.specs.declared.nodes.Node.TheVariants.{Dir}
use Rattle.iot_tree.specs.declared.access.Access.{Access}
use Rattle.iot_tree.specs.declared.labels.Label.{Label}
use Rattle.iot_tree.specs.contracts.labels.Label as label_model
use Rattle.iot_tree.specs.contracts.tree.Tree as tree_model
use Rattle.iot_access.specs.Access.{FitInTurn, after_updates}
use Rattle.iot_acts.specs.Traces.{ReadsHold}
use Rattle.iot_stamp.specs.Stamps.{Stamps}
use Rattle.iot_stamp.specs.contracts.stamped.Stamped as stamped_model
use Rattle.iot_store.specs.Stamps.{opening_stamps, next_stamp, stamped_all}

pub record State : Type 0 where
  pub tree : Nodes
  pub labels : List Label
  pub stamps : Stamps

-- its code, by which a proof tells states apart
abbrev pub state_code : Coded State
state_code =
    code_by (Nodes × (List Label × Stamps))
    (coded× (tree_model.the_row).coded (coded× (coded_list (label_model.the_row).coded) (stamped_model.the_row).coded))
    (λ s. (s.tree, (s.labels, s.stamps))) (λ p. record { tree = p.0; labels = p.1.0; stamps = p.1.1 }) (λ _. refl)

-- before the first commit
abbrev pub opening : State
opening = record { tree = root_alone Dir; labels = []; stamps = opening_stamps }

-- whether the label is that of this client's transaction
abbrev pub is_of : ℕ → ℕ → Label → Bool
is_of client tid label = label.client == client && label.tid == tid

-- the commit can follow: its transaction is not among the labels, each base read holds on the tree, and the updates fit in turn
pub record CanFollow (state : State) (label : Label) (access : Access) : Type 0 where
  pub is_new : list_any (is_of label.client label.tid) state.labels ≡ false
  pub holds : ReadsHold state.tree access.reads
  pub fit : FitInTurn state.tree access.updates

-- the state after it
abbrev pub after_commit : State → Label → Access → State
after_commit state label access = record {
  tree = after_updates state.tree access.updates;
  labels = state.labels ++ label ∷ [];
  stamps = stamped_all state.stamps access.updates (next_stamp (length state.labels));
}
