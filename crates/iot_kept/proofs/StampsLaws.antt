-- If no stamp of a server is known of the held tree, none is known after a change of which the record is all that is known.
use Rattle.std.proofs.Common.{◌≡◌, ℕ, Bool, true, false, cond, List, [], ◌∷◌, Option, Some, None, option_map, refl, sym, ap, ◌∙◌}
use Rattle.std.specs.FinMap.{get}
use Rattle.iot_tree.specs.Snapshots.{is_known}
use Rattle.iot_tree.specs.Tree.{Path, Nodes}
use Rattle.iot_tree.specs.Updates.{updated}
use Rattle.iot_tree.specs.declared.acts.Act.{Act}
use Rattle.iot_tree.specs.declared.nodes.Node.{Node}
use Rattle.iot_tree.specs.declared.updates.Update.{Update}
use Rattle.iot_acts.specs.Traces.{after_update, after_acts}
use Rattle.iot_queue.specs.declared.items.Item.{Item}
use Rattle.iot_queue.specs.declared.items.Stage.{Stage}
use Rattle.iot_stamp.specs.Acting.{stamped_if_any, stamped_acts}
use Rattle.iot_stamp.specs.Stamping.{stamped, stamp_after, touches}
use Rattle.iot_stamp.specs.Stamps.{Stamps, nodes_of, stamp_at, stamp_in, stamped_node, unstamped, with_stamps}
use Rattle.iot_stamp.proofs.StampsLaws.{nodes_with, get_with}
use Rattle.iot_changes.specs.declared.changes.Change.{Change}
use Rattle.iot_changes.specs.declared.changes.Change.TheVariants.{Held, Begun, Fetched, Acted, Ended, Cut, Conflicted, Resolved}
use Rattle.iot_changes.specs.declared.changes.Change.TheVariants.{Repaired, Left, Again}
use Rattle.iot_kept.specs.States.{Transaction, State}
use Rattle.iot_kept.specs.Changes.{cut, left, stage_by, stays_in, conflicted, after}
use Rattle.iot_kept.specs.Stamps.{stamps_left, stamps_staying, stamps_conflicted, restamped}

none_at : (t : Nodes) (p : Path) → stamp_at (unstamped t) p ≡ 0
none_at t p = ap stamp_in (get_with (λ k. 0) t p) ∙ by (get t p)
  where
    either : (known : Bool) → ◌≡◌ {A = ℕ} (cond known 0 0) 0
    either true = refl
    either false = refl

    by : (o : Option Node) → stamp_in (option_map (λ (node : Node). stamped_node node 0) o) ≡ 0
    by None = refl
    by (Some node) = either (is_known node)

zero_stamped : (t : Nodes) (update : Update) → stamped (unstamped t) update 0 ≡ unstamped (updated t update)
zero_stamped t update =
    (λ i. with_stamps (λ k. none_after k i) (updated (nodes_with (λ k. 0) t i) update))
  where
    either : (touched : Bool) (n : ℕ) → n ≡ 0 → cond touched 0 n ≡ 0
    either true n none = refl
    either false n none = none

    none_after : (k : Path) → stamp_after (unstamped t) update 0 k ≡ 0
    none_after k = either (touches (nodes_of (unstamped t)) update k) (stamp_at (unstamped t) k) (none_at t k)

-- if no stamp of a server is known, none is after a change
zero_acts : (t : Nodes) (acts : List Act) → stamped_acts (unstamped t) acts 0 ≡ unstamped (after_acts t acts)
zero_acts t [] = refl
zero_acts t (act ∷ acts) =
    ap (λ (s : Stamps). stamped_acts s acts 0) (zero_update act.update) ∙ zero_acts (after_update t act.update) acts
  where
    zero_update : (update : Option Update) → stamped_if_any (unstamped t) update 0 ≡ unstamped (after_update t update)
    zero_update None = refl
    zero_update (Some update) = zero_stamped t update

pub zero_change : (state : State) (change : Change)
    → restamped state.items (unstamped state.held) change ≡ unstamped (after state change).held
zero_change state (Held tree) = refl
zero_change state (Begun number script option) = refl
zero_change state (Fetched number tree) = refl
zero_change state (Acted number act) = refl
zero_change state (Ended number) = refl
zero_change state (Cut number acts) = by state.running
  where
    by : (running : List Transaction) → unstamped state.held ≡ unstamped (cut acts running state).held
    by [] = refl
    by (it ∷ running) = refl
zero_change state (Again number) = refl
zero_change state Conflicted = by state.items refl
  where
    in_stage : (stage : Option Stage) (item : Item) (items : List Item) → state.items ≡ item ∷ items
        → stamps_staying stage (unstamped state.held) (item ∷ items) ≡ unstamped (stays_in stage state).held
    in_stage (Some stage) item items is = refl
    in_stage None item items is =
        zero_acts state.held item.acts ∙ ap (λ (waiting : List Item). unstamped (left state waiting).held) (sym is)

    by : (items : List Item) → state.items ≡ items → stamps_conflicted (unstamped state.held) items ≡ unstamped
        (conflicted state items).held
    by [] is = refl
    by (item ∷ items) is = in_stage (stage_by item.option) item items is
zero_change state (Resolved done access) = refl
zero_change state (Repaired script) = refl
zero_change state Left = by state.items
  where
    by : (items : List Item) → stamps_left (unstamped state.held) items ≡ unstamped (left state items).held
    by [] = refl
    by (item ∷ items) = zero_acts state.held item.acts
