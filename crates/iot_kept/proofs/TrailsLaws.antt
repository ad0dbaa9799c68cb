-- What a held tree has of a server's stamps after a change of what is kept.
use Rattle.std.proofs.Common.{List, [], ◌∷◌, Option, Some, None, sym, subst}
use Rattle.iot_stamp.specs.Stamps.{Stamps, nodes_of}
use Rattle.iot_stamp.proofs.ActingLaws.{holds_fit}
use Rattle.iot_queue.specs.declared.items.Item.{Item}
use Rattle.iot_queue.specs.declared.items.Stage.{Stage}
use Rattle.iot_changes.specs.declared.changes.Change.{Change}
use Rattle.iot_changes.specs.declared.changes.Change.TheVariants.{Held, Begun, Fetched, Acted, Ended, Cut, Conflicted, Resolved, Repaired}
use Rattle.iot_changes.specs.declared.changes.Change.TheVariants.{Left, Again}
use Rattle.iot_kept.specs.Changes.{stage_by}
use Rattle.iot_kept.specs.Stamps.{StampsBy, stamps_left, stamps_staying, stamps_conflicted}
use Rattle.iot_kept.specs.States.{EachHold}
use Rattle.iot_stamp.specs.Trails.{KeepsTrail}
use Rattle.iot_stamp.proofs.TrailsLaws.{own_acts, same_stamps}

head_leaves : (items : List Item) (held : Stamps) → EachHold (nodes_of held) items → KeepsTrail held (stamps_left held items)
head_leaves [] held hold = λ server bound positive it. it
head_leaves (item ∷ items) held hold = own_acts held item.acts (holds_fit (nodes_of held) item.acts hold.0)

-- a change that brings no tree
abbrev pub IsOwn : Change → Type 0
IsOwn (Held tree) = ⊥
IsOwn (Fetched number tree) = ⊥
IsOwn other = Unit {0}

pub own_change : (change : Change) (items : List Item) (old new : Stamps) → IsOwn change → EachHold (nodes_of old) items
    → StampsBy change items old new → KeepsTrail old new
own_change (Held tree) items old new own hold is = absurd own
own_change (Begun number script option) items old new own hold is = same_stamps old new is
own_change (Fetched number tree) items old new own hold is = absurd own
own_change (Acted number act) items old new own hold is = same_stamps old new is
own_change (Ended number) items old new own hold is = same_stamps old new is
own_change (Cut number acts) items old new own hold is = same_stamps old new is
own_change (Again number) items old new own hold is = same_stamps old new is
own_change Conflicted items old new own hold is = subst (KeepsTrail old) (sym is) (by items hold)
  where
    in_stage : (stage : Option Stage) (items : List Item) → EachHold (nodes_of old) items → KeepsTrail old (stamps_staying stage old items)
    in_stage (Some stage) items hold = λ server bound positive it. it
    in_stage None items hold = head_leaves items old hold

    by : (items : List Item) → EachHold (nodes_of old) items → KeepsTrail old (stamps_conflicted old items)
    by [] hold = λ server bound positive it. it
    by (item ∷ items) hold = in_stage (stage_by item.option) (item ∷ items) hold
own_change (Resolved ran access) items old new own hold is = same_stamps old new is
own_change (Repaired script) items old new own hold is = same_stamps old new is
own_change Left items old new own hold is = subst (KeepsTrail old) (sym is) (head_leaves items old hold)
