-- The whole of what a server keeps, as the body of a checkpoint.
use Rattle.std.specs.Prelude.{◌≡◌, ◌<◌, ◌+◌, ◌^◌, ℕ, false, List, ◌∷◌, ◌++◌, length, map}
use Rattle.std.specs.FinMap.{entries}
use Rattle.std.specs.List.{AllByRecursion, list_any}
use Rattle.iot_tree.specs.Tree.{IsWhole}
use Rattle.iot_tree.specs.declared.labels.Label.{Label}
use Rattle.iot_views.specs.Rules.{IsLabel, IsTreeOfRows}
use Rattle.iot_stamp.specs.Agreement.{IsPositive, UpTo}
use Rattle.iot_stamp.specs.Stamps.{Entry, Stamps, nodes_of}
use Rattle.iot_slots.specs.declared.version.Version.{Version}
use Rattle.iot_bodies.specs.declared.server.ServerBody.{ServerBody}
use Rattle.iot_versions.specs.Versions.{SpellsServer}
use Rattle.iot_store.specs.States.{State, is_of}

-- the stamps in the order of the rows
abbrev pub stamps_in_order : Stamps → List ℕ
stamps_in_order t = map (λ (e : Entry). e.1.1) (entries t)

-- no transaction has two labels
abbrev pub AreApart : List Label → Type 0
AreApart labels =
    (front : List Label) (label : Label) (later : List Label) → labels ≡ front ++ label ∷ later
    → list_any (is_of label.client label.tid) front ≡ false

-- A state that a server may have: its tree is whole and has a spelling, and so have the labels, no two of which are of one transaction.
-- Each row of the tree has a stamp, from 1 to the number of labels plus 1.
pub record IsState (state : State) : Type 0 where
  pub tree : IsTreeOfRows state.tree
  pub whole : IsWhole state.tree
  pub labels : AllByRecursion IsLabel state.labels
  pub apart : AreApart state.labels
  pub few : length state.labels + 1 < 2 ^ 64
  pub nodes : nodes_of state.stamps ≡ state.tree
  pub positive : IsPositive state.stamps
  pub within : UpTo state.stamps (length state.labels + 1)

-- its parts as they are spelled
abbrev pub body_of : State → ServerBody
body_of state = record { tree = state.tree; labels = state.labels; stamps = stamps_in_order state.stamps }

-- the body spells the whole of this state, in this version
pub record IsBody (version : Version) (body : List ℕ) (state : State) : Type 0 where
  pub value : IsState state
  pub spelled : SpellsServer version body (body_of state)
