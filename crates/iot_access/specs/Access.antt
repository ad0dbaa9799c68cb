-- When base reads and updates may take the place of acts.
use Rattle.std.specs.Prelude.{◌≡◌, ◌↔◌, ◌⊎◌, ◌<◌, ◌≤◌, ◌^◌, ℕ, suc, List, [], ◌∷◌, ◌++◌, map, Option, Some, None}
use Rattle.std.specs.List.{AllByRecursion, zip}
use Rattle.iot_tree.specs.Tree.{Nodes, IsTree, IsWhole}
use Rattle.iot_tree.specs.Updates.{Fits, updated}
use Rattle.iot_tree.specs.declared.updates.Update.{Update}
use Rattle.iot_tree.specs.declared.access.Access.{Access}
use Rattle.iot_tree.specs.declared.acts.Act.{Act}
use Rattle.iot_tree.specs.declared.acts.Read.{Read}
use Rattle.iot_acts.specs.Traces.{ReadsHold, ActsHold, after_acts}
use Rattle.iot_acts.specs.Turns.{Answers, FirstDiffers, turns}
use Rattle.iot_access.specs.Asked.{first_asked, none_asked}
use Rattle.iot_access.specs.BaseReads.{Base, based}

-- an update before others, if there is one
abbrev pub cons_update : Option Update → List Update → List Update
cons_update None updates = updates
cons_update (Some update) updates = update ∷ updates

-- the updates of acts, in turn
abbrev pub updates_of : List Act → List Update
updates_of [] = []
updates_of (act ∷ acts) = cons_update act.update (updates_of acts)

-- the lines of acts, in turn
abbrev pub lines_of : List Act → List (List ℕ)
lines_of [] = []
lines_of (act ∷ acts) = act.lines ++ lines_of acts

-- the access of acts that ran on this tree: their base reads, each question once, with their places, and their updates
abbrev pub access_of : List Act → Nodes → Access
access_of acts before = record {
  reads = map (λ base. base.1) (first_asked none_asked (based acts before [] 1));
  updates = updates_of acts;
  places = map (λ base. base.0) (first_asked none_asked (based acts before [] 1));
}

-- the access of nothing
abbrev pub no_access : Access
no_access = record { reads = []; updates = []; places = [] }

-- the tree after these updates
abbrev pub after_updates : Nodes → List Update → Nodes
after_updates t [] = t
after_updates t (update ∷ updates) = after_updates (updated t update) updates

-- each of these updates fits in its turn
abbrev pub FitInTurn : Nodes → List Update → Type 0
FitInTurn t [] = Unit {0}
FitInTurn t (update ∷ updates) = Fits t update × FitInTurn (updated t update) updates

-- the first of these base reads that is not the tree's answer has this place
abbrev pub FirstFails : Nodes → List Base → ℕ → Type 0
FirstFails t [] place = ⊥
FirstFails t (base ∷ bases) place = ((¬ Answers t base.1) × (place ≡ base.0)) ⊎ (Answers t base.1 × FirstFails t bases place)

-- on t the base reads hold exactly if the acts do; then the updates fit in turn, and make of t what the acts make of it; and the first
-- base read that fails has the place of the first read that differs
pub record TakesPlace (reads : List Read) (places : List ℕ) (updates : List Update) (acts : List Act) (t : Nodes) : Type 0 where
  pub exactly : ReadsHold t reads ↔ ActsHold t acts
  pub fit : ActsHold t acts → FitInTurn t updates
  pub after : ActsHold t acts → after_updates t updates ≡ after_acts t acts
  pub first : (place : ℕ) → FirstFails t (zip places reads) place ↔ FirstDiffers (turns t acts) 1 place

-- base reads with their places, and updates, may take the place of the acts on every whole tree
abbrev pub IsAccess : List Read → List ℕ → List Update → List Act → Type 0
IsAccess reads places updates acts = (t : Nodes) → IsTree t → IsWhole t → TakesPlace reads places updates acts t

-- the places rise strictly, from the given one on
abbrev pub Rise : ℕ → List ℕ → Type 0
Rise from [] = Unit {0}
Rise from (place ∷ places) = (from ≤ place) × Rise (suc place) places

-- each place is a number of 64 bits
abbrev pub AreNumbers : List ℕ → Type 0
AreNumbers places = AllByRecursion (λ place. place < 2 ^ 64) places
