-- What the calls on the commits in memory do.
use Rattle.std.specs.Prelude.{◌≡◌, ℕ, Bool, true, false, List}
use Rattle.std.specs.Ordering.{nat_cmp, ordering_then}
use Rattle.std.specs.declared.cmp.Ordering.{Ordering}
use Rattle.std.specs.BTreeMap.{BTreeMap, get}
use Rattle.iot_tree.specs.Updates.{Fits}
use Rattle.iot_tree.specs.declared.updates.Update.{Update}
use Rattle.iot_tree.specs.declared.labels.Label.{Label}
use Rattle.iot_tree.specs.declared.access.Access.{Access}
use Rattle.iot_access.specs.Access.{FitInTurn}
use Rattle.iot_stamp.specs.Stamping.{stamped}
use Rattle.iot_stamp.specs.Stamps.{Stamps, nodes_of}
use Rattle.iot_store.specs.States.{State, CanFollow, after_commit}
use Rattle.iot_store.specs.Numbers.{number_in}
use Rattle.iot_store.specs.Stamps.{stamped_all}

-- clients with their transactions, in the order of the index
abbrev pub key_cmp : ℕ × ℕ → ℕ × ℕ → Ordering
key_cmp one other = ordering_then (nat_cmp one.0 other.0) (nat_cmp one.1 other.1)

-- the index finds each transaction's number
pub record IsIndex (numbers : BTreeMap (ℕ × ℕ) ℕ) (labels : List Label) : Type 0 where
  pub finds : (client tid : ℕ) → get key_cmp numbers (client, tid) ≡ number_in labels client tid

-- a commit was added if it can follow, and only then
abbrev pub AddsIf : Bool → Label → Access → State → State → Type 0
AddsIf true label access before after = CanFollow before label access × (after ≡ after_commit before label access)
AddsIf false label access before after = CanFollow before label access → ⊥

-- ---- updates

-- an update was made with this stamp if it fits, and only then
abbrev pub UpdatesIf : Bool → Update → ℕ → Stamps → Stamps → Type 0
UpdatesIf true update stamp before after = Fits (nodes_of before) update × (after ≡ stamped before update stamp)
UpdatesIf false update stamp before after = Fits (nodes_of before) update → ⊥

-- the updates were made with this stamp if they fit in turn, and only then
abbrev pub MakesAllIf : Bool → List Update → ℕ → Stamps → Stamps → Type 0
MakesAllIf true updates stamp before after = FitInTurn (nodes_of before) updates × (after ≡ stamped_all before updates stamp)
MakesAllIf false updates stamp before after = FitInTurn (nodes_of before) updates → ⊥
