-- Stamps in line with rows.
use Rattle.std.specs.Prelude.{◌≡◌, ℕ, Bool, cond, List, map}
use Rattle.iot_tree.specs.Tree.{Path, Row, Nodes}
use Rattle.iot_tree.specs.Snapshots.{is_known}
use Rattle.iot_tree.specs.declared.updates.Update.{Update}
use Rattle.iot_tree.specs.declared.updates.Update.TheVariants.{Put, MakeDir, Remove, Move, SetMode}
use Rattle.iot_stamp.specs.Stamps.{Stamps, stamp_at, with_stamps}

-- the stamps of rows in their order, from the stamps of paths; what is far has stamp 0
abbrev pub stamps_by : (Path → ℕ) → List Row → List ℕ
stamps_by f rows = map (λ row. cond (is_known row.1) (f row.0) 0) rows

-- the tree with the stamp at each path that passes the test; every other path keeps the stamp that it has in t
abbrev pub marked : Stamps → Nodes → (Path → Bool) → ℕ → Stamps
marked t nodes test stamp = with_stamps (λ k. cond (test k) stamp (stamp_at t k)) nodes

-- the update puts something at the path
abbrev pub PutsAt : Update → Path → Type 0
PutsAt (Put at bytes) p = at ≡ p
PutsAt (MakeDir at) p = at ≡ p
PutsAt (Remove at) p = ⊥
PutsAt (Move from to) p = ⊥
PutsAt (SetMode at mode) p = ⊥
