-- Which stamps acts leave.
use Rattle.std.specs.Prelude.{ℕ, List, [], ◌∷◌, Option, Some, None}
use Rattle.iot_acts.specs.Traces.{FitsIfAny, after_update}
use Rattle.iot_tree.specs.Tree.{Nodes}
use Rattle.iot_tree.specs.declared.acts.Act.{Act}
use Rattle.iot_tree.specs.declared.updates.Update.{Update}
use Rattle.iot_stamp.specs.Stamps.{Stamps}
use Rattle.iot_stamp.specs.Stamping.{stamped}

-- after an update with this stamp, if there is one
abbrev pub stamped_if_any : Stamps → Option Update → ℕ → Stamps
stamped_if_any t None stamp = t
stamped_if_any t (Some update) stamp = stamped t update stamp

-- after the updates of acts in turn, all with this stamp
abbrev pub stamped_acts : Stamps → List Act → ℕ → Stamps
stamped_acts t [] stamp = t
stamped_acts t (act ∷ acts) stamp = stamped_acts (stamped_if_any t act.update stamp) acts stamp

-- the update of each act, if it has one, fits the tree after the updates before it
abbrev pub UpdatesFit : Nodes → List Act → Type 0
UpdatesFit t [] = Unit {0}
UpdatesFit t (act ∷ acts) = FitsIfAny t act.update × UpdatesFit (after_update t act.update) acts

-- after these updates in turn, all with this stamp
abbrev pub stamped_all : Stamps → List Update → ℕ → Stamps
stamped_all t [] stamp = t
stamped_all t (update ∷ updates) stamp = stamped_all (stamped t update stamp) updates stamp
