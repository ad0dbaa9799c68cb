use Rattle.std.proofs.Common.{◌∙◌, sym, subst, ap}
use Rattle.iot_stamp.specs.Stamps.{nodes_of, FarZero}
use Rattle.iot_stamp.proofs.PairingLaws.{nodes_paired, far_paired}
use Rattle.iot_stamp.proofs.stamped.Stamped.tree.Goals as goal

pub returns-clause-value : goal.returns-clause-value
returns-clause-value c = sym (ap nodes_of (sym c.self.view_is) ∙ nodes_paired c.self.inside.tree c.self.inside.stamps.items)

pub returns-clause-far : goal.returns-clause-far
returns-clause-far c = subst FarZero c.self.view_is (far_paired c.self.inside.tree c.self.inside.stamps.items c.self.invariant.far)
