use Rattle.std.proofs.Common.{◌∙◌, sym, ap, map}
use Rattle.std.specs.FinMap.{entries}
use Rattle.iot_stamp.specs.Stamps.{Entry, Stamps}
use Rattle.iot_stamp.proofs.PairingLaws.{list_paired}
use Rattle.iot_stamp.proofs.stamped.Stamped.stamps.Goals as goal

pub returns : goal.returns
returns c =
    c.as_slice.ensures.value
    ∙ sym (ap (λ (t : Stamps). map (λ (e : Entry). e.1.1) (entries t)) (sym c.self.view_is)
    ∙ list_paired c.self.inside.tree c.self.inside.stamps.items c.self.invariant.count)
