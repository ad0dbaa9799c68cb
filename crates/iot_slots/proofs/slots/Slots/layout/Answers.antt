use Rattle.iot_slots.proofs.LayoutsLaws.{laid_place}
use Rattle.iot_slots.proofs.slots.Slots.layout.Goals as goal

pub returns-clause-place : goal.returns-clause-place
returns-clause-place g c = laid_place _ _ _ _ c.requires.layout
