use Rattle.iot_slots.proofs.LayoutsLaws.{found_encodes}
use Rattle.iot_slots.proofs.slots.Slots.look.Goals as goal

pub returns-in-Ok-clause-state : goal.returns-in-Ok-clause-state
returns-in-Ok-clause-state g c body = found_encodes _ _ body _ c.in-Ok.ensures.seen.found
