use Rattle.std.proofs.Common.{ℕ, List, sym, ◌∙◌, ap}
use Rattle.iot_slots.specs.Decoding.{state_of, state_in}
use Rattle.iot_slots.proofs.LayoutsLaws.{found_encodes, laid_encodes}
use Rattle.iot_slots.proofs.SlotsLaws.{synced}
use Rattle.iot_slots.proofs.looked.Looked.start.Goals as goal

pub returns-in-Ok-clause-state : goal.returns-in-Ok-clause-state
returns-in-Ok-clause-state g c =
    ap state_of (sym (found_encodes _ _ c.args.body.now _ c.requires.seen.found) ∙ c.in-Ok.ensures.state)
    ∙ ap (λ (l : List ℕ). state_in c.in-Ok.found.layout.version l c.in-Ok.found.bodies c.in-Ok.found.layout.count) (sym c.from.ensures)

pub returns-in-Ok-clause-same : goal.returns-in-Ok-clause-same
returns-in-Ok-clause-same g c =
    ap state_of (laid_encodes _ _ _ _ c.in-Ok.ensures.laid_out)
    ∙ ap (λ (l : List ℕ). state_in c.in-Ok.found.layout.version l c.in-Ok.found.bodies c.in-Ok.found.layout.count) (sym c.from.ensures)

pub returns-in-Ok-clause-synced : goal.returns-in-Ok-clause-synced
returns-in-Ok-clause-synced g c = synced _ _ _ c.in-Ok.ensures.durable c.in-Ok.ensures.laid_out
