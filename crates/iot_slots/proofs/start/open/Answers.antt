use Rattle.std.proofs.Common.{◌≡◌, Some, sym, ◌∙◌}
use Rattle.iot_slots.specs.Decoding.{Decoded, Encodes, NotStarted, State}
use Rattle.iot_slots.proofs.LayoutsLaws.{found_encodes, laid_encodes}
use Rattle.iot_slots.proofs.start.open.Goals as goal

pub returns-in-Some-clause-state : goal.returns-in-Some-clause-state
returns-in-Some-clause-state g c =
    found_encodes _ _ c.args.body.now (Some c.in-Some.found) (rw c.in-Some.is at c.requires.seen.found)

-- bytes that encode a state are started
not_both : (decoding : Decoded) (state : State) → decoding ≡ NotStarted → decoding ≡ Encodes state → ⊥
not_both decoding state none is = let clash : NotStarted ≡ Encodes state = sym none ∙ is in absurd cc

pub returns-in-Some-clause-fresh : goal.returns-in-Some-clause-fresh
returns-in-Some-clause-fresh g c = λ none.
    let laid = rw c.in-Some.is at c.requires.seen.found in
    absurd (not_both _ _ none (laid_encodes _ _ _ _ laid))
