use Rattle.iot_gen.specs.declared.generating.TheConstants.{TURNS}
use Rattle.iot_gen.proofs.TextsLaws.{one_turn, no_turn}
use Rattle.iot_gen.proofs.generating.put_turns.Goals as goal

pub turns-preserved : goal.turns-preserved
turns-preserved c =
    one_turn TURNS c.turns.counter c.turns.draws _ _ _ _ _ c.turns-test.true c.draw_turn.ensures.turn c.draw_turn.ensures.after
    c.in_ok-write_to.ensures c.turns.invariant

pub returns : goal.returns
returns c = no_turn TURNS c.turns.counter c.turns.draws _ _ c.turns-test.false c.turns.invariant
