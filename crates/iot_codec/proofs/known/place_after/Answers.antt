use Rattle.std.proofs.Common.{subst, ◌+◌}
use Rattle.iot_codec.specs.Ahead.{ComesAfter}
use Rattle.iot_codec.proofs.AheadLaws.{after_gap, after_row}
use Rattle.iot_codec.proofs.known.place_after.Goals as goal

pub returns-in-Ok : goal.returns-in-Ok
returns-in-Ok c =
    subst (ComesAfter c.args.rows.now (c.in-Ok.place + 1)) c.names.ensures.value
    (after_row c.args.rows.now c.requires c.names.result.now c.in-Ok.place c.in-Ok.ensures)

pub returns-in-Err : goal.returns-in-Err
returns-in-Err c =
    subst (ComesAfter c.args.rows.now c.in-Err.place) c.names.ensures.value
    (after_gap c.args.rows.now c.names.result.now c.in-Err.place c.in-Err.ensures)
