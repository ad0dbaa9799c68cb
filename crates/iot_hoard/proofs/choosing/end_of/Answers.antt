use Rattle.std.proofs.Common.{◌+◌, refl}
use Rattle.iot_hoard.proofs.BelowLaws.{row_alone, row_and_below}
use Rattle.iot_hoard.proofs.choosing.end_of.Goals as goal

pub returns-in-Path-clause-rows : goal.returns-in-Path-clause-rows
returns-in-Path-clause-rows c =
    rw c.in-Path.is (row_alone c.args.rows.now c.requires.tree c.args.names.now c.args.at c.requires.row (c.args.at + 1) refl)

pub returns-in-Below-clause-rows : goal.returns-in-Below-clause-rows
returns-in-Below-clause-rows c =
    rw c.in-Below.is
    (row_and_below c.args.rows.now c.requires.tree c.args.names.now c.args.at c.requires.row (c.args.at + c.count_within.result)
    c.count_within.result refl c.count_within.ensures.count)
