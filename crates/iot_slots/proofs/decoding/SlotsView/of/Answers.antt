use Rattle.std.proofs.Common.{sym}
use Rattle.iot_slots.specs.declared.cell.Force.TheVariants.{NoCell, Clash}
use Rattle.iot_slots.proofs.DecodingLaws.{decoded_foreign, decoded_force}
use Rattle.iot_slots.proofs.decoding.SlotsView.of.Goals as goal

pub returns-then-has_other_header-clause-err : goal.returns-then-has_other_header-clause-err
returns-then-has_other_header-clause-err c = decoded_foreign _ _ (sym c.if-has_other_header.ensures)

pub returns-in-NoCell-clause-none : goal.returns-in-NoCell-clause-none
returns-in-NoCell-clause-none c = decoded_force _ _ NoCell (sym c.if-has_other_header.ensures) (sym c.in-NoCell.ensures)

pub returns-in-Clash-clause-err : goal.returns-in-Clash-clause-err
returns-in-Clash-clause-err c = decoded_force _ _ Clash (sym c.if-has_other_header.ensures) (sym c.in-Clash.ensures)
