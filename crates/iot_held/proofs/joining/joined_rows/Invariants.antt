use Rattle.iot_held.proofs.JoiningLaws.{Merging}
use Rattle.iot_held.proofs.joining.joined_rows.Given as goal

abbrev pub invariant-held : goal.invariant-held
invariant-held l = Merging l.held l.stamps l.fn.rows l.gone l.rest.items l.left l.flags.items l.out l.at
