use Rattle.std.proofs.Common.{refl, subst, sym, ◌+◌}
use Rattle.std.proofs.lemmas.Option.{slice_get_read}
use Rattle.iot_codec.specs.Ahead.{ComesAfter}
use Rattle.iot_codec.proofs.AheadLaws.{next_after}
use Rattle.iot_codec.proofs.known.read_path_after.Goals as goal

pub returns-in-Some-after_path-clause-ahead : goal.returns-in-Some-after_path-clause-ahead
returns-in-Some-after_path-clause-ahead c =
    let lookup = c.in-Some.ensures.lookup in
    let here = slice_get_read c.args.rows.now _ c.args.place.now c.in-Some.row.now refl lookup.3.0 lookup.1 in
    subst (ComesAfter c.args.rows.now (c.args.place.now + 1)) (sym c.in_ok-copy.ensures)
    (next_after c.args.rows.now c.requires.rows c.args.place.now c.in-Some.row.now here)
