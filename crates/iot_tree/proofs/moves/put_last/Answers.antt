use Rattle.std.proofs.Common.{◌∙◌, ◌-◌, length, take, sym, ap, arith}
use Rattle.iot_tree.specs.Place.{IsRowAt, IsGap}
use Rattle.iot_tree.proofs.PutLaws.{put_row, put_gap}
use Rattle.iot_tree.proofs.moves.put_last.Goals as goal

pub returns-in-Ok : goal.returns-in-Ok
returns-in-Ok c =
    let stands : IsRowAt (take (length c.args.rows.now - c.args.count) c.args.rows.now) c.args.names.now c.in-Ok.at =
    rw (c.in-Ok.is, c.len.ensures, c.as_slice.ensures) at c.place_of.ensures in
    put_row c.args.rows.now (length c.args.rows.now - c.args.count) (omega arith) c.args.names.now c.requires.rising c.rotate.new.self
    c.in-Ok.at stands (λ a b back whole first second.
    c.rotate.ensures a b back (c.remove.ensures ∙ whole) first (second ∙ ap (λ n. n - c.args.count - c.in-Ok.at - 1) (sym c.len.ensures)))

pub returns-in-Err : goal.returns-in-Err
returns-in-Err c =
    let gap : IsGap (take (length c.args.rows.now - c.args.count) c.args.rows.now) c.args.names.now c.in-Err.gap =
    rw (c.in-Err.is, c.len.ensures, c.as_slice.ensures) at c.place_of.ensures in
    put_gap c.args.rows.now (length c.args.rows.now - c.args.count) (omega arith) c.args.names.now c.requires.rising
    c.rotate-in-Err.new.self c.in-Err.gap gap (λ a b back whole first second.
    c.rotate-in-Err.ensures a b back whole first (second ∙ ap (λ n. n - c.args.count - c.in-Err.gap) (sym c.len.ensures)))
