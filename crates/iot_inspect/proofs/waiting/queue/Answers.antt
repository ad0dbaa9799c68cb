use Rattle.std.proofs.Common.{[], ◌++◌, sym, ap, append-nil, refl}
use Rattle.std.specs.List.{flat_map}
use Rattle.iot_text.proofs.TextsLaws.{on_err, part_after}
use Rattle.iot_inspect.specs.Texts.{item_line, running_line}
use Rattle.iot_inspect.proofs.PiecesLaws.{part_or_empty}
use Rattle.iot_inspect.proofs.waiting.queue.Goals as goal

pub returns-in_err-put_items-clause-err : goal.returns-in_err-put_items-clause-err
returns-in_err-put_items-clause-err c =
    let items = flat_map (item_line c.args.client.now) c.items.result.now in
    let runs = flat_map (running_line c.args.client.now) c.args.running.now in
    rw (← c.items.ensures)
    (on_err _
    (part_or_empty c.args.out.now c.put_items.new.out (items ++ runs)
    (part_after c.args.out.now c.args.out.now c.put_items.new.out [] items runs (items ++ runs) (sym (append-nil c.args.out.now))
    c.in_err-put_items.ensures.err refl)))

pub returns-in_err-put_runs-clause-err : goal.returns-in_err-put_runs-clause-err
returns-in_err-put_runs-clause-err c =
    let items = flat_map (item_line c.args.client.now) c.items.result.now in
    let runs = flat_map (running_line c.args.client.now) c.args.running.now in
    rw (← c.items.ensures)
    (on_err _
    (part_or_empty c.args.out.now c.put_runs.new.out (items ++ runs)
    (part_after c.args.out.now c.put_items.new.out c.put_runs.new.out items runs [] (items ++ runs) c.in_ok-put_items.ensures.ok
    c.in_err-put_runs.ensures.err (ap (λ t. items ++ t) (append-nil runs)))))
