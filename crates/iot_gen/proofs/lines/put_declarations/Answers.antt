use Rattle.std.proofs.Common.{map}
use Rattle.std.specs.List.{flat_map}
use Rattle.std.proofs.lemmas.Result.{IfOk-weaker}
use Rattle.iot_gen.specs.Generated.{declarations, clients, files, client_line, init_lines, add_lines, look_lines}
use Rattle.iot_gen.proofs.TextsLaws.{four_parts}
use Rattle.iot_gen.proofs.lines.put_declarations.Goals as goal

pub returns : goal.returns
unfolding declarations
returns c =
    IfOk-weaker c.append.result _ _
    (λ _ last.
    four_parts c.args.out.now c.put_clients.new.out c.put_init.new.out c.put_adds.new.out c.append.new.self
    (map client_line clients) init_lines (flat_map add_lines files) look_lines
    c.in_ok-put_clients.ensures c.in_ok-put_init.ensures c.in_ok-put_adds.ensures last)
    c.append.ensures.ok
