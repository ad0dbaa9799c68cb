use Rattle.std.proofs.Common.{[], ◌∷◌, map, codes}
use Rattle.std.proofs.lemmas.Result.{IfOk-weaker}
use Rattle.iot_gen.specs.Generated.{start_lines, clients, hoard_line}
use Rattle.iot_gen.proofs.TextsLaws.{two_parts}
use Rattle.iot_gen.proofs.lines.put_start.Goals as goal

pub returns : goal.returns
unfolding start_lines
returns c =
    IfOk-weaker c.put_hoards.result _ _
    (λ _ last.
    two_parts c.args.out.now c.append.new.self c.put_hoards.new.out (codes "run c1 init abort" ∷ []) (map hoard_line clients)
    c.in_ok-append.ensures.ok last)
    c.put_hoards.ensures
