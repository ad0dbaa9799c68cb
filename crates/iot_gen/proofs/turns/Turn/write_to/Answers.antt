use Rattle.std.proofs.Common.{◌≡◌, ℕ, List, ◌++◌, [], codes, decimal, ap, ◌∙◌, sym}
use Rattle.std.proofs.lemmas.Result.{IfOk-weaker}
use Rattle.iot_gen.specs.declared.turns.Turn.{Turn}
use Rattle.iot_gen.specs.declared.turns.Turn.TheVariants.{Disconnect}
use Rattle.iot_gen.specs.Turns.{turn_line}
use Rattle.iot_gen.specs.Generated.{line}
use Rattle.iot_gen.proofs.TextsLaws.{ends_with_number}
use Rattle.iot_gen.proofs.turns.Turn.write_to.Goals as goal

disconnects : (old new : List ℕ) (c : ℕ) (turn : Turn) → turn ≡ Disconnect c → new ≡ old ++ line (codes "disconnect c" ++ decimal c ++ [])
    → new ≡ old ++ line (turn_line turn)
disconnects old new c turn is added =
    ends_with_number old new (codes "disconnect c") (decimal c) added ∙ ap (λ (t : Turn). old ++ line (turn_line t)) (sym is)

pub returns-in-Disconnect : goal.returns-in-Disconnect
returns-in-Disconnect c =
    IfOk-weaker c.put_numbered.result _ _
    (λ _ added. disconnects c.args.out.now c.put_numbered.new.out c.in-Disconnect.client c.args.self c.in-Disconnect.is added)
    c.put_numbered.ensures
