use Rattle.std.proofs.Common.{◌≡◌, ◌++◌, ◌∷◌, [], ℕ, List, not, length, sym, ap, ◌∙◌, arith}
use Rattle.std.specs.List.{position_from}
use Rattle.std.proofs.lemmas.Iterator.Adapters.{position_from-zero}
use Rattle.iot_lines.specs.Lines.{lines}
use Rattle.iot_lines.proofs.LinesLaws.{lines-length}
use Rattle.iot_event.specs.Bytes.{fits_line}
use Rattle.iot_event.proofs.script.first_unfit.Goals as goal

pub loop-line-init : goal.loop-line-init
loop-line-init c =
    let is : c.into_iter-line-iterator.result ≡ lines c.args.inside.now = cc in
    record {
      same =
          position_from-zero (λ line. not (fits_line line)) (lines c.args.inside.now ++ c.args.closing.now ∷ [])
          ∙ ap (λ (ls : List (List ℕ)). position_from (λ line. not (fits_line line)) 0 (ls ++ c.args.closing.now ∷ [])) (sym is);
      few = omega (arith, ap length is, lines-length c.args.inside.now);
    }
