use Rattle.std.proofs.Common.{◌≡◌, ◌∙◌, sym, rules}
use Rattle.std.specs.Prelude.{nat_eq}
use Rattle.std.specs.Cmp.Lexicographic.{pointwise, pointwise_decides, bytes_decides}
use Rattle.iot_text.proofs.paths.PathPartialEq.eq.Goals as goal

pub returns-clause-same : goal.returns-clause-same
returns-clause-same c =
    let value : c.eq.result ≡ pointwise (pointwise nat_eq) c.args.self.now c.args.other.now = search rules in
    let decided = pointwise_decides bytes_decides c.args.self.now c.args.other.now in
    (λ is. decided.0 (sym value ∙ is), λ same. value ∙ decided.1 same)
