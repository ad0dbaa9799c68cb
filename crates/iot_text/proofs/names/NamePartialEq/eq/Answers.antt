use Rattle.std.proofs.Common.{◌≡◌, nat_eq, ◌∙◌, sym, ap}
use Rattle.std.specs.Ordering.{is_eq}
use Rattle.std.specs.Cmp.Lexicographic.{pointwise, texts_ties, bytes_decides}
use Rattle.iot_text.proofs.names.NamePartialEq.eq.Goals as goal

pub returns-clause-value : goal.returns-clause-value
returns-clause-value c = c.is_eq.ensures ∙ ap is_eq c.cmp.ensures ∙ sym (texts_ties c.args.self.now c.args.other.now)

pub returns-clause-same : goal.returns-clause-same
returns-clause-same c =
    let value : c.is_eq.result ≡ pointwise nat_eq c.args.self.now c.args.other.now = returns-clause-value c in
    let decided = bytes_decides c.args.self.now c.args.other.now in
    (λ is. decided.0 (sym value ∙ is), λ same. value ∙ decided.1 same)
