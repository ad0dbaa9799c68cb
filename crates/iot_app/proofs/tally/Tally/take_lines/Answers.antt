use Rattle.std.proofs.Common.{◌≡◌, List, ℕ, sym, subst}
use Rattle.iot_app.specs.Counting.{plus, EndsLine, HasCounted}
use Rattle.iot_app.specs.Summary.{tally_of}
use Rattle.iot_app.proofs.CountingLaws.{then_counted}
use Rattle.iot_app.proofs.tally.Tally.take_lines.Goals as goal

pub returns-in_ok-self : goal.returns-in_ok-self
returns-in_ok-self c =
    let new = c.in_ok-self.field-0 in
    let added : new ≡ plus c.args.self.now (tally_of c.args.text.now) =
    subst (λ (t : List ℕ). new ≡ plus c.args.self.now (tally_of t)) c.as_bytes-then-ends_line.ensures c.in_ok-self.ensures in
    let ends : EndsLine c.args.text.now = subst EndsLine c.as_bytes.ensures (c.ends_line.ensures c.if-ends_line.true) in
    record {
      means = λ transcript had.
          subst (λ (t : List ℕ). HasCounted new t transcript) (sym c.clear.ensures)
          (then_counted c.args.self.now new c.args.text.now transcript added had ends);
    }
