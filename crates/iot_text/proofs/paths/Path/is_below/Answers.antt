use Rattle.std.proofs.Common.{◌≡◌, ◌∙◌, sym, rules}
use Rattle.iot_text.specs.Paths.{is_below}
use Rattle.iot_text.proofs.PathsLaws.{is_below-tells, is_below-of}
use Rattle.iot_text.proofs.paths.Path.is_below.Goals as goal

pub returns-then-names-clause-means : goal.returns-then-names-clause-means
returns-then-names-clause-means c =
    let value : c.starts_with.result ≡ is_below c.args.self.now c.args.other.now = search rules in
    (λ yes_it_is. is_below-tells _ _ (sym value ∙ yes_it_is), λ below. value ∙ is_below-of _ _ below)
