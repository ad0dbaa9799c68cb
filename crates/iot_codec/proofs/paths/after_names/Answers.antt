use Rattle.std.specs.Prelude.{◌≡◌, suc, ◌+◌, ◌++◌, [], ◌∷◌, take, length, None}
use Rattle.std.proofs.Common.{ap, sym, ◌∙◌, arith}
use Rattle.std.proofs.Math.Seq.{take-suc}
use Rattle.iot_views.specs.Decoders.{items_at}
use Rattle.iot_views.specs.Decoding.{name_at}
use Rattle.iot_views.proofs.DecodersLaws.{goes_on}
use Rattle.iot_codec.proofs.paths.after_names.Goals as goal

pub names-preserved : goal.names-preserved
names-preserved c =
    let names = c.args.names.now in
    let i = c.names.name-index in
    let name = c.name-item.result in
    let next : i + 1 ≡ suc i = omega arith in
    let longer : take (i + 1) names ≡ take i names ++ name ∷ []
    = ap (λ n. take n names) next ∙ take-suc names i name c.names-test.true ∙ ap (λ x. take i names ++ x ∷ []) (sym c.name-item.is) in
    let total = items_at (λ _. name_at) (length names) None c.args.bytes.now c.args.at in
    rw longer (goes_on (λ _. name_at) c.args.bytes.now (length names) total (take i names) i c.names.end name c.in_ok-end.end
    c.names-test.true c.in_ok-end.ensures c.names.invariant)
