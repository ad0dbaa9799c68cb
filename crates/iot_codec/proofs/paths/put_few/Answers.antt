use Rattle.std.proofs.Common.{◌≡◌, ◌++◌, ◌∙◌, List, ℕ, ap, arith, append-nil, length, sym}
use Rattle.iot_codec.specs.Spelling.{number_spelling}
use Rattle.iot_codec.proofs.DigitsLaws.{length-digits}
use Rattle.iot_codec.proofs.paths.put_few.Goals as goal

pub names-init : goal.names-init
unfolding number_spelling
names-init c =
    let is : c.put.new.self ≡ c.to_be_bytes.result =
    c.put.ensures ∙ ap (λ (none : List ℕ). none ++ c.to_be_bytes.result) c.requires.empty in
    let long : length c.put.new.self ≡ 8 = ap length is ∙ length-digits (length c.args.names.now) _ c.to_be_bytes.ensures in
    (is ∙ c.to_be_bytes.ensures ∙ sym (append-nil (number_spelling (length c.args.names.now))), omega (arith, long))
