use Rattle.std.proofs.Common.{◌≡◌, ◌+◌, ◌-◌, ℕ, List, take, drop, ◌∙◌, ap, arith}
use Rattle.std.specs.Int.{w64, from_be_bytes}
use Rattle.iot_records.specs.Bytes.{number_in}
use Rattle.iot_records.proofs.bytes.number_at.Goals as goal

pub returns : goal.returns
unfolding number_in
returns c =
    let eight : c.args.at + 8 - c.args.at ≡ 8 = omega arith in
    c.from_be_bytes.ensures
    ∙ ap (λ (l : List ℕ). from_be_bytes w64 l)
    (c.copy_from_slice.ensures.after ∙ ap (λ (n : ℕ). take n (drop c.args.at c.args.bytes.now)) eight)
