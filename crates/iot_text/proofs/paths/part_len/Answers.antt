use Rattle.std.proofs.Common.{◌≡◌, true, slice_index, length, sym, ap, arith}
use Rattle.std.proofs.lemmas.List.Sums.{position_or_len_is}
use Rattle.iot_text.specs.Paths.{is_slash}
use Rattle.iot_text.proofs.paths.part_len.Goals as goal

pub returns-then-byte-eq47 : goal.returns-then-byte-eq47
returns-then-byte-eq47 c =
    let stop : is_slash (slice_index c.args.text.now c.bytes.len) ≡ true = ap is_slash c.if-byte-eq47.true in
    sym (position_or_len_is is_slash c.args.text.now c.bytes.len 0 (omega arith) c.bytes.invariant (λ _. stop))

pub returns : goal.returns
returns c =
    let all : c.bytes.len ≡ length c.args.text.now = omega arith in
    sym
    (position_or_len_is is_slash c.args.text.now (length c.args.text.now) 0 (omega arith) (λ k h. c.bytes.invariant k (omega arith))
    (λ h. absurd (omega arith)))
