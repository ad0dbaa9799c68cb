use Rattle.std.proofs.Common.{◌≡◌, false, slice_index, length, sym, arith}
use Rattle.std.proofs.lemmas.List.Sums.{prefix_len_is}
use Rattle.iot_text.specs.Names.{is_name_byte}
use Rattle.iot_text.proofs.names.name_bytes_len.Goals as goal

pub returns-then-not-is_name_byte : goal.returns-then-not-is_name_byte
returns-then-not-is_name_byte c =
    let stop : is_name_byte (slice_index c.args.text.now c.bytes.len) ≡ false = cc in
    sym (prefix_len_is is_name_byte c.args.text.now c.bytes.len 0 (omega arith) c.bytes.invariant (λ _. stop))

pub returns : goal.returns
returns c =
    let all : c.bytes.len ≡ length c.args.text.now = omega arith in
    sym
    (prefix_len_is is_name_byte c.args.text.now (length c.args.text.now) 0 (omega arith) (λ k h. c.bytes.invariant k (omega arith))
    (λ h. absurd (omega arith)))
