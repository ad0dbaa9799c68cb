use Rattle.std.proofs.Common.{◌≡◌, ℕ, ◌<◌, true, slice_index}
use Rattle.iot_text.specs.Names.{is_name_byte}
use Rattle.iot_text.proofs.names.name_bytes_len.Given as goal

abbrev pub invariant-bytes : goal.invariant-bytes
invariant-bytes l = (k : ℕ) → k < l.len → is_name_byte (slice_index l.text k) ≡ true
