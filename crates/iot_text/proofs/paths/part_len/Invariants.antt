use Rattle.std.proofs.Common.{◌≡◌, ℕ, ◌<◌, false, slice_index}
use Rattle.iot_text.specs.Paths.{is_slash}
use Rattle.iot_text.proofs.paths.part_len.Given as goal

abbrev pub invariant-bytes : goal.invariant-bytes
invariant-bytes l = (k : ℕ) → k < l.len → is_slash (slice_index l.text k) ≡ false
