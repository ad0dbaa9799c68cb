-- What was taken from a source by several calls.
use Rattle.std.proofs.Common.{◌≡◌, ℕ, ◌+◌, ◌≤◌, List, ◌++◌, Option, sym, ap, ◌∙◌, length, take, length-append, length-take, add_assoc}
use Rattle.std.proofs.Common.{arith}
use Rattle.std.proofs.KnownBytes.{Consumes-trans}
use Rattle.iot_io.specs.ReadAll.{Took}

-- one call after others
pub Took-more : {S : Type 0} (left : S → Option (List ℕ)) (taken : S → ℕ) (old mid new : S) (bytes more : List ℕ)
    → Took left taken old mid bytes → Took left taken mid new more → Took left taken old new (bytes ++ more)
Took-more left taken old mid new bytes more first second = record {
  consumed = Consumes-trans (left old) (left mid) (left new) bytes more first.consumed second.consumed;
  counted =
      second.counted ∙ ap (λ n. n + length more) first.counted ∙ add_assoc (taken old) (length bytes) (length more)
      ∙ ap (λ n. taken old + n) (sym (length-append bytes more));
}

-- how many bytes there are with the front of a chunk
pub length-with_front : (bytes chunk : List ℕ) (n : ℕ) → n ≤ length chunk → length (bytes ++ take n chunk) ≡ length bytes + n
length-with_front bytes chunk n within = omega (arith, length-append bytes (take n chunk), length-take n chunk)
