-- What was written to a sink by several calls.
use Rattle.std.proofs.Common.{ℕ, ◌+◌, ◌-◌, List, ◌++◌, Option, sym, ap, subst, ◌∙◌, length, take, drop}
use Rattle.std.proofs.lemmas.List.{take_rest}
use Rattle.std.proofs.Math.Seq.{take-add}
use Rattle.std.specs.Io.KnownBytes.{Appends}
use Rattle.std.proofs.KnownBytes.{Appends-trans}

-- one call after others, which was given the rest
pub written_more : (a b c : Option (List ℕ)) (bytes : List ℕ) (done n : ℕ) → Appends a b (take done bytes)
    → Appends b c (take n (take (length bytes - done) (drop done bytes))) → Appends a c (take (done + n) bytes)
written_more a b c bytes done n before now =
    let rest = ap (λ l. take done bytes ++ take n l) (take_rest bytes done) in
    subst (Appends a c) (rest ∙ sym (take-add done n bytes)) (Appends-trans a b c _ _ before now)
