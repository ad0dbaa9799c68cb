-- Bodies of records that stand one after another in one list of bytes.
use Rattle.std.proofs.Common.{◌≡◌, ◌≤◌, ℕ, List, [], ◌∷◌, ◌++◌, length, take, drop, suc, refl, ap, arith, length-drop}
use Rattle.std.specs.List.{sum}
use Rattle.std.proofs.lemmas.List.{take-append-le, drop-append-le, take_all}
use Rattle.std.proofs.lemmas.List.Sums.{sum_by-cons}
use Rattle.iot_disk.specs.Bodies.{pieces}

pub length-pieces : (lengths bytes : List ℕ) → length (pieces lengths bytes) ≡ length lengths
length-pieces [] bytes = refl
length-pieces (n ∷ lengths) bytes = ap suc (length-pieces lengths (drop n bytes))

-- a piece more behind the others
pub pieces-push : (lengths bytes body : List ℕ) → sum lengths ≡ length bytes →
    pieces (lengths ++ length body ∷ []) (bytes ++ body) ≡ pieces lengths bytes ++ body ∷ []
pieces-push [] [] body whole = ap (λ (l : List ℕ). l ∷ []) (take_all (length body) body (omega arith))
pieces-push [] (b ∷ bytes) body whole = absurd (omega (arith, whole))
pieces-push (n ∷ lengths) bytes body whole =
    let parts = sum_by-cons (λ x. x) n lengths in
    let within : n ≤ length bytes = omega (arith, whole, parts) in
    let left : sum lengths ≡ length (drop n bytes) = omega (arith, whole, parts, length-drop n bytes) in
    rw (take-append-le n bytes body within, drop-append-le n bytes body within)
    (ap (λ (l : List (List ℕ)). take n bytes ∷ l) (pieces-push lengths (drop n bytes) body left))
