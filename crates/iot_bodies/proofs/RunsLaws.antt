-- Lists of transactions that run.
use Rattle.std.proofs.Common.{◌≡◌, ℕ, ◌≤◌, List, ◌++◌, map, length, take, sym, ap, ◌∙◌}
use Rattle.std.specs.List.{flat_map}
use Rattle.std.proofs.lemmas.List.{length-map, take_all}
use Rattle.std.proofs.lemmas.List.Folds.{flat_map-map}
use Rattle.iot_codec.specs.Spelling.{number_spelling, list_spelling}
use Rattle.iot_bodies.specs.Spelling.{running_spelling}
use Rattle.iot_bodies.specs.declared.client.Running.{Running}

-- those that something keeps
runs_spelled : {X : Type 0} (kept : X → Running) (xs : List X)
    → number_spelling (length xs) ++ flat_map (λ x. running_spelling (kept x)) xs ≡ list_spelling running_spelling (map kept xs)
runs_spelled kept xs =
    ap (λ (n : ℕ). number_spelling n ++ flat_map (λ x. running_spelling (kept x)) xs) (sym (length-map xs kept))
    ∙ ap (λ (rest : List ℕ). number_spelling (length (map kept xs)) ++ rest) (sym (flat_map-map running_spelling kept xs))

-- once the last of them was appended
pub runs_appended : {X : Type 0} (kept : X → Running) (xs : List X) (i : ℕ) (old new : List ℕ) → length xs ≤ i
    → new ≡ old ++ (number_spelling (length xs) ++ flat_map (λ x. running_spelling (kept x)) (take i xs))
    → new ≡ old ++ list_spelling running_spelling (map kept xs)
runs_appended kept xs i old new past is =
    is
    ∙ ap (λ (them : List _). old ++ (number_spelling (length xs) ++ flat_map (λ x. running_spelling (kept x)) them)) (take_all i xs past)
    ∙ ap (λ (text : List ℕ). old ++ text) (runs_spelled kept xs)
