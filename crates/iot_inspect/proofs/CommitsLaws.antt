-- Laws of commits in a row.
use Rattle.std.proofs.Common.{◌≡◌, ℕ, ◌+◌, ◌<◌, List, ◌∷◌, ◌++◌, length, get_or, drop, sym, ap, ◌∙◌}
use Rattle.std.proofs.lemmas.List.{drop_more}
use Rattle.iot_tree.specs.declared.labels.Label.{Label}
use Rattle.iot_inspect.specs.Texts.{log_line, log_from}

-- the next commit, and those after it
pub one_commit : (clients : List (List ℕ)) (labels : List Label) (i : ℕ) (label : Label) (number : ℕ) → i < length labels
    → label ≡ get_or labels i label
    → log_from clients number (drop i labels) ≡ log_line clients number label ++ log_from clients (number + 1) (drop (i + 1) labels)
one_commit clients labels i label number within is =
    ap (log_from clients number) (drop_more labels i label within ∙ ap (λ (l : Label). l ∷ drop (i + 1) labels) (sym is))
