-- What a client submits.
use Rattle.std.specs.Prelude.{ℕ, List}
use Rattle.iot_tree.specs.declared.access.Access.{Access}
use Rattle.iot_tree.specs.declared.labels.Label.{Label}

-- the label of a transaction, its access and its lines
abbrev pub Submission : Type 0
Submission = Label × (Access × List (List ℕ))
