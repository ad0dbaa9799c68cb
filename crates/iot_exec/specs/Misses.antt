-- Questions that a tree does not know the answer to.
use Rattle.std.specs.Prelude.{ℕ, List, [], ◌∷◌, Option, Some, None, if◌then◌else◌}
use Rattle.iot_tree.specs.declared.questions.Question.{Question}
use Rattle.iot_tree.specs.declared.questions.Question.TheVariants as asks
use Rattle.iot_tree.specs.Snapshots.{is_away}
use Rattle.iot_tree.specs.declared.acts.Read.{Read}

-- the path that a question is about
abbrev pub path_of_question : Question → List (List ℕ)
path_of_question (asks.Kind p) = p
path_of_question (asks.Content p) = p
path_of_question (asks.Names p) = p
path_of_question (asks.Mode p) = p

-- the path of the first question that is answered `Away`
abbrev pub first_away : List Read → Option (List (List ℕ))
first_away [] = None
first_away (read ∷ reads) = if is_away read.answer then Some (path_of_question read.question) else first_away reads
