-- Acts as plans: what an act asks and does, whatever the tree.
use Rattle.std.specs.Prelude.{ℕ, List, [], ◌∷◌, Option, None}
use Rattle.iot_tree.specs.Tree.{Nodes}
use Rattle.iot_tree.specs.Questions.{answer_of}
use Rattle.iot_tree.specs.declared.questions.Question.{Question}
use Rattle.iot_tree.specs.declared.questions.Answer.{Answer}
use Rattle.iot_tree.specs.declared.updates.Update.{Update}
use Rattle.iot_tree.specs.declared.acts.Act.{Act}
use Rattle.iot_tree.specs.declared.acts.Read.{Read}

-- questions in turn, each later one by the answers to those before, and in the end a result
pub data Plan (R : Type 0) : Type 0 where
  Done : (result : R) → Plan R
  Ask : (question : Question) (next : Answer → Plan R) → Plan R

-- the same questions, and what f makes of the result
abbrev pub mapped : {R S : Type 0} → (R → S) → Plan R → Plan S
mapped f (Done result) = Done (f result)
mapped f (Ask question next) = Ask question (λ answer. mapped f (next answer))

-- what came of a plan: the questions with their answers, and the result
pub record Performed (R : Type 0) : Type 0 where
  pub reads : List Read
  pub result : R

abbrev pub with_read : {R : Type 0} → Read → Performed R → Performed R
with_read read performed = record { reads = read ∷ performed.reads; result = performed.result }

-- the plan on a tree, which answers each question
abbrev pub perform : {R : Type 0} → Nodes → Plan R → Performed R
perform t (Done result) = record { reads = []; result = result }
perform t (Ask question next) =
    let answer = answer_of t question in
    with_read (record { question = question; answer = answer }) (perform t (next answer))

-- what an act does when its questions are answered: at most one update, the lines that it prints, and what the script goes on with
pub record Effect (R : Type 0) : Type 0 where
  pub update : Option Update
  pub lines : List (List ℕ)
  pub result : R

-- no update and no line
abbrev pub silent : {R : Type 0} → R → Effect R
silent result = record { update = None; lines = []; result = result }

-- the same effect, and what f makes of the result
abbrev pub going_on : {R S : Type 0} → (R → S) → Effect R → Effect S
going_on f effect = record { update = effect.update; lines = effect.lines; result = f effect.result }

-- the act that was performed
abbrev pub act_of : {R : Type 0} → Performed (Effect R) → Act
act_of performed = record { reads = performed.reads; update = performed.result.update; lines = performed.result.lines }
