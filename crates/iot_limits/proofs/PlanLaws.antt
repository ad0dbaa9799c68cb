-- Plans that ask, do and print only what has a spelling: what they do on a tree has one.
use Rattle.std.proofs.Common.{◌≡◌, ℕ, List, Some}
use Rattle.std.specs.FinMap.{get}
use Rattle.iot_tree.specs.Tree.{Nodes}
use Rattle.iot_tree.specs.Questions.{answer_of}
use Rattle.iot_tree.specs.declared.questions.Question.{Question}
use Rattle.iot_tree.specs.declared.questions.Answer.{Answer}
use Rattle.iot_views.specs.Rules.{IsQuestion, IsAnswer, AreReads, IsAct, IsOptionalUpdate, AreLines}
use Rattle.iot_exec.specs.Plans.{Plan, Done, Ask, mapped, Performed, perform, Effect, act_of}
use Rattle.iot_exec.specs.declared.env.Env.{Env}
use Rattle.iot_limits.proofs.ByteLaws.{AreContentBytes}

-- ---- what is spelled

-- each variable's value has bytes of contents
abbrev pub IsSpelledEnv : Env → Type 0
IsSpelledEnv env = (name value : List ℕ) → get env.variables name ≡ Some value → AreContentBytes value

-- the update and the lines have spellings, and the result is good
pub record IsSpelledEffect {R : Type 0} (IsGood : R → Type 0) (effect : Effect R) : Type 0 where
  pub update : IsOptionalUpdate effect.update
  pub lines : AreLines effect.lines
  pub result : IsGood effect.result

-- each question has a spelling, and the result is good if the answers have one
abbrev pub IsSpelledPlan : {R : Type 0} → (R → Type 0) → Plan R → Type 0
IsSpelledPlan IsGood (Done result) = IsGood result
IsSpelledPlan IsGood (Ask question next) = IsQuestion question × ((answer : Answer) → IsAnswer answer → IsSpelledPlan IsGood (next answer))

-- ---- plans put together

pub mapped_plan : {R S : Type 0} (IsGood : R → Type 0) (IsAlso : S → Type 0) (f : R → S) (plan : Plan R)
    → ((result : R) → IsGood result → IsAlso (f result)) → IsSpelledPlan IsGood plan → IsSpelledPlan IsAlso (mapped f plan)
mapped_plan IsGood IsAlso f (Done result) leads is = leads result is
mapped_plan IsGood IsAlso f (Ask question next) leads is =
    (is.0, λ answer also. mapped_plan IsGood IsAlso f (next answer) leads (is.1 answer also))

-- ---- plans on trees

-- the reads have spellings, and the result is good
pub record SpelledPerformed {R : Type 0} (IsGood : R → Type 0) (performed : Performed R) : Type 0 where
  pub reads : AreReads performed.reads
  pub result : IsGood performed.result

-- each answer of the tree has a spelling
abbrev pub HasAnswers : Nodes → Type 0
HasAnswers t = (question : Question) → IsAnswer (answer_of t question)

pub performed_plan : {R : Type 0} (IsGood : R → Type 0) (t : Nodes) (plan : Plan R) → HasAnswers t → IsSpelledPlan IsGood plan
    → SpelledPerformed IsGood (perform t plan)
performed_plan IsGood t (Done result) answers is = record { reads = tt; result = is }
performed_plan IsGood t (Ask question next) answers is =
    let answer : Answer = answer_of t question in
    let rest : SpelledPerformed IsGood (perform t (next answer)) =
    performed_plan IsGood t (next answer) answers (is.1 answer (answers question)) in
    record { reads = (record { question = is.0; answer = answers question }, rest.reads); result = rest.result }

pub performed_act : {R : Type 0} (IsGood : R → Type 0) (performed : Performed (Effect R))
    → SpelledPerformed (IsSpelledEffect IsGood) performed → IsAct (act_of performed)
performed_act IsGood performed is = record { reads = is.reads; update = is.result.update; lines = is.result.lines }
