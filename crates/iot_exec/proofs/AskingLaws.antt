-- How the steps of a command follow its plan.
use Rattle.std.proofs.Common.{◌≡◌, ℕ, List, Result, Ok, Err, ◌∙◌, ap, subst, sym, append_assoc}
use Rattle.std.specs.Result.{IsErrAnd}
use Rattle.iot_tree.specs.Questions.{answer_of}
use Rattle.iot_tree.specs.declared.questions.Question.{Question}
use Rattle.iot_tree.specs.declared.questions.Answer.{Answer}
use Rattle.iot_exec.specs.Plans.{Plan, Done, Ask, perform}
use Rattle.iot_exec.specs.Operands.{IsStopAt}
use Rattle.iot_exec.specs.Commands.{Ending, fails}
use Rattle.iot_exec.specs.Asking.{asked, Leads, Finds, Passes, Ends}
use Rattle.iot_exec.specs.declared.asking.Asking.{Asking}
use Rattle.iot_exec.specs.declared.endings.Reason.{Reason}
use Rattle.iot_exec.specs.declared.endings.Success.{Success}
use Rattle.iot_exec.specs.declared.endings.Refusal.{Refusal}
use Rattle.iot_exec.specs.declared.endings.Stop.{Stop}
use Rattle.iot_exec.specs.declared.endings.Stop.TheVariants.{NoMemory, Refused}

-- one step, and another
pub one_then : {R : Type 0} (a : Asking) (p : Plan R) (b : Asking) (q : Plan R) (c : Asking) (r : Plan R) → Leads a p b q → Leads b q c r
    → Leads a p c r
one_then a p b q c r one two = record { same = one.same ∙ two.same }

-- a question is asked
pub ask_leads : {R : Type 0} (a b : Asking) (question : Question) (next : Answer → Plan R) (answer : Answer) → b ≡ asked a question
    → answer ≡ answer_of a.tree.now question → Leads a (Ask question next) b (next answer)
ask_leads {R = R} a b question next answer is answers =
    subst (λ (b : Asking). Leads a (Ask question next) b (next answer)) (sym is)
    (subst (λ (answer : Answer). Leads a (Ask question next) (asked a question) (next answer)) (sym answers)
    (record {
      same =
          ap (λ reads. record { reads = reads; result = (perform a.tree.now (next (answer_of a.tree.now question))).result })
          (sym (append_assoc a.reads _ _));
    }))

-- what is left of a plan ends it
pub ends_from : (a : Asking) (p : Plan Ending) (b : Asking) (q : Plan Ending) (c : Asking) (result : Result Success Stop) → Leads a p b q
    → Ends b q c result → Ends a p c result
ends_from a p b q c (Ok success) one two = one_then a p b q c (Done (Ok success)) one two
ends_from a p b q c (Err (Refused refusal)) one two = one_then a p b q c (Done (Err refusal)) one two
ends_from a p b q c (Err NoMemory) one two = two

-- what is left of a part passes it
pub passes_from : (a : Asking) (f : Plan Ending → Plan Ending) (b : Asking) (g : Plan Ending → Plan Ending) (c : Asking)
    (result : Result (Unit {0}) Stop)
    → ((good : Plan Ending) → Leads a (f good) b (g good)) → Passes b g c result → Passes a f c result
passes_from a f b g c (Ok done) one two = λ good. one_then a (f good) b (g good) c good (one good) (two good)
passes_from a f b g c (Err (Refused refusal)) one two = λ good. one_then a (f good) b (g good) c (Done (Err refusal)) (one good) (two good)
passes_from a f b g c (Err NoMemory) one two = two

-- a plan that fails at a path ends
pub failed : (a : Asking) (p : Plan Ending) (b : Asking) (path : List (List ℕ)) (reason : Reason) (stop : Stop)
    → Leads a p b (fails path reason) → IsStopAt stop path reason → Ends a p b (Err stop)
failed a p b path reason (Refused refusal) leads is = subst (λ (refusal : Refusal). Leads a p b (Done (Err refusal))) (sym is) leads
failed a p b path reason NoMemory leads is = is

-- a part that stops the plan is its end
stop_ends : (a b : Asking) (part : Plan Ending → Plan Ending) (stop : Stop) (good : Plan Ending) → Passes a part b (Err stop)
    → Ends a (part good) b (Err stop)
stop_ends a b part NoMemory good passes = passes
stop_ends a b part (Refused refusal) good passes = passes good

pub stopped : (a b : Asking) (part : Plan Ending → Plan Ending) (stop : Stop) (good : Plan Ending) → Passes a part b (Err stop)
    → (result : Result Success Stop) → IsErrAnd result (λ e. e ≡ stop) → Ends a (part good) b result
stopped a b part stop good passes (Err e) is =
    subst (λ (e : Stop). Ends a (part good) b (Err e)) (sym is) (stop_ends a b part stop good passes)
stopped a b part stop good passes (Ok value) is = absurd is

missing_ends : {A : Type 0} (a b : Asking) (part : (A → Plan Ending) → Plan Ending) (stop : Stop) (next : A → Plan Ending)
    → Finds a part b (Err stop) → Ends a (part next) b (Err stop)
missing_ends a b part NoMemory next finds = finds
missing_ends a b part (Refused refusal) next finds = finds next

pub missing : {A : Type 0} (a b : Asking) (part : (A → Plan Ending) → Plan Ending) (stop : Stop) (next : A → Plan Ending)
    → Finds a part b (Err stop) → (result : Result Success Stop) → IsErrAnd result (λ e. e ≡ stop) → Ends a (part next) b result
missing a b part stop next finds (Err e) is =
    subst (λ (e : Stop). Ends a (part next) b (Err e)) (sym is) (missing_ends a b part stop next finds)
missing a b part stop next finds (Ok value) is = absurd is
