-- How far a plan has come on a tree.
use Rattle.std.specs.Prelude.{◌≡◌, ℕ, ◌-◌, List, [], ◌∷◌, ◌++◌, length, slice_get, Option, Some, None, Result, Ok, Err, ⊤}
use denote.Ref.{Bor}
use Rattle.iot_tree.specs.Questions.{answer_of}
use Rattle.iot_tree.specs.declared.questions.Question.{Question}
use Rattle.iot_tree.specs.declared.questions.Answer.{Answer}
use Rattle.iot_tree.specs.declared.questions.Answer.TheVariants.{Names}
use Rattle.iot_tree.specs.declared.acts.Read.{Read}
use Rattle.iot_tree.specs.declared.kinds.Kind.{Kind}
use Rattle.iot_exec.specs.Plans.{Plan, Done, Performed, perform}
use Rattle.iot_exec.specs.Commands.{Ending}
use Rattle.iot_exec.specs.declared.asking.Asking.{Asking}
use Rattle.iot_exec.specs.declared.endings.Refusal.{Refusal}
use Rattle.iot_exec.specs.declared.endings.Stop.{Stop}
use Rattle.iot_exec.specs.declared.endings.Stop.TheVariants.{NoMemory, Refused}

-- one question more is asked
abbrev pub asked : Asking → Question → Asking
asked asking question = record {
  alloc = asking.alloc;
  tree = asking.tree;
  reads = asking.reads ++ record { question = question; answer = answer_of asking.tree.now question } ∷ [];
}

-- the reads so far, in front of what the plan gives
abbrev pub onto : {R : Type 0} → Asking → Plan R → Performed R
onto asking plan =
    let performed = perform asking.tree.now plan in
    record { reads = asking.reads ++ performed.reads; result = performed.result }

-- the plan has come so far that this is left of it
pub record Leads {R : Type 0} (before : Asking) (plan : Plan R) (after : Asking) (rest : Plan R) : Type 0 where
  pub same : onto before plan ≡ onto after rest

-- what a call for a part of a plan finds is what the plan goes on with, or the part ends the plan
abbrev pub Finds : {A : Type 0} → Asking → ((A → Plan Ending) → Plan Ending) → Asking → Result A Stop → Type 0
Finds {A} before part after (Ok value) = (next : A → Plan Ending) → Leads before (part next) after (next value)
Finds {A} before part after (Err (Refused refusal)) = (next : A → Plan Ending) → Leads before (part next) after (Done (Err refusal))
Finds before part after (Err NoMemory) = ⊤

-- the same of a part that only lets the plan go on
abbrev pub Passes : Asking → (Plan Ending → Plan Ending) → Asking → Result (Unit {0}) Stop → Type 0
Passes before part after (Ok done) = (good : Plan Ending) → Leads before (part good) after good
Passes before part after (Err (Refused refusal)) = (good : Plan Ending) → Leads before (part good) after (Done (Err refusal))
Passes before part after (Err NoMemory) = ⊤

-- what a call gives is the end of the plan
abbrev pub Ends : {A : Type 0} → Asking → Plan (Result A Refusal) → Asking → Result A Stop → Type 0
Ends before plan after (Ok value) = Leads before plan after (Done (Ok value))
Ends before plan after (Err (Refused refusal)) = Leads before plan after (Done (Err refusal))
Ends before plan after (Err NoMemory) = ⊤

-- lent bytes as bytes
abbrev pub lent : Result (Bor (List ℕ)) Stop → Result (List ℕ) Stop
lent (Ok bytes) = Ok bytes.now
lent (Err stop) = Err stop

-- the names of an answer
abbrev pub names_in : Answer → List (List ℕ × Kind)
names_in (Names names) = names
names_in other = []

abbrev pub names_if : Option Read → List (List ℕ × Kind)
names_if None = []
names_if (Some read) = names_in read.answer

-- the names that were answered last
abbrev pub last_names : List Read → List (List ℕ × Kind)
last_names reads = names_if (slice_get reads (length reads - 1))

-- they are what a call gives that has asked for them
abbrev pub with_names : List Read → Result (Unit {0}) Stop → Result (List (List ℕ × Kind)) Stop
with_names reads (Ok done) = Ok (last_names reads)
with_names reads (Err stop) = Err stop

-- a question was asked, and what the call gives is made of the answer
abbrev pub Answered : {A : Type 0} → Asking → Question → Asking → Result A Stop → (Answer → Result A Refusal) → Type 0
Answered before question after (Ok value) made = (after ≡ asked before question) × (made (answer_of before.tree.now question) ≡ Ok value)
Answered before question after (Err (Refused refusal)) made =
    (after ≡ asked before question) × (made (answer_of before.tree.now question) ≡ Err refusal)
Answered before question after (Err NoMemory) made = ⊤
