-- The reads of a run part from those of the run on another tree where its acts differ there.
use Rattle.std.proofs.Common.{◌≡◌, ℕ, zero, suc, List, ◌++◌, map, refl, sym, ap, subst, ◌∙◌, inl, inr}
use Rattle.iot_tree.specs.Tree.{Nodes}
use Rattle.iot_tree.specs.Questions.{answer_of}
use Rattle.iot_tree.specs.declared.questions.Question.{Question}
use Rattle.iot_tree.specs.declared.questions.Answer.{Answer}
use Rattle.iot_tree.specs.declared.acts.Read.{Read}
use Rattle.iot_lang.specs.Code.{Code}
use Rattle.iot_acts.specs.Traces.{after_update}
use Rattle.iot_acts.specs.Turns.{reads_of, turns, DiffersAt}
use Rattle.iot_exec.specs.Plans.{Plan, Done, Ask, perform, Performed, Effect, with_read}
use Rattle.iot_exec.specs.Commands.{Kept}
use Rattle.iot_exec.specs.Runs.{run}
use Rattle.iot_exec.specs.Places.{Place, Over, At, start, plan_at, exec}
use Rattle.iot_exec.specs.declared.ran.Ran.{Ran}
use Rattle.iot_exec.proofs.PlaceLaws.{exec_from_start}
use Rattle.iot_exec.specs.Parting.{PartsAt, PartWhereTheyDiffer}

abbrev read_of : Question → Answer → Read
read_of question answer = record { question = question; answer = answer }

-- after the same answer a plan does the same if the rest of it does
joined : {R : Type 0} (question : Question) (more : Answer → Plan R) (t u : Nodes) → answer_of u question ≡ answer_of t question
    → perform u (more (answer_of t question)) ≡ perform t (more (answer_of t question))
    → perform u (Ask question more) ≡ perform t (Ask question more)
joined question more t u is same =
    ap (λ answer. with_read (read_of question answer) (perform u (more answer))) is
    ∙ ap (with_read (read_of question (answer_of t question))) same

-- if a read of a plan differs on another tree, the reads there part from its own; if none does, it does the same there
plan_parts : {R : Type 0} (plan : Plan R) (t u : Nodes) (here there : List Read) (later : List (Nodes × Read)) (from place : ℕ)
    (answer : Answer)
    → ((n : ℕ) → perform u plan ≡ perform t plan → DiffersAt later n place answer → PartsAt here there n place answer)
    → DiffersAt (map (λ read. (u, read)) (perform t plan).reads ++ later) from place answer
    → PartsAt ((perform t plan).reads ++ here) ((perform u plan).reads ++ there) from place answer
plan_parts (Done result) t u here there later from place answer next differs = next from refl differs
plan_parts (Ask question more) t u here there later from place answer next (inl this) =
    inl (ap (read_of question) (sym this.2), (λ same. this.0 (sym this.2 ∙ same)), this.1)
plan_parts (Ask question more) t u here there later from place answer next (inr rest) =
    let parts : PartsAt ((perform t (more (answer_of t question))).reads ++ here) ((perform u (more (answer_of t question))).reads ++ there)
    (suc from) place answer =
    plan_parts (more (answer_of t question)) t u here there later (suc from) place answer
    (λ n same. next n (joined question more t u rest.0 same)) rest.1 in
    inr (
      ap (read_of question) rest.0,
      subst
          (λ (given : Answer). PartsAt ((perform t (more (answer_of t question))).reads ++ here) ((perform u (more given)).reads ++ there)
          (suc from) place answer)
          (sym rest.0) parts,
    )

-- and back
plan_differs : {R : Type 0} (plan : Plan R) (t u : Nodes) (here there : List Read) (later : List (Nodes × Read)) (from place : ℕ)
    (answer : Answer)
    → ((n : ℕ) → perform u plan ≡ perform t plan → PartsAt here there n place answer → DiffersAt later n place answer)
    → PartsAt ((perform t plan).reads ++ here) ((perform u plan).reads ++ there) from place answer
    → DiffersAt (map (λ read. (u, read)) (perform t plan).reads ++ later) from place answer
plan_differs (Done result) t u here there later from place answer next parts = next from refl parts
plan_differs (Ask question more) t u here there later from place answer next (inl this) =
    let given : answer_of u question ≡ answer = ap (λ (read : Read). read.answer) this.0 in
    inl ((λ same. this.1 (sym given ∙ same)), this.2, sym given)
plan_differs (Ask question more) t u here there later from place answer next (inr rest) =
    let same_answer : answer_of u question ≡ answer_of t question = ap (λ (read : Read). read.answer) rest.0 in
    let parts : PartsAt ((perform t (more (answer_of t question))).reads ++ here) ((perform u (more (answer_of t question))).reads ++ there)
    (suc from) place answer =
    subst
    (λ (given : Answer). PartsAt ((perform t (more (answer_of t question))).reads ++ here) ((perform u (more given)).reads ++ there)
    (suc from) place answer)
    same_answer rest.1 in
    inr (
      same_answer,
      plan_differs (more (answer_of t question)) t u here there later (suc from) place answer
          (λ n same. next n (joined question more t u same_answer same)) parts,
    )

-- ---- from a place on

-- what is done after a plan was performed on a tree
abbrev after : Kept → ℕ → Nodes → Performed (Effect Place) → Ran
after kept n t done = exec kept n done.result.result (after_update t done.result.update)

exec_parts : (kept : Kept) (n : ℕ) (at : Place) (t u : Nodes) (from place : ℕ) (answer : Answer)
    → DiffersAt (turns u (exec kept n at t).acts) from place answer
    → PartsAt (reads_of (exec kept n at t).acts) (reads_of (exec kept n at u).acts) from place answer
exec_parts kept zero at t u from place answer differs = absurd differs
exec_parts kept (suc n) Over t u from place answer differs = absurd differs
exec_parts kept (suc n) (At code frames env) t u from place answer differs =
    let plan : Plan (Effect Place) = plan_at kept code frames env in
    let done : Performed (Effect Place) = perform t plan in
    plan_parts plan t u (reads_of (after kept n t done).acts) (reads_of (after kept n u (perform u plan)).acts)
    (turns (after_update u done.result.update) (after kept n t done).acts) from place answer
    (λ m same later. subst
    (λ (there : Performed (Effect Place)). PartsAt (reads_of (after kept n t done).acts) (reads_of (after kept n u there).acts) m place
    answer)
    (sym same)
    (exec_parts kept n done.result.result (after_update t done.result.update) (after_update u done.result.update) m place answer later))
    differs

exec_differs : (kept : Kept) (n : ℕ) (at : Place) (t u : Nodes) (from place : ℕ) (answer : Answer)
    → PartsAt (reads_of (exec kept n at t).acts) (reads_of (exec kept n at u).acts) from place answer
    → DiffersAt (turns u (exec kept n at t).acts) from place answer
exec_differs kept zero at t u from place answer parts = absurd parts
exec_differs kept (suc n) Over t u from place answer parts = absurd parts
exec_differs kept (suc n) (At code frames env) t u from place answer parts =
    let plan : Plan (Effect Place) = plan_at kept code frames env in
    let done : Performed (Effect Place) = perform t plan in
    plan_differs plan t u (reads_of (after kept n t done).acts) (reads_of (after kept n u (perform u plan)).acts)
    (turns (after_update u done.result.update) (after kept n t done).acts) from place answer
    (λ m same later. exec_differs kept n done.result.result (after_update t done.result.update) (after_update u done.result.update) m place
    answer
    (subst
    (λ (there : Performed (Effect Place)). PartsAt (reads_of (after kept n t done).acts) (reads_of (after kept n u there).acts) m
    place answer)
    same later))
    parts

-- the reads of the runs of a script on two trees part where the acts of the one differ on the other
pub run_parts : (script : Code) (kept : Kept) (t u : Nodes) (n : ℕ) → PartWhereTheyDiffer (run script kept t n) (run script kept u n) u
run_parts script kept t u n =
    subst (λ (here : Ran). PartWhereTheyDiffer here (run script kept u n) u) (exec_from_start kept script t n)
    (subst (λ (there : Ran). PartWhereTheyDiffer (exec kept n (start script) t) there u) (exec_from_start kept script u n)
    (λ place answer. (exec_parts kept n (start script) t u 1 place answer, exec_differs kept n (start script) t u 1 place answer)))

-- the same of a run that is that one
pub parts_is : (script : Code) (kept : Kept) (t u : Nodes) (budget : ℕ) (ran : Ran) → ran ≡ run script kept t budget
    → PartWhereTheyDiffer ran (run script kept u budget) u
parts_is script kept t u budget ran is =
    subst (λ (ran : Ran). PartWhereTheyDiffer ran (run script kept u budget) u) (sym is) (run_parts script kept t u budget)
