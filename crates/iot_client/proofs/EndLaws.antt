-- What becomes of a running transaction that may be ended: it waits, or starts again.
use Rattle.std.proofs.Common.{◌≡◌, ◌↔◌, ◌≤◌, ◌<◌, ◌-◌, ℕ, suc, Bool, true, List, [], ◌∷◌, ◌++◌, map, length, Option, Some, None, slice_get}
use Rattle.std.proofs.Common.{refl, sym, ap, subst, ◌∙◌, inl, inr, arith}
use Rattle.std.proofs.lemmas.List.{map-append}
use Rattle.std.proofs.lemmas.Option.{slice_get_within}
use Rattle.std.specs.Prelude.{IsSomeAnd}
use Rattle.iot_acts.specs.Traces.{after_update}
use Rattle.iot_acts.specs.Turns.{reads_of, turns, DiffersAt}
use Rattle.iot_certify.specs.Verdicts.{IfDiffers}
use Rattle.iot_certify.specs.declared.verdict.Verdict.{Verdict}
use Rattle.iot_certify.specs.declared.verdict.Verdict.TheVariants as verdicts
use Rattle.iot_exec.specs.declared.ran.Ran.{Ran}
use Rattle.iot_tree.specs.Tree.{Nodes}
use Rattle.iot_tree.specs.declared.acts.Act.{Act}
use Rattle.iot_tree.specs.declared.acts.Read.{Read}
use Rattle.iot_tree.specs.declared.questions.Answer.{Answer}
use Rattle.iot_tree.specs.declared.questions.Question.{Question}
use Rattle.iot_changes.specs.declared.changes.Change.TheVariants.{Ended, Again}
use Rattle.iot_kept.specs.States.{Transaction, State, view}
use Rattle.iot_client.specs.Calls.{may_end, joining, starting, CutsOff, CutsOffEnd, Differs, EndIs, Notes}
use Rattle.iot_client.specs.Ties.{code_in, IsRunIfAny, state_of}
use Rattle.iot_client.specs.declared.client.Client.{Client}
use Rattle.iot_client.specs.declared.ended.Ended.TheVariants as ends
use Rattle.iot_client.specs.declared.interpreter.Interpreter.{Interpreter}
use Rattle.iot_client.proofs.StepsLaws.{whole_run}

-- ---- the read that differs

abbrev asked_in : List (Nodes × Read) → List Read
asked_in all = map (λ (turn : Nodes × Read). turn.1) all

-- it is one of those that were asked
record IsAsked (all : List Read) (from place : ℕ) : Type 0 where
  asked : Read
  least : from ≤ place
  at : slice_get all (place - from) ≡ Some asked

one_asked : (all : List (Nodes × Read)) (from place : ℕ) (answer : Answer) → DiffersAt all from place answer
    → IsAsked (asked_in all) from place
one_asked [] from place answer differs = absurd differs
one_asked (turn ∷ all) from place answer (inl here) =
    let none : place - from ≡ 0 = omega (arith, here.1) in
    record {
      asked = turn.1;
      least = omega (arith, here.1);
      at = ap (slice_get (turn.1 ∷ asked_in all)) none;
    }
one_asked (turn ∷ all) from place answer (inr later) =
    let rest : IsAsked (asked_in all) (suc from) place = one_asked all (suc from) place answer later.1 in
    let least : suc from ≤ place = rest.least in
    let next : place - from ≡ suc (place - suc from) = omega (arith, least) in
    record {
      asked = rest.asked;
      least = omega (arith, least);
      at = ap (slice_get (turn.1 ∷ asked_in all)) next ∙ rest.at;
    }

own_reads : (t : Nodes) (reads : List Read) → asked_in (map (λ read. (t, read)) reads) ≡ reads
own_reads t [] = refl
own_reads t (read ∷ reads) = ap (λ (later : List Read). read ∷ later) (own_reads t reads)

all_asked : (acts : List Act) (t : Nodes) → asked_in (turns t acts) ≡ reads_of acts
all_asked [] t = refl
all_asked (act ∷ acts) t =
    map-append (λ (turn : Nodes × Read). turn.1) (map (λ read. (t, read)) act.reads) (turns (after_update t act.update) acts)
    ∙ (λ k. own_reads t act.reads k ++ all_asked acts (after_update t act.update) k)

module _ (t : Nodes) (acts : List Act) (place : ℕ) (answer : Answer) (differs : DiffersAt (turns t acts) 1 place answer) where
  one : IsAsked (reads_of acts) 1 place
  one = subst (λ (reads : List Read). IsAsked reads 1 place) (all_asked acts t) (one_asked (turns t acts) 1 place answer differs)

  pub asked_first : 1 ≤ place
  asked_first = one.least

  pub asked_within : place - 1 < length (reads_of acts)
  asked_within = slice_get_within (reads_of acts) (place - 1) one.asked one.at

  -- with what it asked
  pub differs_there : (it : Transaction) (question : Question) → it.acts ≡ acts
      → ((read : Read) → slice_get (reads_of acts) (place - 1) ≡ Some read → question ≡ read.question) → Differs t it place question
  differs_there it question same is = record {
    asked = one.asked;
    answer = answer;
    at = ap (λ (acts : List Act). slice_get (reads_of acts) (place - 1)) same ∙ one.at;
    is = is one.asked one.at;
    differs = subst (λ (acts : List Act). DiffersAt (turns t acts) 1 place answer) (sym same) differs;
  }

-- ---- verdicts

pub holds_by : (verdict : Verdict) (P : Type 0) → verdict ≡ verdicts.Holds → (verdict ≡ verdicts.Holds ↔ P) → P
holds_by verdict P is exactly = exactly.0 is

holds_not : (place : ℕ) (answer : Answer) → ◌≡◌ {A = Verdict} (verdicts.Differs place answer) verdicts.Holds → ⊥
holds_not place answer is = cc

pub differs_by : (verdict : Verdict) (place : ℕ) (answer : Answer) (P : Type 0) → verdict ≡ verdicts.Differs place answer
    → (verdict ≡ verdicts.Holds ↔ P) → P → ⊥
differs_by verdict place answer P is exactly holds = holds_not place answer (sym is ∙ exactly.1 holds)

pub differs_at : (verdict : Verdict) (place : ℕ) (answer : Answer) (P : ℕ → Answer → Type 0) → verdict ≡ verdicts.Differs place answer
    → IfDiffers verdict P → P place answer
differs_at verdict place answer P is differs = subst (λ (v : Verdict). IfDiffers v P) is differs

-- ---- what is told

abbrev MayEnd : Transaction → Option Interpreter → Type 0
MayEnd it i = IsSomeAnd (code_in i) (λ code. may_end it code ≡ true)

pub joins : {D : Type 0} (old new : Client D) (it : Transaction) (first : Bool) (i : Option Interpreter) (tid : ℕ) (class : Bool)
    → IsRunIfAny it i → MayEnd it i → Notes (Ended it.number) old new → tid ≡ it.number → class ≡ first
    → IsSomeAnd (code_in i) (λ code. EndIs old it first code (ends.Joined tid class) new)
joins old new it first None tid class runs may notes number same = absurd may
joins old new it first (Some i) tid class runs may notes number same =
    let ran = whole_run it i runs may in (
      number,
      same,
      record {
        notes = notes;
        whole_acts = sym (ap (λ (ran : Ran). ran.acts) ran);
        whole_tree = sym (ap (λ (ran : Ran). ran.tree) ran);
        may = may;
      },
    )

pub starts_again : {D : Type 0} (old new : Client D) (it : Transaction) (first : Bool) (i : Option Interpreter) (place : ℕ)
    (question : Question) → MayEnd it i → Notes (Again it.number) old new → Differs (view (state_of old)) it place question
    → IsSomeAnd (code_in i) (λ code. EndIs old it first code (ends.Again place question) new)
starts_again old new it first None place question may notes differs = absurd may
starts_again old new it first (Some i) place question may notes differs = record { notes = notes; differs = differs; may = may }

pub joining_cut : (it : Transaction) (i : Option Interpreter) (state : State) (records : ℕ) (images : List ℕ → Type 0) → MayEnd it i
    → CutsOff (Ended it.number) state records images → IsSomeAnd (code_in i) (λ code. CutsOffEnd it code state records images)
joining_cut it None state records images may cuts = absurd may
joining_cut it (Some i) state records images may cuts = joining may cuts

pub starting_cut : (it : Transaction) (i : Option Interpreter) (state : State) (records : ℕ) (images : List ℕ → Type 0) (place : ℕ)
    (question : Question) → MayEnd it i → Differs (view state) it place question → CutsOff (Again it.number) state records images
    → IsSomeAnd (code_in i) (λ code. CutsOffEnd it code state records images)
starting_cut it None state records images place question may differs cuts = absurd may
starting_cut it (Some i) state records images place question may differs cuts = starting place question may differs cuts
