-- Acts that are taken in turn.
use Rattle.std.proofs.Common.{◌≡◌, ◌↔◌, ℕ, suc, ◌+◌, ◌<◌, List, [], ◌∷◌, ◌++◌, map, length, drop, get_or, refl, sym, ap, subst}
use Rattle.std.proofs.Common.{◌∙◌, inl, inr, arith}
use Rattle.std.proofs.lemmas.List.{drop_more}
use Rattle.iot_tree.specs.Tree.{Nodes, IsTree}
use Rattle.iot_tree.specs.Questions.{answer_of}
use Rattle.iot_tree.specs.declared.acts.Act.{Act}
use Rattle.iot_tree.specs.declared.acts.Read.{Read}
use Rattle.iot_tree.specs.declared.questions.Answer.{Answer}
use Rattle.iot_acts.specs.Traces.{ReadsHold, ActsHold, after_update}
use Rattle.iot_acts.specs.Turns.{turns, DiffersAt, ReadDiffers, ActDiffers, ActMisfits}
use Rattle.iot_acts.specs.Guards.{AllGuarded}
use Rattle.iot_acts.proofs.GuardLaws.{guarded_fits}
use Rattle.iot_acts.proofs.TraceLaws.{tree_after}
use Rattle.iot_certify.specs.Verdicts.{IsFirstWrong, IsVerdictOnActs, IfDiffers}
use Rattle.iot_certify.specs.declared.verdict.Verdict.{Verdict}
use Rattle.iot_certify.specs.declared.verdict.Verdict.TheVariants.{Holds, Differs}
use Rattle.iot_certify.proofs.ReadsLaws.{wrong_differs}

-- the acts that are left decide on their tree as all do
pub record Walked (t : Nodes) (acts : List Act) (u : Nodes) (rest : List Act) (place : ℕ) : Type 0 where
  pub holds : ActsHold u rest → ActsHold t acts
  pub differs : (found : ℕ) (answer : Answer) → ActDiffers u rest place found answer → ActDiffers t acts 1 found answer
  pub misfits : ActMisfits u rest → ActMisfits t acts

-- the first read of the next act that is wrong decides
module _ (t u : Nodes) (acts : List Act) (i place : ℕ) (act : Act) (reads : List Read) (lt : i < length acts) where
  pub walked_wrong : act ≡ get_or acts i act → reads ≡ act.reads → Walked t acts u (drop i acts) place → (at found : ℕ) (read : Read)
      (verdict : Verdict) → IsFirstWrong u reads at → read ≡ get_or reads at read → found ≡ at + place
      → verdict ≡ Differs found (answer_of u read.question) → IsVerdictOnActs t acts verdict
  walked_wrong is same walked at found read verdict wrong read_is found_is verdict_is =
      let cut : drop i acts ≡ act ∷ drop (i + 1) acts =
      drop_more acts i act lt ∙ ap (λ (next : Act). next ∷ drop (i + 1) acts) (sym is) in
      let rest : Walked t acts u (act ∷ drop (i + 1) acts) place = subst (λ (rest : List Act). Walked t acts u rest place) cut walked in
      subst (IsVerdictOnActs t acts) (sym verdict_is)
      (inl (rest.differs found (answer_of u read.question)
      (inl (subst (λ (reads : List Read). ReadDiffers u reads place found (answer_of u read.question)) same
      (wrong_differs u reads at place found read wrong read_is found_is)))))

-- ---- what the verdict says

reads_differ_not : (t : Nodes) (reads : List Read) (from place : ℕ) (answer : Answer) → ReadDiffers t reads from place answer
    → ReadsHold t reads → ⊥
reads_differ_not t [] from place answer differs hold = differs
reads_differ_not t (read ∷ reads) from place answer (inl here) hold = here.0 hold.0
reads_differ_not t (read ∷ reads) from place answer (inr later) hold = reads_differ_not t reads (suc from) place answer later.1 hold.1

acts_differ_not : (acts : List Act) (t : Nodes) (from place : ℕ) (answer : Answer) → ActDiffers t acts from place answer
    → ActsHold t acts → ⊥
acts_differ_not [] t from place answer differs hold = differs
acts_differ_not (act ∷ acts) t from place answer (inl here) hold = reads_differ_not t act.reads from place answer here hold.0
acts_differ_not (act ∷ acts) t from place answer (inr later) hold =
    acts_differ_not acts (after_update t act.update) (length act.reads + from) place answer later.2 hold.2

acts_misfit_not : (acts : List Act) (t : Nodes) → ActMisfits t acts → ActsHold t acts → ⊥
acts_misfit_not [] t misfits hold = misfits
acts_misfit_not (act ∷ acts) t misfits hold = elim misfits.1 [
  | inl unfit ↦ unfit hold.1
  | inr later ↦ acts_misfit_not acts (after_update t act.update) later.1 hold.2
]

pub differs_not : (read : ℕ) (answer : Answer) → ◌≡◌ {A = Verdict} (Differs read answer) Holds → ⊥
differs_not read answer is = cc

-- the verdict is that all holds exactly if the acts hold
pub holds_exactly : (t : Nodes) (acts : List Act) (verdict : Verdict) → IsVerdictOnActs t acts verdict → (verdict ≡ Holds) ↔ ActsHold t acts
holds_exactly t acts Holds is = ((λ _. is), (λ _. refl))
holds_exactly t acts (Differs read answer) (inl differs) =
    ((λ is. absurd (differs_not read answer is)), (λ hold. absurd (acts_differ_not acts t 1 read answer differs hold)))
holds_exactly t acts (Differs read answer) (inr misfits) =
    ((λ is. absurd (differs_not read answer is)), (λ hold. absurd (acts_misfit_not acts t misfits.0 hold)))

-- ---- guarded acts

differs_here : (t : Nodes) (reads : List Read) (later : List (Nodes × Read)) (from place : ℕ) (answer : Answer)
    → ReadDiffers t reads from place answer → DiffersAt (map (λ read. (t, read)) reads ++ later) from place answer
differs_here t [] later from place answer differs = absurd differs
differs_here t (read ∷ reads) later from place answer (inl here) = inl here
differs_here t (read ∷ reads) later from place answer (inr rest) =
    inr (rest.0, differs_here t reads later (suc from) place answer rest.1)

differs_later : (t : Nodes) (reads : List Read) (later : List (Nodes × Read)) (from place : ℕ) (answer : Answer) → ReadsHold t reads
    → DiffersAt later (length reads + from) place answer → DiffersAt (map (λ read. (t, read)) reads ++ later) from place answer
differs_later t [] later from place answer hold differs = subst (λ (n : ℕ). DiffersAt later n place answer) (zero_more from) differs
  where
    zero_more : (n : ℕ) → 0 + n ≡ n
    zero_more n = omega arith
differs_later t (read ∷ reads) later from place answer hold differs =
    inr (
      hold.0,
      differs_later t reads later (suc from) place answer hold.1
          (subst (λ (n : ℕ). DiffersAt later n place answer) (next (length reads) from) differs),
    )
  where
    next : (a n : ℕ) → suc a + n ≡ a + suc n
    next a n = omega arith

-- a read that differs, after updates that fit, is the first one that differs in its turn
acts_differ_at : (acts : List Act) (t : Nodes) (from place : ℕ) (answer : Answer) → ActDiffers t acts from place answer
    → DiffersAt (turns t acts) from place answer
acts_differ_at [] t from place answer differs = absurd differs
acts_differ_at (act ∷ acts) t from place answer (inl here) =
    differs_here t act.reads (turns (after_update t act.update) acts) from place answer here
acts_differ_at (act ∷ acts) t from place answer (inr later) =
    differs_later t act.reads (turns (after_update t act.update) acts) from place answer later.0
    (acts_differ_at acts (after_update t act.update) (length act.reads + from) place answer later.2)

-- the updates of guarded acts fit, after reads that hold
all_fit : (acts : List Act) (t : Nodes) → IsTree t → AllGuarded acts → ActMisfits t acts → ⊥
all_fit [] t tree guarded misfits = misfits
all_fit (act ∷ acts) t tree guarded misfits = elim misfits.1 [
  | inl unfit ↦ unfit (guarded_fits t tree act.reads misfits.0 act.update guarded.0)
  | inr later ↦ all_fit acts (after_update t act.update) (tree_after t act.update tree later.0) guarded.1 later.1
]

-- for guarded acts the first read that differs in its turn decides
pub guarded_differs : (t : Nodes) (acts : List Act) (verdict : Verdict) → IsTree t → AllGuarded acts → IsVerdictOnActs t acts verdict
    → IfDiffers verdict (DiffersAt (turns t acts) 1)
guarded_differs t acts Holds tree guarded is = tt
guarded_differs t acts (Differs read answer) tree guarded (inl differs) = acts_differ_at acts t 1 read answer differs
guarded_differs t acts (Differs read answer) tree guarded (inr misfits) = absurd (all_fit acts t tree guarded misfits.0)
