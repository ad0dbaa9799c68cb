-- Verdicts on base reads beside those on acts.
use Rattle.std.proofs.Common.{◌≡◌, ◌↔◌, ℕ, suc, List, [], ◌∷◌, length, refl, sym, ◌∙◌, inl, inr, arith}
use Rattle.std.specs.List.{zip}
use Rattle.iot_tree.specs.Tree.{Nodes, IsTree}
use Rattle.iot_tree.specs.declared.access.Access.{Access}
use Rattle.iot_tree.specs.declared.acts.Act.{Act}
use Rattle.iot_tree.specs.declared.acts.Read.{Read}
use Rattle.iot_tree.specs.declared.questions.Answer.{Answer}
use Rattle.iot_acts.specs.Traces.{ReadsHold}
use Rattle.iot_acts.specs.Turns.{turns, FirstDiffers, DiffersAt}
use Rattle.iot_acts.specs.Guards.{AllGuarded}
use Rattle.iot_access.specs.BaseReads.{Base}
use Rattle.iot_access.specs.Access.{FirstFails, TakesPlace}
use Rattle.iot_certify.specs.Verdicts.{FailsAt, IsVerdictOnAccess, IsVerdictOnActs, Judges, SamePlace}
use Rattle.iot_certify.specs.declared.verdict.Verdict.{Verdict}
use Rattle.iot_certify.specs.declared.verdict.Verdict.TheVariants.{Holds, Differs}
use Rattle.iot_certify.proofs.WalkLaws.{differs_not, holds_exactly, guarded_differs}

fails_not : (t : Nodes) (places : List ℕ) (reads : List Read) (place : ℕ) (answer : Answer) → length places ≡ length reads
    → FailsAt t (zip places reads) place answer → ReadsHold t reads → ⊥
fails_not t [] [] place answer even fails hold = fails
fails_not t [] (read ∷ reads) place answer even fails hold = absurd (omega (arith, even))
fails_not t (first ∷ places) [] place answer even fails hold = absurd (omega (arith, even))
fails_not t (first ∷ places) (read ∷ reads) place answer even (inl here) hold = here.0 hold.0
fails_not t (first ∷ places) (read ∷ reads) place answer even (inr later) hold =
    fails_not t places reads place answer (omega (arith, even)) later.1 hold.1

-- the verdict is that all holds exactly if the base reads hold
pub reads_exactly : (t : Nodes) (access : Access) (verdict : Verdict) → length access.places ≡ length access.reads
    → IsVerdictOnAccess t access verdict → (verdict ≡ Holds) ↔ ReadsHold t access.reads
reads_exactly t access Holds even is = ((λ _. is), (λ _. refl))
reads_exactly t access (Differs read answer) even is = (
  (λ same. absurd (differs_not read answer same)),
  (λ hold. absurd (fails_not t access.places access.reads read answer even is hold)),
)

fails_first : (t : Nodes) (bases : List Base) (place : ℕ) (answer : Answer) → FailsAt t bases place answer → FirstFails t bases place
fails_first t [] place answer fails = fails
fails_first t (base ∷ bases) place answer (inl here) = inl (here.0, here.1)
fails_first t (base ∷ bases) place answer (inr later) = inr (later.0, fails_first t bases place answer later.1)

-- the access of acts is judged as the acts are
pub judges : (t : Nodes) (access : Access) (acts : List Act) (verdict : Verdict)
    → TakesPlace access.reads access.places access.updates acts t → IsVerdictOnAccess t access verdict → Judges t acts verdict
judges t access acts Holds takes is = takes.exactly.0 is
judges t access acts (Differs read answer) takes is =
    (takes.first read).0 (fails_first t (zip access.places access.reads) read answer is)

-- ---- the place alone

differs_first : (turns : List (Nodes × Read)) (from place : ℕ) (answer : Answer) → DiffersAt turns from place answer
    → FirstDiffers turns from place
differs_first [] from place answer differs = differs
differs_first (turn ∷ turns) from place answer (inl here) = inl (here.0, here.1)
differs_first (turn ∷ turns) from place answer (inr later) =
    inr (later.0, differs_first turns (suc from) place answer later.1)

one_place : (turns : List (Nodes × Read)) (from a b : ℕ) → FirstDiffers turns from a → FirstDiffers turns from b → a ≡ b
one_place [] from a b one two = absurd one
one_place (turn ∷ turns) from a b (inl one) (inl two) = one.1 ∙ sym two.1
one_place (turn ∷ turns) from a b (inl one) (inr two) = absurd (one.0 two.0)
one_place (turn ∷ turns) from a b (inr one) (inl two) = absurd (two.0 one.0)
one_place (turn ∷ turns) from a b (inr one) (inr two) = one_place turns (suc from) a b one.1 two.1

-- the verdict on the access of guarded acts and the verdict on the acts have the same place
pub same_place : (t : Nodes) (access : Access) (acts : List Act) (one two : Verdict) → length access.places ≡ length access.reads
    → IsTree t → AllGuarded acts → TakesPlace access.reads access.places access.updates acts t → IsVerdictOnAccess t access one
    → IsVerdictOnActs t acts two → SamePlace one two
same_place t access acts Holds Holds even tree guarded takes first second = tt
same_place t access acts Holds (Differs other given) even tree guarded takes first second =
    differs_not other given ((holds_exactly t acts (Differs other given) second).1 (takes.exactly.0 first))
same_place t access acts (Differs read answer) Holds even tree guarded takes first second =
    fails_not t access.places access.reads read answer even first (takes.exactly.1 second)
same_place t access acts (Differs read answer) (Differs other given) even tree guarded takes first second =
    one_place (turns t acts) 1 read other (judges t access acts (Differs read answer) takes first)
    (differs_first (turns t acts) 1 other given (guarded_differs t acts (Differs other given) tree guarded second))
