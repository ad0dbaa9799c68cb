-- What certification says.
use Rattle.std.specs.Prelude.{◌≡◌, ◌⊎◌, ◌≤◌, ℕ, zero, suc, ◌+◌, List, [], ◌∷◌, length, take}
use Rattle.std.specs.List.{zip}
use Rattle.iot_tree.specs.Tree.{Nodes}
use Rattle.iot_tree.specs.Questions.{answer_of}
use Rattle.iot_tree.specs.declared.access.Access.{Access}
use Rattle.iot_tree.specs.declared.acts.Act.{Act}
use Rattle.iot_tree.specs.declared.acts.Read.{Read}
use Rattle.iot_tree.specs.declared.questions.Answer.{Answer}
use Rattle.iot_tree.specs.declared.questions.Answer.TheVariants.{Away}
use Rattle.iot_acts.specs.Traces.{ReadsHold, ActsHold}
use Rattle.iot_acts.specs.Turns.{reads_of, turns, Answers, FirstDiffers, ActDiffers, ActMisfits}
use Rattle.iot_access.specs.BaseReads.{Base}
use Rattle.iot_certify.specs.declared.verdict.Verdict.{Verdict}
use Rattle.iot_certify.specs.declared.verdict.Verdict.TheVariants.{Holds, Differs}

-- the first of these reads that is not the tree's answer has this many others before it
abbrev pub IsFirstWrong : Nodes → List Read → ℕ → Type 0
IsFirstWrong t [] before = ⊥
IsFirstWrong t (read ∷ reads) zero = ¬ Answers t read
IsFirstWrong t (read ∷ reads) (suc before) = Answers t read × IsFirstWrong t reads before

-- the verdict on acts: they hold, or the first read that differs or the first update that does not fit decides;
-- an update that does not fit is told as a read after all those of the acts, whose answer is away
abbrev pub IsVerdictOnActs : Nodes → List Act → Verdict → Type 0
IsVerdictOnActs t acts Holds = ActsHold t acts
IsVerdictOnActs t acts (Differs read answer) =
    ActDiffers t acts 1 read answer ⊎ (ActMisfits t acts × (read ≡ length (reads_of acts) + 1) × (answer ≡ Away))

-- so many of the acts, from the first one on, hold on the tree, and no more do
pub record IsLongest (t : Nodes) (acts : List Act) (count : ℕ) : Type 0 where
  pub few : count ≤ length acts
  pub holds : ActsHold t (take count acts)
  pub most : (n : ℕ) → n ≤ length acts → ActsHold t (take n acts) → n ≤ count

-- if the verdict is that a read differs, then this is so of its place and of the answer
abbrev pub IfDiffers : Verdict → (ℕ → Answer → Type 0) → Type 0
IfDiffers Holds P = Unit {0}
IfDiffers (Differs read answer) P = P read answer

-- the first of these base reads that is not the tree's answer has this place, and the tree gives this answer
abbrev pub FailsAt : Nodes → List Base → ℕ → Answer → Type 0
FailsAt t [] place answer = ⊥
FailsAt t (base ∷ bases) place answer =
    ((¬ Answers t base.1) × (place ≡ base.0) × (answer ≡ answer_of t base.1.question))
    ⊎ (Answers t base.1 × FailsAt t bases place answer)

-- the verdict on an access: its base reads hold, or the first one that does not decides
abbrev pub IsVerdictOnAccess : Nodes → Access → Verdict → Type 0
IsVerdictOnAccess t access Holds = ReadsHold t access.reads
IsVerdictOnAccess t access (Differs read answer) = FailsAt t (zip access.places access.reads) read answer

-- the verdict is true of acts, as far as the place: they hold, or the first read that differs in its turn has this place
abbrev pub Judges : Nodes → List Act → Verdict → Type 0
Judges t acts Holds = ActsHold t acts
Judges t acts (Differs read answer) = FirstDiffers (turns t acts) 1 read

-- both verdicts are that all holds, or both are that a read of the same place differs
abbrev pub SamePlace : Verdict → Verdict → Type 0
SamePlace Holds Holds = Unit {0}
SamePlace Holds (Differs read answer) = ⊥
SamePlace (Differs read answer) Holds = ⊥
SamePlace (Differs read answer) (Differs other given) = read ≡ other
