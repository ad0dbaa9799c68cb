-- Where a run and the run of the same script on another tree part.
use Rattle.std.specs.Prelude.{◌≡◌, ◌≢◌, ◌↔◌, ◌⊎◌, ℕ, suc, List, [], ◌∷◌}
use Rattle.iot_tree.specs.Tree.{Nodes}
use Rattle.iot_tree.specs.declared.acts.Read.{Read}
use Rattle.iot_tree.specs.declared.questions.Answer.{Answer}
use Rattle.iot_acts.specs.Turns.{reads_of, turns, DiffersAt}
use Rattle.iot_exec.specs.declared.ran.Ran.{Ran}

-- the reads here and there are the same before this place, counted from `from`; at it both ask the same question, and there this
-- is the answer, another one than here
abbrev pub PartsAt : List Read → List Read → ℕ → ℕ → Answer → Type 0
PartsAt [] there from place answer = ⊥
PartsAt (read ∷ here) [] from place answer = ⊥
PartsAt (read ∷ here) (other ∷ there) from place answer =
    ((other ≡ record { question = read.question; answer = answer }) × (answer ≢ read.answer) × (place ≡ from))
    ⊎ ((other ≡ read) × PartsAt here there (suc from) place answer)

-- the reads of two runs part where the acts of the first one differ in turn on the tree of the other
abbrev pub PartWhereTheyDiffer : Ran → Ran → Nodes → Type 0
PartWhereTheyDiffer here there u =
    (place : ℕ) (answer : Answer) → DiffersAt (turns u here.acts) 1 place answer
    ↔ PartsAt (reads_of here.acts) (reads_of there.acts) 1 place answer
