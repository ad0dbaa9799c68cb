-- Acts in turn: each read with the tree of its turn, and the first that differs there.
use Rattle.std.specs.Prelude.{◌≡◌, ◌⊎◌, ℕ, suc, ◌+◌, List, [], ◌∷◌, ◌++◌, map, length}
use Rattle.iot_tree.specs.Tree.{Nodes}
use Rattle.iot_tree.specs.Questions.{answer_of}
use Rattle.iot_tree.specs.declared.acts.Act.{Act}
use Rattle.iot_tree.specs.declared.acts.Read.{Read}
use Rattle.iot_tree.specs.declared.questions.Answer.{Answer}
use Rattle.iot_acts.specs.Traces.{ReadsHold, FitsIfAny, after_update}

-- all reads of these acts, in order
abbrev pub reads_of : List Act → List Read
reads_of [] = []
reads_of (act ∷ acts) = act.reads ++ reads_of acts

-- each read with the tree of its turn: the given one after the updates of the acts before
abbrev pub turns : Nodes → List Act → List (Nodes × Read)
turns t [] = []
turns t (act ∷ acts) = map (λ read. (t, read)) act.reads ++ turns (after_update t act.update) acts

-- the read is the tree's answer
abbrev pub Answers : Nodes → Read → Type 0
Answers t read = answer_of t read.question ≡ read.answer

-- each read is the answer of the tree of its turn
abbrev pub AllAnswer : List (Nodes × Read) → Type 0
AllAnswer [] = Unit {0}
AllAnswer (turn ∷ turns) = Answers turn.0 turn.1 × AllAnswer turns

-- the first read that is not the answer of the tree of its turn has this place, counted from `from`
abbrev pub FirstDiffers : List (Nodes × Read) → ℕ → ℕ → Type 0
FirstDiffers [] from place = ⊥
FirstDiffers (turn ∷ turns) from place =
    ((¬ Answers turn.0 turn.1) × (place ≡ from)) ⊎ (Answers turn.0 turn.1 × FirstDiffers turns (suc from) place)

-- the first read that is not the answer of the tree of its turn has this place, counted from `from`, and that tree gives this answer
abbrev pub DiffersAt : List (Nodes × Read) → ℕ → ℕ → Answer → Type 0
DiffersAt [] from place answer = ⊥
DiffersAt (turn ∷ turns) from place answer =
    ((¬ Answers turn.0 turn.1) × (place ≡ from) × (answer ≡ answer_of turn.0 turn.1.question))
    ⊎ (Answers turn.0 turn.1 × DiffersAt turns (suc from) place answer)

-- the first of these reads that is not the tree's answer has this place, counted from `from`, and the tree gives this answer
abbrev pub ReadDiffers : Nodes → List Read → ℕ → ℕ → Answer → Type 0
ReadDiffers t reads from place answer = DiffersAt (map (λ read. (t, read)) reads) from place answer

-- a read differs in its turn, after updates that fit: this is its place, counted from `from`, and the answer of the tree of its turn
abbrev pub ActDiffers : Nodes → List Act → ℕ → ℕ → Answer → Type 0
ActDiffers t [] from place answer = ⊥
ActDiffers t (act ∷ acts) from place answer =
    ReadDiffers t act.reads from place answer
    ⊎ (ReadsHold t act.reads × FitsIfAny t act.update
    × ActDiffers (after_update t act.update) acts (length act.reads + from) place answer)

-- an update does not fit in its turn, after reads that hold
abbrev pub ActMisfits : Nodes → List Act → Type 0
ActMisfits t [] = ⊥
ActMisfits t (act ∷ acts) =
    ReadsHold t act.reads × ((¬ FitsIfAny t act.update) ⊎ (FitsIfAny t act.update × ActMisfits (after_update t act.update) acts))
