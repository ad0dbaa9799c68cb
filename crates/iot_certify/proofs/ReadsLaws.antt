-- Reads on one tree, up to the first that is not its answer.
use Rattle.std.proofs.Common.{◌≡◌, ℕ, zero, suc, ◌+◌, ◌<◌, List, [], ◌∷◌, length, get_or, Option, Some, None, MatchOption}
use Rattle.std.proofs.Common.{ap, inl, inr, arith}
use Rattle.std.specs.List.{zip, AllWithin, HoldsAt}
use Rattle.iot_tree.specs.Tree.{Nodes}
use Rattle.iot_tree.specs.Questions.{answer_of}
use Rattle.iot_tree.specs.declared.acts.Read.{Read}
use Rattle.iot_acts.specs.Traces.{ReadsHold}
use Rattle.iot_acts.specs.Turns.{Answers, ReadDiffers}
use Rattle.iot_certify.specs.Verdicts.{IsFirstWrong, FailsAt}

-- each read is the tree's answer
all_hold : (t : Nodes) (reads : List Read) → AllWithin (Answers t) reads 0 (length reads) → ReadsHold t reads
all_hold t [] all = tt
all_hold t (read ∷ reads) all =
    (all 0 read (omega arith) (omega arith), all_hold t reads (λ k d low lt. all (suc k) d (omega arith) (omega (arith, lt))))

-- after reads that are the tree's answers this one is not
first_at : (t : Nodes) (reads : List Read) (i : ℕ) → i < length reads → HoldsAt (λ read. ¬ Answers t read) reads i
    → AllWithin (Answers t) reads 0 i → IsFirstWrong t reads i
first_at t [] i lt wrong before = absurd (omega (arith, lt))
first_at t (read ∷ reads) zero lt wrong before = wrong read
first_at t (read ∷ reads) (suc i) lt wrong before = (
  before 0 read (omega arith) (omega arith),
  first_at t reads i (omega (arith, lt)) wrong (λ k d low below. before (suc k) d (omega arith) (omega (arith, below))),
)

-- the first read that is not the tree's answer, or none is
pub first_of : (t : Nodes) (reads : List Read) (found : Option ℕ)
    → MatchOption found (AllWithin (Answers t) reads 0 (length reads))
    (λ i. (i < length reads) × HoldsAt (λ read. ¬ Answers t read) reads i × AllWithin (Answers t) reads 0 i)
    → MatchOption found (ReadsHold t reads) (IsFirstWrong t reads)
first_of t reads None all = all_hold t reads all
first_of t reads (Some i) found = first_at t reads i found.0 found.1 found.2

-- then the reads do not hold
pub wrong_not : (t : Nodes) (reads : List Read) (i : ℕ) → IsFirstWrong t reads i → ReadsHold t reads → ⊥
wrong_not t [] i wrong hold = wrong
wrong_not t (read ∷ reads) zero wrong hold = wrong hold.0
wrong_not t (read ∷ reads) (suc i) wrong hold = wrong_not t reads i wrong.1 hold.1

-- the first read that is wrong differs at its place
pub wrong_differs : (t : Nodes) (reads : List Read) (i from place : ℕ) (read : Read) → IsFirstWrong t reads i → read ≡ get_or reads i read
    → place ≡ i + from → ReadDiffers t reads from place (answer_of t read.question)
wrong_differs t [] i from place read wrong is place_is = absurd wrong
wrong_differs t (first ∷ reads) zero from place read wrong is place_is =
    inl (wrong, omega (arith, place_is), ap (λ (read : Read). answer_of t read.question) is)
wrong_differs t (first ∷ reads) (suc i) from place read wrong is place_is =
    inr (wrong.0, wrong_differs t reads i (suc from) place read wrong.1 is (omega (arith, place_is)))

-- the first base read that is wrong fails at its place
pub wrong_fails : (t : Nodes) (places : List ℕ) (reads : List Read) (i d place : ℕ) (read : Read) → length places ≡ length reads
    → IsFirstWrong t reads i → read ≡ get_or reads i read → place ≡ get_or places i d
    → FailsAt t (zip places reads) place (answer_of t read.question)
wrong_fails t places [] i d place read even wrong is place_is = absurd wrong
wrong_fails t [] (first ∷ reads) i d place read even wrong is place_is = absurd (omega (arith, even))
wrong_fails t (here ∷ places) (first ∷ reads) zero d place read even wrong is place_is =
    inl (wrong, place_is, ap (λ (read : Read). answer_of t read.question) is)
wrong_fails t (here ∷ places) (first ∷ reads) (suc i) d place read even wrong is place_is =
    inr (wrong.0, wrong_fails t places reads i d place read (omega (arith, even)) wrong.1 is place_is)
