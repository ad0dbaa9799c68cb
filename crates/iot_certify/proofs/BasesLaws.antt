-- Base reads in turn, as they are lent: each read with its place.
use Rattle.std.proofs.Common.{◌≡◌, ◌↔◌, inl, inr, ℕ, Bool, false, IsTrue, subst, List, [], ◌∷◌, map, length, refl, ap, arith}
use Rattle.std.specs.List.{zip}
use Rattle.iot_tree.specs.Tree.{Nodes}
use Rattle.iot_tree.specs.Questions.{answer_of}
use Rattle.iot_tree.specs.declared.acts.Read.{Read}
use Rattle.iot_tree.specs.declared.questions.Answer.{Answer}
use Rattle.iot_acts.specs.Traces.{ReadsHold}
use Rattle.iot_acts.specs.Turns.{Answers}
use Rattle.iot_certify.specs.Verdicts.{FailsAt}

-- the reads of a list of base reads, and the base reads with their places first
abbrev pub firsts : List (Read × ℕ) → List Read
firsts bases = map (λ base. base.0) bases

abbrev pub turned : List (Read × ℕ) → List (ℕ × Read)
turned bases = map (λ base. (base.1, base.0)) bases

pub turned_zip : (reads : List Read) (places : List ℕ) → turned (zip reads places) ≡ zip places reads
turned_zip [] [] = refl
turned_zip [] (place ∷ places) = refl
turned_zip (read ∷ reads) [] = refl
turned_zip (read ∷ reads) (place ∷ places) = ap (λ (rest : List (ℕ × Read)). (place, read) ∷ rest) (turned_zip reads places)

pub firsts_zip : (reads : List Read) (places : List ℕ) → length places ≡ length reads → firsts (zip reads places) ≡ reads
firsts_zip [] [] even = refl
firsts_zip [] (place ∷ places) even = refl
firsts_zip (read ∷ reads) [] even = absurd (omega (arith, even))
firsts_zip (read ∷ reads) (place ∷ places) even =
    ap (λ (rest : List Read). read ∷ rest) (firsts_zip reads places (omega (arith, even)))

-- those before `left` hold: what fails first among the others fails first among all, and all hold exactly if the others do
pub record IsLeft (t : Nodes) (all left : List (Read × ℕ)) : Type 0 where
  pub fails : (place : ℕ) (answer : Answer) → FailsAt t (turned left) place answer → FailsAt t (turned all) place answer
  pub hold : ReadsHold t (firsts left) ↔ ReadsHold t (firsts all)

pub all_left : (t : Nodes) (all : List (Read × ℕ)) → IsLeft t all all
all_left t all = record { fails = λ place answer f. f; hold = ((λ h. h), (λ h. h)) }

pub one_fails : (t : Nodes) (all : List (Read × ℕ)) (base : Read × ℕ) (left : List (Read × ℕ)) → (¬ Answers t base.0)
    → IsLeft t all (base ∷ left)
    → FailsAt t (turned all) base.1 (answer_of t base.0.question) × (ReadsHold t (firsts all) → ⊥)
one_fails t all base left wrong is = (
  is.fails base.1 (answer_of t base.0.question) (inl (wrong, refl, refl)),
  (λ h. wrong (is.hold.1 h).0),
)

pub never : IsTrue false → ⊥
never e = cc

-- a test that failed
pub not_so : (test : Bool) (P : Type 0) → (IsTrue test ↔ P) → test ≡ false → P → ⊥
not_so test P tests is p = never (subst IsTrue is (tests.1 p))
