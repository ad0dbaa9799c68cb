-- Base reads of which each asks its question for the first time hold, or fail first at a place, exactly if all do, as far as the same
-- tree has given all their answers.
use Rattle.std.proofs.Common.{◌≡◌, ℕ, Bool, true, false, if◌then◌else◌, List, [], ◌∷◌, refl, sym, ap, subst, ◌∙◌, inl, inr}
use Rattle.std.specs.Ordering.{is_eq}
use Rattle.std.specs.declared.cmp.Ordering.{Ordering}
use Rattle.std.specs.declared.cmp.Ordering.TheVariants.{Less, Equal, Greater}
use Rattle.iot_text.specs.Paths.{path_cmp}
use Rattle.iot_text.proofs.PathsLaws.{path_same}
use Rattle.iot_tree.specs.Tree.{Nodes, Path}
use Rattle.iot_tree.specs.Questions.{answer_of}
use Rattle.iot_tree.specs.declared.questions.Question.{Question}
use Rattle.iot_tree.specs.declared.questions.Question.TheVariants.{Kind, Content, Names, Mode}
use Rattle.iot_acts.specs.Turns.{Answers}
use Rattle.iot_access.specs.Access.{FirstFails}
use Rattle.iot_access.specs.Asked.{cons_unless, first_asked, or_asked, same_question}
use Rattle.iot_access.specs.BaseReads.{Base}
use Rattle.iot_access.proofs.BaseReadsLaws.{BasesHold}

-- ---- questions

equal_of : (order : Ordering) → is_eq order ≡ true → order ≡ Equal
equal_of Less is = absurd cc
equal_of Equal is = refl
equal_of Greater is = absurd cc

paths_same : (p q : Path) → is_eq (path_cmp p q) ≡ true → p ≡ q
paths_same p q is = path_same p q (equal_of (path_cmp p q) is)

questions_same : (one other : Question) → same_question one other ≡ true → one ≡ other
questions_same (Kind p) (Kind q) is = ap Kind (paths_same p q is)
questions_same (Content p) (Content q) is = ap Content (paths_same p q is)
questions_same (Names p) (Names q) is = ap Names (paths_same p q is)
questions_same (Mode p) (Mode q) is = ap Mode (paths_same p q is)
questions_same one other is = absurd cc

or_same : (f g : Question → Bool) → ((q : Question) → f q ≡ g q) → (question other : Question)
    → or_asked f question other ≡ or_asked g question other
or_same f g same question other = ap (λ (b : Bool). if same_question question other then true else b) (same other)

-- it does not matter how it is told which were asked
pub same_asked : (f g : Question → Bool) → ((q : Question) → f q ≡ g q) → (bases : List Base) → first_asked f bases ≡ first_asked g bases
same_asked f g same [] = refl
same_asked f g same (base ∷ bases) =
    let question : Question = base.1.question in
    λ i. cons_unless (same question i) base
    (same_asked (or_asked f question) (or_asked g question) (or_same f g same question) bases i)

-- ---- one base read more

module _ (f g : Question → Bool) (base : Base) (rest : List Base) (noted : (q : Question) → g q ≡ or_asked f base.1.question q) where
  pub asked_first : f base.1.question ≡ false → base ∷ first_asked g rest ≡ first_asked f (base ∷ rest)
  asked_first is =
      ap (λ (bases : List Base). base ∷ bases) (same_asked g (or_asked f base.1.question) noted rest)
      ∙ sym (ap (λ (b : Bool). cons_unless b base (first_asked (or_asked f base.1.question) rest)) is)

-- ---- a tree on which those that were asked have the answers that they have on the other

abbrev Known : (before t : Nodes) → (Question → Bool) → Type 0
Known before t f = (q : Question) → f q ≡ true → answer_of t q ≡ answer_of before q

module _ (before t : Nodes) where
  known_more : (f : Question → Bool) (question : Question) → Known before t f → answer_of t question ≡ answer_of before question
      → Known before t (or_asked f question)
  known_more f question known here other is = by (same_question question other) refl is
    where
      by : (b : Bool) → same_question question other ≡ b → (if b then true else f other) ≡ true → answer_of t other ≡ answer_of before other
      by true same is = subst (λ (q : Question). answer_of t q ≡ answer_of before q) (questions_same question other same) here
      by false same is = known other is

  -- one that was asked before holds if the first one did
  again_holds : (f : Question → Bool) (base : Base) → Known before t f → Answers before base.1 → f base.1.question ≡ true
      → Answers t base.1
  again_holds f base known held is = known base.1.question is ∙ held

  first_known : (f : Question → Bool) (base : Base) → Known before t f → Answers before base.1 → Answers t base.1
      → Known before t (or_asked f base.1.question)
  first_known f base known held here = known_more f base.1.question known (here ∙ sym held)

  pub all_hold : (bases : List Base) (f : Question → Bool) → Known before t f → BasesHold before bases → BasesHold t (first_asked f bases)
      → BasesHold t bases
  all_hold [] f known held hold = tt
  all_hold (base ∷ bases) f known held hold =
      by (f base.1.question) refl
      (λ here. all_hold bases (or_asked f base.1.question) (first_known f base known held.0 here) held.1) hold
    where
      by : (b : Bool) → f base.1.question ≡ b
          → (Answers t base.1 → BasesHold t (first_asked (or_asked f base.1.question) bases) → BasesHold t bases)
          → BasesHold t (cons_unless b base (first_asked (or_asked f base.1.question) bases)) → BasesHold t (base ∷ bases)
      by true is rest hold = let here : Answers t base.1 = again_holds f base known held.0 is in (here, rest here hold)
      by false is rest hold = (hold.0, rest hold.0 hold.1)

  pub first_hold : (bases : List Base) (f : Question → Bool) → BasesHold t bases → BasesHold t (first_asked f bases)
  first_hold [] f hold = tt
  first_hold (base ∷ bases) f hold = by (f base.1.question) (first_hold bases (or_asked f base.1.question) hold.1)
    where
      by : (b : Bool) → BasesHold t (first_asked (or_asked f base.1.question) bases)
          → BasesHold t (cons_unless b base (first_asked (or_asked f base.1.question) bases))
      by true rest = rest
      by false rest = (hold.0, rest)

  pub first_fails : (bases : List Base) (f : Question → Bool) → Known before t f → BasesHold before bases → (place : ℕ)
      → FirstFails t (first_asked f bases) place → FirstFails t bases place
  first_fails [] f known held place fails = fails
  first_fails (base ∷ bases) f known held place fails =
      by (f base.1.question) refl
      (λ here. first_fails bases (or_asked f base.1.question) (first_known f base known held.0 here) held.1 place) fails
    where
      by : (b : Bool) → f base.1.question ≡ b
          → (Answers t base.1 → FirstFails t (first_asked (or_asked f base.1.question) bases) place → FirstFails t bases place)
          → FirstFails t (cons_unless b base (first_asked (or_asked f base.1.question) bases)) place → FirstFails t (base ∷ bases) place
      by true is rest fails = let here : Answers t base.1 = again_holds f base known held.0 is in inr (here, rest here fails)
      by false is rest (inl here) = inl here
      by false is rest (inr later) = inr (later.0, rest later.0 later.1)

  pub all_fail : (bases : List Base) (f : Question → Bool) → Known before t f → BasesHold before bases → (place : ℕ)
      → FirstFails t bases place → FirstFails t (first_asked f bases) place
  all_fail [] f known held place fails = fails
  all_fail (base ∷ bases) f known held place fails =
      by (f base.1.question) refl
      (λ here. all_fail bases (or_asked f base.1.question) (first_known f base known held.0 here) held.1 place) fails
    where
      by : (b : Bool) → f base.1.question ≡ b
          → (Answers t base.1 → FirstFails t bases place → FirstFails t (first_asked (or_asked f base.1.question) bases) place)
          → FirstFails t (base ∷ bases) place → FirstFails t (cons_unless b base (first_asked (or_asked f base.1.question) bases)) place
      by true is rest (inl here) = absurd (here.0 (again_holds f base known held.0 is))
      by true is rest (inr later) = rest later.0 later.1
      by false is rest (inl here) = inl here
      by false is rest (inr later) = inr (later.0, rest later.0 later.1)

  -- at first none was asked
  pub none_known : Known before t (λ q. false)
  none_known q is = absurd cc
