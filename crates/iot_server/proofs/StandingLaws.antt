-- What a store holds has a spelling, and so has each answer of its tree.
use Rattle.std.proofs.Common.{◌≡◌, ℕ, List, [], ◌∷◌, inl, inr, sym, subst}
use Rattle.std.specs.List.{zip}
use Rattle.iot_access.specs.BaseReads.{Base}
use Rattle.iot_certify.specs.Verdicts.{FailsAt, IsVerdictOnAccess}
use Rattle.iot_certify.specs.declared.verdict.Verdict.TheVariants.{Differs}
use Rattle.iot_views.specs.Rules.{IsAnswer}
use Rattle.iot_disk.specs.Disk.{Medium}
use Rattle.iot_limits.proofs.AnswerLaws.{tree_answers}
use Rattle.iot_limits.proofs.TreesLaws.{tree_spelled}
use Rattle.iot_limits.specs.Spelled.{IsSpelledTree}
use Rattle.iot_store.specs.Store.{IsSynced, state_of}
use Rattle.iot_store.specs.declared.store.Store.{Store}
use Rattle.iot_tree.specs.Tree.{Nodes}
use Rattle.iot_tree.specs.declared.access.Access.{Access}
use Rattle.iot_tree.specs.declared.questions.Answer.{Answer}

-- ---- a store under which nothing is under way

module _ {D : Type 0} (medium : Medium D) (store : Store D) (synced : IsSynced medium store) where
  pub store_spelled : IsSpelledTree (state_of store).tree
  store_spelled = tree_spelled (state_of store).tree synced.sound.tree

-- ---- answers

fails_answer : (bases : List Base) (t : Nodes) (place : ℕ) (answer : Answer) → IsSpelledTree t → FailsAt t bases place answer
    → IsAnswer answer
fails_answer [] t place answer spelled fails = absurd fails
fails_answer (base ∷ bases) t place answer spelled (inl here) = subst IsAnswer (sym here.2) (tree_answers t spelled base.1.question)
fails_answer (base ∷ bases) t place answer spelled (inr later) = fails_answer bases t place answer spelled later.1

pub verdict_answer : (t : Nodes) (access : Access) (place : ℕ) (answer : Answer) → IsSpelledTree t
    → IsVerdictOnAccess t access (Differs place answer) → IsAnswer answer
verdict_answer t access place answer spelled fails = fails_answer (zip access.places access.reads) t place answer spelled fails
