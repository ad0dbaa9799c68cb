-- Transactions that run after a checkpoint, one after the other.
use Rattle.std.proofs.Common.{◌≡◌, List, [], ◌∷◌, ◌++◌, map, sym, ap, subst, ◌∙◌, append_assoc}
use Rattle.std.proofs.Common.{append-nil}
use Rattle.std.specs.List.{AllByRecursion}
use Rattle.iot_bodies.specs.declared.client.Running.{Running as Spelled}
use Rattle.iot_kept.specs.Memory.{transaction, transactions}
use Rattle.iot_kept.specs.Reading.{IsResumed, SuitOwn, transaction_from}
use Rattle.iot_kept.specs.States.{Transaction}
use Rattle.iot_kept.specs.declared.running.Running.{Running}
use Rattle.iot_kept.proofs.PlaceLaws.{one_more, transactions_more}

-- those that were made, and the ones that are left, are all
pub record OnResume (all : List Spelled) (made : List Running) (left : List Spelled) : Type 0 where
  pub runs : map transaction_from all ≡ transactions made ++ map transaction_from left
  pub resumed : AllByRecursion IsResumed made

module _ (all : List Spelled) (made : List Running) (left rest : List Spelled) (it : Spelled) (way : OnResume all made left)
    (next : left ≡ it ∷ rest) where
  runs_next : map transaction_from all ≡ transactions made ++ (transaction_from it ∷ map transaction_from rest)
  runs_next = way.runs ∙ ap (λ (one : List Spelled). transactions made ++ map transaction_from one) next

  pub resume_next : (new : Running) → transaction new ≡ transaction_from it → IsResumed new → OnResume all (made ++ new ∷ []) rest
  resume_next new same is = record {
    runs = runs_next
        ∙ ap (λ (one : Transaction). transactions made ++ (one ∷ map transaction_from rest)) (sym same)
        ∙ sym (append_assoc (transactions made) (transaction new ∷ []) (map transaction_from rest))
        ∙ ap (λ (one : List Transaction). one ++ map transaction_from rest) (sym (transactions_more made new));
    resumed = one_more IsResumed made new is way.resumed;
  }

  -- the acts of one do not suit its base
  pub resume_stops : (SuitOwn (transaction_from it) → ⊥) → AllByRecursion SuitOwn (map transaction_from all) → ⊥
  resume_stops never suit = never (middle (transactions made) (subst (AllByRecursion SuitOwn) runs_next suit))
    where
      middle : (front : List Transaction) → AllByRecursion SuitOwn (front ++ (transaction_from it ∷ map transaction_from rest))
          → SuitOwn (transaction_from it)
      middle [] all = all.0
      middle (one ∷ front) all = middle front all.1

pub resume_all : (all : List Spelled) (made : List Running) (left : List Spelled) → OnResume all made left → left ≡ []
    → transactions made ≡ map transaction_from all
resume_all all made left way none =
    sym (way.runs ∙ ap (λ (one : List Spelled). transactions made ++ map transaction_from one) none ∙ append-nil (transactions made))
