-- The greatest number of first acts that hold.
use Rattle.std.proofs.Common.{◌≡◌, ◌↔◌, ◌≤◌, ℕ, zero, suc, ◌+◌, ◌<◌, List, [], ◌∷◌, length, take, drop, get_or, refl, sym, ap, subst}
use Rattle.std.proofs.Common.{◌∙◌, arith, le_refl, Bool, true, false, IsTrue}
use Rattle.std.proofs.lemmas.List.{drop_more, drop_all}
use Rattle.iot_tree.specs.Tree.{Nodes}
use Rattle.iot_tree.specs.declared.acts.Act.{Act}
use Rattle.iot_acts.specs.Traces.{ReadsHold, FitsIfAny, ActsHold, after_update}
use Rattle.iot_certify.specs.Verdicts.{IsLongest, IsFirstWrong}
use Rattle.iot_certify.proofs.ReadsLaws.{wrong_not}

-- so many acts hold, and those that are left decide on their tree how many more do
pub record Goes (t : Nodes) (acts : List Act) (u : Nodes) (rest : List Act) (count : ℕ) : Type 0 where
  pub on : (more : ℕ) → IsLongest u rest more → IsLongest t acts (more + count)

pub goes_first : (t : Nodes) (acts : List Act) → Goes t acts t acts 0
goes_first t acts = record { on = λ more it. subst (IsLongest t acts) (same more) it }
  where
    same : (n : ℕ) → n ≡ n + 0
    same n = omega arith

-- one more act holds
one_more : (t : Nodes) (act : Act) (acts : List Act) → ReadsHold t act.reads → FitsIfAny t act.update → (more : ℕ)
    → IsLongest (after_update t act.update) acts more → IsLongest t (act ∷ acts) (suc more)
one_more t act acts reads fits more it = record {
  few = omega (arith, it.few);
  holds = (reads, fits, it.holds);
  most = most;
}
  where
    most : (n : ℕ) → n ≤ length (act ∷ acts) → ActsHold t (take n (act ∷ acts)) → n ≤ suc more
    most zero few hold = omega arith
    most (suc n) few hold =
        let least : n ≤ more = it.most n (omega (arith, few)) hold.2 in
        omega (arith, least)

-- none of these holds
pub none_more : (u : Nodes) (rest : List Act) → rest ≡ [] → IsLongest u rest 0
none_more u rest is = subst (λ (rest : List Act). IsLongest u rest 0) (sym is)
    (record { few = le_refl 0; holds = tt; most = λ n few hold. few })

stops : (u : Nodes) (act : Act) (acts : List Act) → (ReadsHold u act.reads × FitsIfAny u act.update → ⊥) → IsLongest u (act ∷ acts) 0
stops u act acts never = record { few = omega arith; holds = tt; most = most }
  where
    most : (n : ℕ) → n ≤ length (act ∷ acts) → ActsHold u (take n (act ∷ acts)) → n ≤ 0
    most zero few hold = le_refl 0
    most (suc n) few hold = absurd (never (hold.0, hold.1))

module _ (t u : Nodes) (acts : List Act) (i count : ℕ) (act : Act) (lt : i < length acts) where
  cut : act ≡ get_or acts i act → drop i acts ≡ act ∷ drop (i + 1) acts
  cut is = drop_more acts i act lt ∙ ap (λ (next : Act). next ∷ drop (i + 1) acts) (sym is)

  pub goes_next : act ≡ get_or acts i act → Goes t acts u (drop i acts) count → ReadsHold u act.reads → FitsIfAny u act.update
      → Goes t acts (after_update u act.update) (drop (i + 1) acts) (count + 1)
  goes_next is goes reads fits = record {
    on = λ more it. subst (IsLongest t acts) (next more count)
        (goes.on (suc more) (subst (λ (rest : List Act). IsLongest u rest (suc more)) (sym (cut is))
        (one_more u act (drop (i + 1) acts) reads fits more it)));
  }
    where
      next : (a b : ℕ) → suc a + b ≡ a + (b + 1)
      next a b = omega arith

  pub goes_stop : act ≡ get_or acts i act → Goes t acts u (drop i acts) count
      → (ReadsHold u act.reads × FitsIfAny u act.update → ⊥) → IsLongest t acts count
  goes_stop is goes never = subst (IsLongest t acts) (none count)
      (goes.on 0 (subst (λ (rest : List Act). IsLongest u rest 0) (sym (cut is)) (stops u act (drop (i + 1) acts) never)))
    where
      none : (n : ℕ) → 0 + n ≡ n
      none n = omega arith

-- at the end
pub goes_end : (t u : Nodes) (acts : List Act) (i count : ℕ) → length acts ≤ i → Goes t acts u (drop i acts) count → IsLongest t acts count
goes_end t u acts i count past goes = subst (IsLongest t acts) (none count) (goes.on 0 (none_more u (drop i acts) (drop_all i acts past)))
  where
    none : (n : ℕ) → 0 + n ≡ n
    none n = omega arith

take_whole : (acts : List Act) → take (length acts) acts ≡ acts
take_whole [] = refl
take_whole (act ∷ acts) = ap (λ acts. act ∷ acts) (take_whole acts)

-- all hold exactly if so many as there are do
pub all_exactly : (t : Nodes) (acts : List Act) (count : ℕ) → IsLongest t acts count → (count ≡ length acts) ↔ ActsHold t acts
all_exactly t acts count it = (
  (λ is. subst (ActsHold t) (take_whole acts) (subst (λ (n : ℕ). ActsHold t (take n acts)) is it.holds)),
  (λ hold.
      let least : length acts ≤ count = it.most (length acts) (le_refl (length acts)) (subst (ActsHold t) (sym (take_whole acts)) hold) in
      let few : count ≤ length acts = it.few in
      omega (arith, least, few)),
)

-- ---- one act

pub one_wrong : (t : Nodes) (act : Act) (at : ℕ) → IsFirstWrong t act.reads at
    → IsTrue false ↔ (ReadsHold t act.reads × FitsIfAny t act.update)
one_wrong t act at wrong = ((λ is. absurd cc), (λ both. absurd (wrong_not t act.reads at wrong both.0)))

pub one_holds : (t : Nodes) (act : Act) (fits : Bool) → ReadsHold t act.reads → (IsTrue fits ↔ FitsIfAny t act.update)
    → IsTrue fits ↔ (ReadsHold t act.reads × FitsIfAny t act.update)
one_holds t act fits reads is = ((λ yes_. (reads, is.0 yes_)), (λ both. is.1 both.1))

pub never_both : (t : Nodes) (act : Act) (b : Bool) → b ≡ false → (IsTrue b ↔ (ReadsHold t act.reads × FitsIfAny t act.update))
    → ReadsHold t act.reads × FitsIfAny t act.update → ⊥
never_both t act b no_ is both = let yes_ : b ≡ true = is.1 both in absurd cc
