-- Base reads and updates may take the place of their acts on every whole tree.
use Rattle.std.proofs.Common.{◌≡◌, ◌↔◌, ◌⊎◌, ℕ, suc, ◌+◌, List, [], ◌∷◌, ◌++◌, map, length, Option, Some, None, refl, sym, ap, subst, ◌∙◌}
use Rattle.std.proofs.Common.{inl, inr, arith}
use Rattle.std.specs.List.{zip}
use Rattle.iot_tree.specs.Tree.{Nodes, IsTree, IsWhole}
use Rattle.iot_tree.specs.declared.updates.Update.{Update}
use Rattle.iot_tree.specs.declared.acts.Act.{Act}
use Rattle.iot_tree.specs.declared.acts.Read.{Read}
use Rattle.iot_acts.specs.Traces.{ReadsHold, FitsIfAny, ActsHold, after_acts, after_update}
use Rattle.iot_acts.proofs.GuardLaws.{guarded_fits, guarded_hold}
use Rattle.iot_access.specs.Asked.{first_asked, none_asked}
use Rattle.iot_access.proofs.AskedLaws.{all_fail, all_hold, first_fails, first_hold, none_known}
use Rattle.iot_access.proofs.BeforeLaws.{bases_hold_before}
use Rattle.iot_access.specs.BaseReads.{Base, origin, base_of, cons_base, based_reads, based, done_more}
use Rattle.iot_acts.specs.Turns.{turns, Answers, AllAnswer, FirstDiffers}
use Rattle.iot_access.proofs.BaseReadsLaws.{BasesHold, reads_beside, Based, asks, holds, based_read}
use Rattle.iot_access.specs.Access.{FirstFails, FitInTurn, access_of, cons_update, updates_of, after_updates, IsAccess}
use Rattle.iot_acts.specs.Guards.{AllGuarded}
use Rattle.iot_access.proofs.ModesTiedLaws.{Alike, alike_first}
use Rattle.iot_acts.proofs.TraceLaws.{tree_after}
use Rattle.iot_access.proofs.ModeStepLaws.{alike_after}
use Rattle.iot_access.proofs.WholeLaws.{whole_after}

-- ---- reads in turn beside base reads

-- a read in turn holds anyway, or has a base read of its place that holds exactly if it does; what follows matters only if it holds
abbrev Chain : List (Nodes × Read) → Nodes → ℕ → List Base → Type 0
Chain [] t n bases = bases ≡ []
Chain (turn ∷ turns) t n bases =
    (Answers turn.0 turn.1 × Chain turns t (suc n) bases)
    ⊎ ((base : Read) × (rest : List Base) × (bases ≡ (n, base) ∷ rest) × (Answers turn.0 turn.1 ↔ Answers t base)
    × (Answers turn.0 turn.1 → Chain turns t (suc n) rest))

module _ (t : Nodes) where
  forth : (turns : List (Nodes × Read)) (n : ℕ) (bases : List Base) → Chain turns t n bases → AllAnswer turns → BasesHold t bases
  forth [] n bases chain all = subst (BasesHold t) (sym chain) tt
  forth (turn ∷ turns) n bases (inl settles) all = forth turns (suc n) bases settles.1 all.1
  forth (turn ∷ turns) n bases (inr (base, rest, is, iff, chain)) all =
      subst (BasesHold t) (sym is) (iff.0 all.0, forth turns (suc n) rest (chain all.0) all.1)

  back : (turns : List (Nodes × Read)) (n : ℕ) (bases : List Base) → Chain turns t n bases → BasesHold t bases → AllAnswer turns
  back [] n bases chain hold = tt
  back (turn ∷ turns) n bases (inl settles) hold = (settles.0, back turns (suc n) bases settles.1 hold)
  back (turn ∷ turns) n bases (inr (base, rest, is, iff, chain)) hold =
      let parts : BasesHold t ((n, base) ∷ rest) = subst (BasesHold t) is hold in
      let here : Answers turn.0 turn.1 = iff.1 parts.0 in
      (here, back turns (suc n) rest (chain here) parts.1)

  fails : (turns : List (Nodes × Read)) (n : ℕ) (bases : List Base) → Chain turns t n bases → (place : ℕ) → FirstFails t bases place
      → FirstDiffers turns n place
  fails [] n bases chain place first = subst (λ (bases : List Base). FirstFails t bases place) chain first
  fails (turn ∷ turns) n bases (inl settles) place first = inr (settles.0, fails turns (suc n) bases settles.1 place first)
  fails (turn ∷ turns) n bases (inr (base, rest, is, iff, chain)) place first =
      let parts : FirstFails t ((n, base) ∷ rest) place = subst (λ (bases : List Base). FirstFails t bases place) is first in
      elim parts [
        | inl here ↦ inl ((λ h. here.0 (iff.0 h)), here.1)
        | inr later ↦ inr (iff.1 later.0, fails turns (suc n) rest (chain (iff.1 later.0)) place later.1)
      ]

  differs : (turns : List (Nodes × Read)) (n : ℕ) (bases : List Base) → Chain turns t n bases → (place : ℕ) → FirstDiffers turns n place
      → FirstFails t bases place
  differs [] n bases chain place first = absurd first
  differs (turn ∷ turns) n bases (inl settles) place (inl here) = absurd (here.0 settles.0)
  differs (turn ∷ turns) n bases (inl settles) place (inr later) = differs turns (suc n) bases settles.1 place later.1
  differs (turn ∷ turns) n bases (inr (base, rest, is, iff, chain)) place (inl here) =
      subst (λ (bases : List Base). FirstFails t bases place) (sym is) (inl ((λ h. here.0 (iff.1 h)), here.1))
  differs (turn ∷ turns) n bases (inr (base, rest, is, iff, chain)) place (inr later) =
      subst (λ (bases : List Base). FirstFails t bases place) (sym is)
      (inr (iff.0 later.0, differs turns (suc n) rest (chain later.0) place later.1))

-- ---- the acts' own chain

module _ (t1 t2 : Nodes) (whole_t : IsWhole t2) where
  module _ (done : List Update) (u1 u2 : Nodes) (alike : Alike done t1 u1 t2 u2) (tree : IsTree u1) (whole_u : IsWhole u2) where
    link : (read : Read) (found : Option Read) (n : ℕ) (later : List (Nodes × Read)) (rest : List Base)
        → Based t2 u2 read.question read.answer found → (Answers u2 read → Chain later t2 (suc n) rest)
        → Chain ((u2, read) ∷ later) t2 n (cons_base n found rest)
    link read found n later rest (asks base is iff) chain =
        inr (base, rest, ap (λ (found : Option Read). cons_base n found rest) is, iff, chain)
    link read found n later rest (holds is here) chain =
        inl (here, subst (λ (found : Option Read). Chain later t2 (suc n) (cons_base n found rest)) (sym is) (chain here))

    of_reads : (reads : List Read) (n : ℕ) (later : List (Nodes × Read)) (rest : List Base) → ReadsHold u1 reads
        → (ReadsHold u2 reads → Chain later t2 (length reads + n) rest)
        → Chain (map (λ read. (u2, read)) reads ++ later) t2 n (based_reads reads t1 done n rest)
    of_reads [] n later rest hold chain = subst (λ (k : ℕ). Chain later t2 k rest) (zero_more n) (chain tt)
      where
        zero_more : (n : ℕ) → 0 + n ≡ n
        zero_more n = omega arith
    of_reads (read ∷ reads) n later rest hold chain =
        link read (base_of t1 done read) n (map (λ read. (u2, read)) reads ++ later) (based_reads reads t1 done (suc n) rest)
        (based_read done t1 u1 t2 u2 alike tree whole_t whole_u read.question read.answer (origin done read.question) refl hold.0)
        (λ here. of_reads reads (suc n) later rest hold.1
        (λ all. subst (λ (k : ℕ). Chain later t2 k rest) (next (length reads) n) (chain (here, all))))
      where
        next : (a n : ℕ) → suc a + n ≡ a + suc n
        next a n = omega arith

  of_acts : (acts : List Act) (done : List Update) (u1 u2 : Nodes) (n : ℕ) → Alike done t1 u1 t2 u2 → IsTree u1 → IsTree u2
      → IsWhole u2 → AllGuarded acts → ActsHold u1 acts
      → Chain (turns u2 acts) t2 n (based acts t1 done n)
  of_acts [] done u1 u2 n alike tree1 tree2 whole guarded hold = refl
  of_acts (act ∷ acts) done u1 u2 n alike tree1 tree2 whole guarded hold =
      of_reads done u1 u2 alike tree1 whole act.reads n (turns (after_update u2 act.update) acts)
      (based acts t1 (done_more done act.update) (length act.reads + n)) hold.0
      (λ there.
      let fits : FitsIfAny u2 act.update = guarded_fits u2 tree2 act.reads there act.update guarded.0 in
      of_acts acts (done_more done act.update) (after_update u1 act.update) (after_update u2 act.update) (length act.reads + n)
      (alike_after done t1 u1 t2 u2 alike tree1 tree2 act.reads hold.0 there act.update guarded.0 hold.1 fits)
      (tree_after u1 act.update tree1 hold.1) (tree_after u2 act.update tree2 fits) (whole_after u2 tree2 whole act.update fits) guarded.1
      hold.2)

-- ---- acts that hold

all_reads : (t : Nodes) (reads : List Read) (later : List (Nodes × Read)) → ReadsHold t reads → AllAnswer later
    → AllAnswer (map (λ read. (t, read)) reads ++ later)
all_reads t [] later hold all = all
all_reads t (read ∷ reads) later hold all = (hold.0, all_reads t reads later hold.1 all)

answers_of : (acts : List Act) (t : Nodes) → ActsHold t acts → AllAnswer (turns t acts)
answers_of [] t hold = tt
answers_of (act ∷ acts) t hold =
    all_reads t act.reads (turns (after_update t act.update) acts) hold.0 (answers_of acts (after_update t act.update) hold.2)

after_same : (acts : List Act) (t : Nodes) → after_updates t (updates_of acts) ≡ after_acts t acts
after_same [] t = refl
after_same (act ∷ acts) t = by act.update (after_same acts)
  where
    by : (update : Option Update) → ((t : Nodes) → after_updates t (updates_of acts) ≡ after_acts t acts)
        → after_updates t (cons_update update (updates_of acts)) ≡ after_acts (after_update t update) acts
    by None same = same t
    by (Some update) same = same (after_update t (Some update))

-- the updates of acts that hold fit in turn
pub fit_in_turn : (acts : List Act) (t : Nodes) → ActsHold t acts → FitInTurn t (updates_of acts)
fit_in_turn [] t hold = tt
fit_in_turn (act ∷ acts) t hold = by act.update hold.1 (fit_in_turn acts (after_update t act.update) hold.2)
  where
    by : (update : Option Update) → FitsIfAny t update → FitInTurn (after_update t update) (updates_of acts)
        → FitInTurn t (cons_update update (updates_of acts))
    by None fits later = later
    by (Some update) fits later = (fits, later)

-- base reads and updates of guarded acts that hold on a tree may take their place on every whole tree
pub access_is : (acts list : List Act) (before : Nodes) (reads : List Read) (places : List ℕ) (updates : List Update) → IsTree before
    → AllGuarded acts → ActsHold before acts → list ≡ acts → length places ≡ length reads
    → zip places reads ≡ first_asked none_asked (based list before [] 1) → updates ≡ updates_of list → IsAccess reads places updates acts
access_is acts list before reads places updates tree guarded hold same even is are t tree_t whole =
    let all : List Base = based acts before [] 1 in
    let chain : Chain (turns t acts) t 1 all =
    of_acts before t whole acts [] before t 1 (alike_first before t) tree tree_t whole guarded hold in
    let held : BasesHold before all = bases_hold_before acts before tree guarded hold in
    let some : zip places reads ≡ first_asked none_asked all =
    is ∙ ap (λ (acts : List Act). first_asked none_asked (based acts before [] 1)) same in
    let beside : map (λ base. base.1) (first_asked none_asked all) ≡ reads =
    sym (ap (map (λ base. base.1)) some) ∙ reads_beside places reads even in
    let known = none_known before t in
    record {
      exactly = (
        (λ base. guarded_hold acts guarded t tree_t
            (back t (turns t acts) 1 all chain (all_hold before t all none_asked known held (subst (ReadsHold t) (sym beside) base)))),
        (λ acts_are. subst (ReadsHold t) beside
            (first_hold before t all none_asked (forth t (turns t acts) 1 all chain (answers_of acts t acts_are)))),
      );
      fit = λ acts_are. subst (FitInTurn t) (sym (are ∙ ap updates_of same)) (fit_in_turn acts t acts_are);
      after = λ _. ap (after_updates t) (are ∙ ap updates_of same) ∙ after_same acts t;
      first = λ place. (
        (λ first. fails t (turns t acts) 1 all chain place
            (first_fails before t all none_asked known held place (subst (λ (bases : List Base). FirstFails t bases place) some first))),
        (λ first. subst (λ (bases : List Base). FirstFails t bases place) (sym some)
            (all_fail before t all none_asked known held place (differs t (turns t acts) 1 all chain place first))),
      );
    }

-- ---- the access of acts

zip_apart : (bases : List Base) → zip (map (λ base. base.0) bases) (map (λ base. base.1) bases) ≡ bases
zip_apart [] = refl
zip_apart (base ∷ bases) = ap (λ (bases : List Base). base ∷ bases) (zip_apart bases)

even_apart : (bases : List Base) → length (map (λ base. base.0) bases) ≡ length (map (λ base. base.1) bases)
even_apart [] = refl
even_apart (base ∷ bases) = ap suc (even_apart bases)

-- it may take their place on every whole tree
pub takes_place : (acts : List Act) (before : Nodes) → IsTree before → AllGuarded acts → ActsHold before acts
    → IsAccess (access_of acts before).reads (access_of acts before).places (access_of acts before).updates acts
takes_place acts before tree guarded hold =
    let bases : List Base = first_asked none_asked (based acts before [] 1) in
    access_is acts acts before (map (λ base. base.1) bases) (map (λ base. base.0) bases) (updates_of acts) tree guarded hold refl
    (even_apart bases) (zip_apart bases) refl

-- it has as many places as base reads
pub as_many_places : (acts : List Act) (before : Nodes) → length (access_of acts before).places ≡ length (access_of acts before).reads
as_many_places acts before = even_apart (first_asked none_asked (based acts before [] 1))
