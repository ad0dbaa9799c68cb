-- What holds of every plan.
use Rattle.std.proofs.Common.{◌≡◌, List, ◌∷◌, ◌++◌, refl, sym, ap, ◌∙◌}
use Rattle.iot_tree.specs.Tree.{Nodes}
use Rattle.iot_tree.specs.Questions.{answer_of}
use Rattle.iot_tree.specs.declared.acts.Read.{Read}
use Rattle.iot_exec.specs.Plans.{Plan, Done, Ask, mapped, Performed, perform, with_read}
use Rattle.iot_acts.specs.Traces.{ReadsHold}

abbrev pub with_result : {R S : Type 0} → (R → S) → Performed R → Performed S
with_result f performed = record { reads = performed.reads; result = f performed.result }

-- what f makes of a plan's result is asked in the same way
pub perform-mapped : {R S : Type 0} (f : R → S) (plan : Plan R) (t : Nodes) → perform t (mapped f plan) ≡ with_result f (perform t plan)
perform-mapped f (Done result) t = refl
perform-mapped f (Ask question next) t =
    ap (with_read (record { question = question; answer = answer_of t question })) (perform-mapped f (next (answer_of t question)) t)

-- the reads of a plan hold where it was performed
pub own_reads : {R : Type 0} (plan : Plan R) (t : Nodes) → ReadsHold t (perform t plan).reads
own_reads (Done result) t = tt
own_reads (Ask question next) t = (refl, own_reads (next (answer_of t question)) t)

-- if the reads of a plan hold, it does the same
pub same_answers : {R : Type 0} (plan : Plan R) (t u : Nodes) → ReadsHold u (perform t plan).reads → perform u plan ≡ perform t plan
same_answers (Done result) t u hold = refl
same_answers (Ask question next) t u hold =
    rw (hold.0)
    (ap (with_read (record { question = question; answer = answer_of t question }))
    (same_answers (next (answer_of t question)) t u hold.1))

-- two lists of reads that begin with those of a plan on two trees
pub record SameStart {R : Type 0} (plan : Plan R) (t u : Nodes) (xs ys : List Read) : Type 0 where
  pub same : perform u plan ≡ perform t plan
  pub rest : xs ≡ ys

same_heads : (x y : Read) (xs ys : List Read) → x ∷ xs ≡ y ∷ ys → x ≡ y
same_heads x y xs ys e = cc

same_tails : (x y : Read) (xs ys : List Read) → x ∷ xs ≡ y ∷ ys → xs ≡ ys
same_tails x y xs ys e = cc

-- if two lists that begin with the reads of a plan on two trees are equal, it does the same on both
pub same_reads : {R : Type 0} (plan : Plan R) (t u : Nodes) (xs ys : List Read)
    → (perform t plan).reads ++ xs ≡ (perform u plan).reads ++ ys → SameStart plan t u xs ys
same_reads (Done result) t u xs ys e = record { same = refl; rest = e }
same_reads {R = R} (Ask question next) t u xs ys e =
    let answers : answer_of t question ≡ answer_of u question = ap (λ (read : Read). read.answer) (same_heads _ _ _ _ e) in
    let later : (perform t (next (answer_of t question))).reads ++ xs ≡ (perform u (next (answer_of t question))).reads ++ ys =
    same_tails _ _ _ _ e ∙ ap (λ answer. (perform u (next answer)).reads ++ ys) (sym answers) in
    let start : SameStart (next (answer_of t question)) t u xs ys = same_reads (next (answer_of t question)) t u xs ys later in
    record {
      same = ap (λ answer. with_read (record { question = question; answer = answer }) (perform u (next answer))) (sym answers)
          ∙ ap (with_read (record { question = question; answer = answer_of t question })) start.same;
      rest = start.rest;
    }
