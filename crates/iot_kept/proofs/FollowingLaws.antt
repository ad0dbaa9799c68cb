-- Reads that are tested one after the other, as a loop does.
use Rattle.std.proofs.Common.{◌≡◌, ℕ, ◌+◌, ◌<◌, ◌≤◌, List, ◌∷◌, length, get_or, drop, sym, ap}
use Rattle.std.proofs.Common.{◌∙◌, subst}
use Rattle.std.proofs.lemmas.List.{drop_more, drop_all}
use Rattle.iot_tree.specs.Tree.{Nodes}
use Rattle.iot_tree.specs.Questions.{answer_of}
use Rattle.iot_tree.specs.declared.acts.Read.{Read}
use Rattle.iot_acts.specs.Traces.{ReadsHold}

-- what is left at a turn of a loop
pub left_is : {X : Type 0} (xs : List X) (i : ℕ) (x : X) → i < length xs → x ≡ get_or xs i x → drop i xs ≡ x ∷ drop (i + 1) xs
left_is xs i x within is = drop_more xs i x within ∙ ap (λ y. y ∷ drop (i + 1) xs) (sym is)

-- the reads from a place on hold exactly if all do
pub record ReadsOnWay (t : Nodes) (reads : List Read) (i : ℕ) : Type 0 where
  pub rest : ReadsHold t reads → ReadsHold t (drop i reads)
  pub whole : ReadsHold t (drop i reads) → ReadsHold t reads

module _ (t : Nodes) (reads : List Read) (i : ℕ) (way : ReadsOnWay t reads i) where
  module _ (read : Read) (within : i < length reads) (is : read ≡ get_or reads i read) where
    left_reads : drop i reads ≡ read ∷ drop (i + 1) reads
    left_reads = left_is reads i read within is

    pub read_next : ReadsHold t reads → answer_of t read.question ≡ read.answer
    read_next hold = (subst (ReadsHold t) left_reads (way.rest hold)).0

    pub read_holds : answer_of t read.question ≡ read.answer → ReadsOnWay t reads (i + 1)
    read_holds same = record {
      rest = λ hold. (subst (ReadsHold t) left_reads (way.rest hold)).1;
      whole = λ hold. way.whole (subst (ReadsHold t) (sym left_reads) (same, hold));
    }

  pub reads_hold : length reads ≤ i → ReadsHold t reads
  reads_hold past = way.whole (subst (ReadsHold t) (sym (drop_all i reads past)) tt)
