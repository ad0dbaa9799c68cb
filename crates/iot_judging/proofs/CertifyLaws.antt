-- What certification on a tree says of a running transaction: whether it has read what it would read there, or where the reads part, and
-- how many of its acts hold there.
use Rattle.std.proofs.Common.{◌≡◌, ◌≤◌, ℕ, ◌-◌, List, length, take, Some, refl, sym, ap, subst, ◌∙◌, slice_get}
use Rattle.std.specs.FinMap.{empty}
use Rattle.iot_tree.specs.Tree.{Nodes, IsTree}
use Rattle.iot_tree.specs.declared.acts.Act.{Act}
use Rattle.iot_tree.specs.declared.acts.Read.{Read}
use Rattle.iot_tree.specs.declared.questions.Answer.{Answer}
use Rattle.iot_acts.specs.Traces.{ActsHold, after_acts}
use Rattle.iot_acts.specs.Turns.{reads_of, turns, DiffersAt}
use Rattle.iot_certify.specs.Verdicts as certify
use Rattle.iot_exec.specs.Parting.{PartsAt}
use Rattle.iot_exec.specs.Traces.{IsAlike}
use Rattle.iot_exec.specs.declared.ran.Ran.{Ran}
use Rattle.iot_exec.proofs.RunLaws.{alike_is}
use Rattle.iot_machine.specs.Clients.{Running, so_far, plain_run, reads_here, reads_on, ReadsSame, back_to, IsLongest}
use Rattle.iot_machine.specs.Serving.{Conflict, Parts}
use Rattle.iot_judging.proofs.BudgetLaws.{front_acts}
use Rattle.iot_judging.proofs.JudgingLaws.{same_reads, same_there, parts_there, parts_at}

module _ (it : Running) (u : Nodes) (acts : List Act) (is : acts ≡ (so_far it).acts) where
  -- if what it did holds there, it has read what it would read there
  pub reads_same : IsTree u → ActsHold u acts → ReadsSame u it
  reads_same tree hold =
      same_reads it.script.code empty it.acts it.base u acts is tree hold ∙ ap reads_of is

  -- if a read differs there, the reads part there
  pub reads_part : (place : ℕ) (answer : Answer) (read : Read) → DiffersAt (turns u acts) 1 place answer
      → slice_get (reads_of acts) (place - 1) ≡ Some read
      → Parts (reads_here it) (reads_on u it) (Some (Conflict place read.question))
  reads_part place answer read differs found =
      parts_at (reads_here it) (reads_on u it) place answer
      (subst (λ (here : List Read). PartsAt here (reads_on u it) 1 place answer) (ap reads_of is)
      (parts_there it.script.code empty it.acts it.base u acts is place answer differs))
      read (ap (λ (reads : List Read). slice_get reads (place - 1)) (sym (ap reads_of is)) ∙ found)

  -- with the budget of one that waits it does the same there
  pub waits_there : IsTree u → ActsHold u acts → (n : ℕ) → plain_run it.script it.base n ≡ so_far it
      → plain_run it.script u n ≡ record { acts = acts; tree = after_acts u acts; ended = (so_far it).ended }
  waits_there tree hold n same =
      same_there it.script.code empty n it.base u acts (is ∙ ap (λ (ran : Ran). ran.acts) (sym same)) tree hold
      ∙ ap (λ (ended : _). record { acts = acts; tree = after_acts u acts; ended = ended }) (ap (λ (ran : Ran). ran.ended) same)

  -- so many of its acts
  module _ (n : ℕ) (few : n ≤ it.acts) where
    pub first_acts : take n acts ≡ (so_far (back_to n it)).acts
    first_acts = ap (take n) is ∙ sym (front_acts it.script.code empty it.base n it.acts few)

    alike : IsTree u → IsAlike (so_far (back_to n it)) (plain_run it.script u n) u
    alike tree = alike_is it.script.code empty it.base u n (so_far (back_to n it)) refl tree

    first_same : IsTree u → ActsHold u (take n acts) → ReadsSame u (back_to n it)
    first_same tree hold = (alike tree).exactly.0 (subst (ActsHold u) first_acts hold)

    first_hold : IsTree u → ReadsSame u (back_to n it) → ActsHold u (take n acts)
    first_hold tree same = subst (ActsHold u) (sym first_acts) ((alike tree).exactly.1 same)

    -- are those of its run there
    pub first_there : IsTree u → ActsHold u (take n acts)
        → plain_run it.script u n
        ≡ record { acts = take n acts; tree = after_acts u (take n acts); ended = (so_far (back_to n it)).ended }
    first_there tree hold = same_there it.script.code empty n it.base u (take n acts) first_acts tree hold

  -- the acts that hold there are those whose reads are the same there
  pub longest_is : (count : ℕ) → length acts ≡ it.acts → IsTree u → certify.IsLongest u acts count → IsLongest u it count
  longest_is count counted tree longest =
      let few : count ≤ it.acts = subst (λ (n : ℕ). count ≤ n) counted longest.few in
      record {
        few = few;
        same = first_same count few tree longest.holds;
        most = λ n within same.
            longest.most n (subst (λ (m : ℕ). n ≤ m) (sym counted) within) (first_hold n within tree same);
      }
