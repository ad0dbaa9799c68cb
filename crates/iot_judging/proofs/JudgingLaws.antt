-- What certification says of acts, and the run of their script on the server's tree.
use Rattle.std.proofs.Common.{◌≡◌, ◌<◌, ◌≤◌, ℕ, zero, suc, ◌+◌, ◌-◌, List, [], ◌∷◌, ◌++◌, length, Option, Some, refl, sym, ap, subst, ◌∙◌}
use Rattle.std.proofs.Common.{inl, inr, slice_get, length-append, arith}
use Rattle.std.proofs.lemmas.Option.{same_Some}
use Rattle.iot_tree.specs.Tree.{Nodes, IsTree}
use Rattle.iot_tree.specs.Questions.{answer_of}
use Rattle.iot_tree.specs.declared.acts.Act.{Act}
use Rattle.iot_tree.specs.declared.acts.Read.{Read}
use Rattle.iot_tree.specs.declared.questions.Answer.{Answer}
use Rattle.iot_lang.specs.Code.{Code}
use Rattle.iot_access.specs.Access.{IsAccess, access_of}
use Rattle.iot_access.proofs.AccessLaws.{takes_place}
use Rattle.iot_access.proofs.SameLaws.{same_access}
use Rattle.iot_acts.specs.Traces.{ReadsHold, ActsHold, after_acts, FitsIfAny, after_update}
use Rattle.iot_acts.specs.Turns.{reads_of, turns, DiffersAt, FirstDiffers}
use Rattle.iot_acts.specs.Guards.{AllGuarded}
use Rattle.iot_acts.proofs.TraceLaws.{tree_after as tree_made, tree_after_acts, AreDone}
use Rattle.iot_exec.specs.Commands.{Kept}
use Rattle.iot_exec.specs.Runs.{run}
use Rattle.iot_exec.specs.Plans.{perform, Performed, Effect}
use Rattle.iot_exec.specs.Places.{Place, Over, At, start, plan_at, exec}
use Rattle.iot_exec.specs.Parting.{PartsAt}
use Rattle.iot_exec.specs.Serial.{run_entry}
use Rattle.iot_exec.specs.declared.ran.Ran.{Ran}
use Rattle.iot_exec.proofs.PlanLaws.{own_reads}
use Rattle.iot_exec.proofs.PlaceLaws.{exec_from_start}
use Rattle.iot_exec.proofs.GuardLaws.{place_guarded, place_fits}
use Rattle.iot_exec.proofs.RunLaws.{alike_is}
use Rattle.iot_exec.proofs.PartingLaws.{run_parts}
use Rattle.iot_machine.specs.Machine.{Commit, tree_after}
use Rattle.iot_machine.specs.Nodes.{Node}
use Rattle.iot_machine.specs.Serving.{Submission, Verdict, Conflict, Parts, Commits, Certifies, holds, conflicts, reads_there}

-- ---- the acts of a run on its own tree

own_from : (kept : Kept) (n : ℕ) (at : Place) (t : Nodes) → IsTree t → AreDone t (exec kept n at t).acts (exec kept n at t).tree
own_from kept zero at t tree = record { hold = tt; made = refl; guarded = tt }
own_from kept (suc n) Over t tree = record { hold = tt; made = refl; guarded = tt }
own_from kept (suc n) (At code frames env) t tree =
    let done : Performed (Effect Place) = perform t (plan_at kept code frames env) in
    let fits : FitsIfAny t done.result.update = place_fits kept code frames env t tree in
    let rest : AreDone (after_update t done.result.update) (exec kept n done.result.result (after_update t done.result.update)).acts
    (exec kept n done.result.result (after_update t done.result.update)).tree =
    own_from kept n done.result.result (after_update t done.result.update) (tree_made t done.result.update tree fits) in
    record {
      hold = (own_reads (plan_at kept code frames env) t, fits, rest.hold);
      made = rest.made;
      guarded = (place_guarded kept code frames env t tree, rest.guarded);
    }

module _ (code : Code) (kept : Kept) (t : Nodes) (n : ℕ) (tree : IsTree t) where
  -- the acts of a run hold on its tree, make of it what it leaves, and are guarded
  pub own_acts : AreDone t (run code kept t n).acts (run code kept t n).tree
  own_acts = subst (λ (ran : Ran). AreDone t ran.acts ran.tree) (exec_from_start kept code t n) (own_from kept n (start code) t tree)

  -- what it leaves is a tree
  pub run_tree : IsTree (run code kept t n).tree
  run_tree = subst IsTree (sym own_acts.made) (tree_after_acts t (run code kept t n).acts tree own_acts.hold)

-- ---- reads by their place

-- a read of this place, counted from `from`
pub record HasPlace (reads : List Read) (from place : ℕ) : Type 0 where
  pub front : List Read
  pub read : Read
  pub rest : List Read
  pub split : reads ≡ front ++ read ∷ rest
  pub at : place ≡ length front + from

-- there is a read at the place where they part
parted : (here there : List Read) (from place : ℕ) (given : Answer) → PartsAt here there from place given → HasPlace here from place
parted [] there from place given parts = absurd parts
parted (read ∷ here) [] from place given parts = absurd parts
parted (read ∷ here) (other ∷ there) from place given (inl this) =
    record { front = []; read = read; rest = here; split = refl; at = this.2 ∙ zero_more from }
  where
    zero_more : (n : ℕ) → n ≡ 0 + n
    zero_more n = omega arith
parted (read ∷ here) (other ∷ there) from place given (inr later) =
    let more : HasPlace here (suc from) place = parted here there (suc from) place given later.1 in
    record {
      front = read ∷ more.front;
      read = more.read;
      rest = more.rest;
      split = ap (λ (reads : List Read). read ∷ reads) more.split;
      at = more.at ∙ next (length more.front) from;
    }
  where
    next : (a n : ℕ) → a + suc n ≡ suc a + n
    next a n = omega arith

at_seam : (front : List Read) (read : Read) (rest : List Read) → slice_get (front ++ read ∷ rest) (length front) ≡ Some read
at_seam [] read rest = refl
at_seam (first ∷ front) read rest = at_seam front read rest

module _ (reads : List Read) (place : ℕ) (has : HasPlace reads 1 place) where
  -- it is found by its place
  pub place_found : slice_get reads (place - 1) ≡ Some has.read
  place_found =
      let before : place - 1 ≡ length has.front = omega (arith, has.at) in
      ap (slice_get reads) before ∙ ap (λ (reads : List Read). slice_get reads (length has.front)) has.split
      ∙ at_seam has.front has.read has.rest

  pub place_within : (1 ≤ place) × (place - 1 < length reads)
  place_within =
      let long : length reads ≡ length has.front + length (has.read ∷ has.rest) =
      ap length has.split ∙ length-append has.front (has.read ∷ has.rest) in
      (omega (arith, has.at), omega (arith, has.at, long))

-- ---- where they part

module _ (here there : List Read) (place : ℕ) (given : Answer) (parts : PartsAt here there 1 place given) where
  -- the verdict names the read of that place
  pub parts_at : (read : Read) → slice_get here (place - 1) ≡ Some read → Parts here there (Some (Conflict place read.question))
  parts_at read found =
      let has : HasPlace here 1 place = parted here there 1 place given parts in
      let same : has.read ≡ read = same_Some _ _ (sym (place_found here place has) ∙ found) in
      record {
        place = place;
        read = has.read;
        given = given;
        front = has.front;
        rest = has.rest;
        split = has.split;
        at = has.at;
        parts = parts;
        is = ap (λ (read : Read). Some (Conflict place read.question)) (sym same);
      }

  pub parts_within : (1 ≤ place) × (place - 1 < length here)
  parts_within = place_within here place (parted here there 1 place given parts)

-- if a read differs first in its turn, the tree of that turn gives some answer
pub differs_some : (turns : List (Nodes × Read)) (from place : ℕ) → FirstDiffers turns from place
    → (answer : Answer) × DiffersAt turns from place answer
differs_some [] from place first = absurd first
differs_some (turn ∷ turns) from place (inl here) = (answer_of turn.0 turn.1.question, inl (here.0, here.1, refl))
differs_some (turn ∷ turns) from place (inr later) =
    let rest = differs_some turns (suc from) place later.1 in (rest.0, inr (later.0, rest.1))

-- ---- a script that was run here, on the server's tree

module _ (code : Code) (kept : Kept) (n : ℕ) (t u : Nodes) (acts : List Act) (is : acts ≡ (run code kept t n).acts) where
  pub acts_guarded : IsTree t → AllGuarded acts
  acts_guarded tree = subst AllGuarded (sym is) (own_acts code kept t n tree).guarded

  acts_hold : IsTree t → ActsHold t acts
  acts_hold tree = subst (ActsHold t) (sym is) (own_acts code kept t n tree).hold

  -- if the acts hold there, the script does the same there
  pub same_there : IsTree u → ActsHold u acts
      → run code kept u n ≡ record { acts = acts; tree = after_acts u acts; ended = (run code kept t n).ended }
  same_there tree hold =
      (alike_is code kept t u n (run code kept t n) refl tree).alike (subst (ActsHold u) is hold)
      ∙ ap (λ (acts : List Act). record { acts = acts; tree = after_acts u acts; ended = (run code kept t n).ended }) (sym is)

  pub same_reads : IsTree u → ActsHold u acts → reads_of (run code kept u n).acts ≡ reads_of acts
  same_reads tree hold = ap (λ (ran : Ran). reads_of ran.acts) (same_there tree hold)

  -- if a read differs there in its turn, the reads part there
  pub parts_there : (place : ℕ) (answer : Answer) → DiffersAt (turns u acts) 1 place answer
      → PartsAt (reads_of acts) (reads_of (run code kept u n).acts) 1 place answer
  parts_there place answer differs =
      subst (λ (acts : List Act). PartsAt (reads_of acts) (reads_of (run code kept u n).acts) 1 place answer) (sym is)
      ((run_parts code kept t u n place answer).0 (subst (λ (acts : List Act). DiffersAt (turns u acts) 1 place answer) is differs))

  -- the access of the acts may take their place on every whole tree
  pub takes_place_of : IsTree t → IsAccess (access_of acts t).reads (access_of acts t).places (access_of acts t).updates acts
  takes_place_of tree = takes_place acts t tree (acts_guarded tree) (acts_hold tree)

  -- if its base reads hold there, it is that of the script's run there
  pub access_there : IsTree t → IsTree u → ActsHold u acts → ReadsHold u (access_of acts t).reads
      → access_of (run code kept u n).acts u ≡ access_of acts t
  access_there here there hold reads =
      ap (λ (ran : Ran). access_of ran.acts u) (same_there there hold)
      ∙ sym (same_access t u acts here (acts_guarded here) (acts_hold here) reads)

-- ---- submissions

module _ (it : Submission) (node : Node (List Commit)) (t : Nodes) (acts : List Act) (is : acts ≡ (run_entry it.commit.entry t).acts)
    (reads : it.reads ≡ reads_of acts) (tree : IsTree (tree_after node.durable)) where
  -- what holds reads the same there, and commits
  pub reads_same : ActsHold (tree_after node.durable) acts → reads_there it.commit node.durable ≡ it.reads
  reads_same hold =
      same_reads it.commit.entry.script it.commit.entry.kept it.commit.entry.budget t (tree_after node.durable) acts is tree hold
      ∙ sym reads

  pub certified : (text : List ℕ) (verdict : Option Verdict) (after : Node (List Commit)) → ActsHold (tree_after node.durable) acts
      → Commits it.name it.commit node text verdict after → Certifies it node text verdict after
  certified text verdict after hold commits = holds (reads_same hold) commits

  -- what differs is refused, by the read of its place
  pub refused : (place : ℕ) (answer : Answer) (read : Read) → DiffersAt (turns (tree_after node.durable) acts) 1 place answer
      → slice_get it.reads (place - 1) ≡ Some read → Certifies it node [] (Some (Conflict place read.question)) node
  refused place answer read differs found =
      conflicts
      (parts_at it.reads (reads_there it.commit node.durable) place answer
      (subst (λ (here : List Read). PartsAt here (reads_there it.commit node.durable) 1 place answer) (sym reads)
      (parts_there it.commit.entry.script it.commit.entry.kept it.commit.entry.budget t (tree_after node.durable) acts is place answer
      differs))
      read found)
      refl refl
