-- What one more act makes of a running transaction.
use Rattle.std.proofs.Common.{◌≡◌, ℕ, ◌<◌, Bool, true, false, List, [], ◌∷◌, ◌++◌, Option, Some, None, length, length-append, arith}
use Rattle.std.proofs.Common.{refl, sym, ap, subst, ◌∙◌}
use Rattle.std.specs.FinMap.{empty}
use Rattle.std.specs.Prelude.{IsSomeAnd, IsErrOf, IsErrAnd, Result, Ok, Err}
use Rattle.iot_acts.specs.Guards.{IsGuarded}
use Rattle.iot_acts.specs.Traces.{ActsHold, after_update}
use Rattle.iot_tree.specs.Tree.{Nodes, Path}
use Rattle.iot_tree.specs.declared.acts.Act.{Act}
use Rattle.iot_tree.specs.declared.limits.TheConstants.{ACT_LIMIT}
use Rattle.iot_tree.specs.declared.want.Want.TheVariants as wants
use Rattle.iot_lang.specs.Code.{Code}
use Rattle.iot_lang.specs.Scripts.{IsScript}
use Rattle.iot_exec.specs.Places.{is_over}
use Rattle.iot_exec.specs.Execs.{IsNextAt, IsRunning, RunsOn, place, kept_by, act_count, next_miss}
use Rattle.iot_exec.proofs.RunLaws.{goes_on as running_on}
use Rattle.iot_changes.specs.declared.changes.Change.TheVariants.{Acted}
use Rattle.iot_kept.specs.States.{Transaction, State, own_view}
use Rattle.iot_kept.specs.Changes.{with_act}
use Rattle.iot_kept.specs.Changes as kept
use Rattle.iot_kept.proofs.StatesLaws.{after_more}
use Rattle.iot_client.specs.Ties.{code_in, IsRun, IsRunIfAny, stamps_of, place_of}
use Rattle.iot_client.specs.Calls.{has_ended, missed, missed_by, next_acts, ChangesClasses, CanAct, CutsOff, CutsOffNext, Notes, StepIs}
use Rattle.iot_client.specs.Doing.{GoesOn, IsAble, Did, DidIfAny, DecidesIfAny}
use Rattle.iot_wire.specs.Meanings.{IsRefresh}
use Rattle.iot_client.specs.declared.client.Client.{Client}
use Rattle.iot_client.specs.declared.fault.ClientFault.{ClientFault}
use Rattle.iot_client.specs.declared.interpreter.Decided.{Decided}
use Rattle.iot_client.specs.declared.interpreter.Decided.TheVariants as decides
use Rattle.iot_client.specs.declared.interpreter.Done.{Done}
use Rattle.iot_client.specs.declared.interpreter.Interpreter.{Interpreter}
use Rattle.iot_client.specs.declared.steps.Step.TheVariants as steps
use Rattle.iot_client.proofs.StepsLaws.{ended_is, next_done, missed_is}

-- ---- what came of the next act, by the class of its transaction

-- a second-class one misses nothing
pub second_misses : (first : Bool) (other : Option Path) → first ≡ false → None ≡ missed_by first other
second_misses true other is = absurd cc
second_misses false other is = refl

-- a first-class one misses what its act does
pub first_misses : (first : Bool) (path other : Option Path) → first ≡ true → path ≡ other → path ≡ missed_by first other
first_misses true path other is same = same
first_misses false path other is same = absurd cc

-- the act that was done, with what is told of it
pub did_act : (i j : Interpreter) (t : Nodes) (act : Act) (done : Done) → j.script.value ≡ i.script.value
    → IsNextAt (kept_by i.exec) (place i.exec) t act (place j.exec) (after_update t act.update)
    → RunsOn i.exec t act j.exec (after_update t act.update) → ActsHold t (act ∷ []) → IsGuarded act
    → done ≡ record { act = act; acts = act_count j.exec; ended = is_over (place j.exec) } → Did i t done j
did_act i j t act done same next runs holds guarded is =
    subst (λ (d : Done). Did i t d j) (sym is)
    (record { same = same; next = next; goes_on = runs; holds = holds; guarded = guarded; counted = refl; over = refl })

-- the same of an equal tree
pub decided_on : (first other : Bool) (o i j : Option Interpreter) (t u : Nodes) (was is : Decided) → first ≡ other → o ≡ i → t ≡ u
    → was ≡ is → DecidesIfAny first o t was j → DecidesIfAny other i u is j
decided_on first other o i j t u was is class interpreter tree same decided =
    subst (λ (f : Bool). DecidesIfAny f i u is j) class
    (subst (λ (k : Option Interpreter). DecidesIfAny first k u is j) interpreter
    (subst (λ (t : Nodes). DecidesIfAny first o t is j) tree (subst (λ (d : Decided). DecidesIfAny first o t d j) same decided)))

pub decided_did : (first : Bool) (i j : Option Interpreter) (t : Nodes) (done : Done) → DecidesIfAny first i t (decides.Did done) j
    → DidIfAny i t done j
decided_did first None j t done decided = absurd decided
decided_did first (Some i) None t done decided = absurd decided
decided_did first (Some i) (Some j) t done decided = decided.1

-- it was not done, and so it did nothing
pub decided_stays : (first : Bool) (i j : Option Interpreter) (t : Nodes) (path : Path) → DecidesIfAny first i t (decides.Missed path) j
    → j ≡ i
decided_stays first None j t path decided = absurd decided
decided_stays first (Some i) None t path decided = absurd decided
decided_stays first (Some i) (Some j) t path decided = ap (λ (i : Interpreter). Some i) decided.1

pub same_code : (i j : Option Interpreter) (t : Nodes) (done : Done) → DidIfAny i t done j → code_in j ≡ code_in i
same_code None j t done did = absurd did
same_code (Some i) None t done did = absurd did
same_code (Some i) (Some j) t done did = ap (λ (code : Code). Some code) did.same

-- ---- a path that is missed

found : (first : Bool) (path : Path) (other : Option Path) → Some path ≡ missed_by first other → (first ≡ true) × (other ≡ Some path)
found true path other is = (refl, sym is)
found false path other is = absurd cc

not_found : (first : Bool) (other : Option Path) → None ≡ missed_by first other → first ≡ true → other ≡ None
not_found true other is first = sym is
not_found false other is first = absurd cc

-- ---- of one that runs, whose script has not ended

module _ (it : Transaction) (first : Bool) where
  -- its interpreter may do one more act
  pub is_able : (i : Option Interpreter) → IsRunIfAny it i → IsSomeAnd (code_in i) (GoesOn it first) → IsAble i
  is_able None runs goes = absurd goes
  is_able (Some i) runs goes = (
    sym (ended_is it i runs) ∙ goes.0,
    subst (λ (n : ℕ). n < ACT_LIMIT) (sym runs.run.counted) goes.1,
  )

  -- the act can be done
  pub can_do : (i j : Option Interpreter) (done : Done) → IsSomeAnd (code_in i) (GoesOn it first) → DidIfAny i (own_view it) done j
      → kept.CanAct done.act it
  can_do None j done goes did = absurd goes
  can_do (Some i) None done goes did = absurd did
  can_do (Some i) (Some j) done goes did = (goes.1, did.guarded, did.holds.1, did.holds.0)

  did_run : (i j : Interpreter) (done : Done) → IsRun it i → length it.acts < ACT_LIMIT → Did i (own_view it) done j
      → IsRun (with_act done.act it) j
  did_run i j done runs within did =
      let acts : List Act = it.acts ++ done.act ∷ [] in
      record {
        run =
            subst (λ (t : Nodes). IsRunning j.script.value empty it.base (length acts) acts j.exec t)
            (sym (after_more it.acts done.act it.base))
            (subst
            (λ (code : Code). IsRunning code empty it.base (length acts) acts j.exec (after_update (own_view it) done.act.update))
            (sym did.same)
            (running_on i.script.value empty it.base (after_update (own_view it) done.act.update) it.acts acts done.act j.exec refl
            (did.goes_on i.script.value empty it.base (length it.acts) it.acts runs.run)));
        few = omega (arith, length-append it.acts (done.act ∷ []), within);
        script = subst IsScript (sym did.same) runs.script;
      }

  pub acted_runs : (i j : Option Interpreter) (done : Done) → IsRunIfAny it i → IsSomeAnd (code_in i) (GoesOn it first)
      → DidIfAny i (own_view it) done j → IsRunIfAny (with_act done.act it) j
  acted_runs None j done runs goes did = absurd goes
  acted_runs (Some i) None done runs goes did = absurd did
  acted_runs (Some i) (Some j) done runs goes did = did_run i j done runs goes.1 did

  can_act : (i : Interpreter) → IsRun it i → GoesOn it first i.script.value
      → None ≡ missed_by first (next_miss (kept_by i.exec) (place i.exec) (own_view it)) → CanAct it first i.script.value
  can_act i runs goes none = record {
    goes_on = goes.0;
    within = goes.1;
    known = not_found first _ (missed_is it i runs first None none);
  }

  -- what is told of the act
  pub steps_on : {D : Type 0} (old new : Client D) (i j : Option Interpreter) (done : Done) → IsRunIfAny it i
      → IsSomeAnd (code_in i) (GoesOn it first) → DecidesIfAny first i (own_view it) (decides.Did done) j
      → Notes (Acted it.number done.act) old new
      → IsSomeAnd (code_in i) (λ (code : Code). StepIs old it first code (steps.Acted done.acts done.ended) new)
  steps_on old new None j done runs goes decided notes = absurd goes
  steps_on old new (Some i) None done runs goes decided notes = absurd decided
  steps_on old new (Some i) (Some j) done runs goes decided notes =
      let did : Did i (own_view it) done j = decided.1 in
      let later : IsRun (with_act done.act it) j = did_run i j done runs goes.1 did in
      record {
        can = can_act i runs goes decided.0;
        act = done.act;
        next = next_done it i runs done.act (place j.exec) (after_update (own_view it) done.act.update) did.next;
        notes = notes;
        counted = did.counted ∙ later.run.counted ∙ length-append it.acts (done.act ∷ []);
        ends = did.over ∙ sym (ended_is (with_act done.act it) j later) ∙ ap (has_ended (with_act done.act it)) did.same;
      }

  -- if its record is in doubt, it is that of the next act
  pub next_in_doubt : (i j : Option Interpreter) (done : Done) (state : State) (records : ℕ) (images : List ℕ → Type 0) → IsRunIfAny it i
      → IsSomeAnd (code_in i) (GoesOn it first) → DecidesIfAny first i (own_view it) (decides.Did done) j
      → CutsOff (Acted it.number done.act) state records images
      → IsSomeAnd (code_in i) (λ (code : Code). CutsOffNext it first code state records images)
  next_in_doubt None j done state records images runs goes decided cuts = absurd goes
  next_in_doubt (Some i) None done state records images runs goes decided cuts = absurd decided
  next_in_doubt (Some i) (Some j) done state records images runs goes decided cuts = record {
    can = can_act i runs goes decided.0;
    act = done.act;
    next = next_done it i runs done.act (place j.exec) (after_update (own_view it) done.act.update) decided.1.next;
    cuts_off = cuts;
  }

  -- it misses something, and nothing has changed
  pub fetches : {D : Type 0} (old new : Client D) (i j : Option Interpreter) (path : Path) (request : List ℕ) → IsRunIfAny it i
      → IsSomeAnd (code_in i) (GoesOn it first) → DecidesIfAny first i (own_view it) (decides.Missed path) j
      → IsRefresh (place_of old) (stamps_of old) (wants.Path path) request → ChangesClasses old new
      → IsSomeAnd (code_in i) (λ (code : Code). StepIs old it first code (steps.Fetch request path) new)
  fetches old new None j path request runs goes decided asks stays = absurd goes
  fetches old new (Some i) None path request runs goes decided asks stays = absurd decided
  fetches old new (Some i) (Some j) path request runs goes decided asks stays =
      let both : (first ≡ true) × (missed (next_acts it i.script.value) ≡ Some path) =
      found first path _ (missed_is it i runs first (Some path) decided.0) in (
        asks,
        record { goes_on = goes.0; within = goes.1; first_class = both.0; miss = both.1; stays = stays },
      )

-- a fault that is handed on is the same one
pub same_fault : {T U : Type 0} (inner : Result U ClientFault) (outer : Result T ClientFault) (fault wanted : ClientFault)
    → inner ≡ Err fault → IsErrAnd outer (λ other. other ≡ fault) → IsErrOf outer wanted → IsErrOf inner wanted
same_fault inner (Ok value) fault wanted was is handed = absurd cc
same_fault inner (Err other) fault wanted was is handed =
    let same : other ≡ wanted = cc in
    was ∙ ap (λ (f : ClientFault). Err f) (sym is ∙ same)
