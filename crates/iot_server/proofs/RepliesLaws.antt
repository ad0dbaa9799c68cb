-- Which bytes answer a request.
use Rattle.std.proofs.Common.{◌≡◌, ◌+◌, ℕ, List, [], length, Option, Some, None, Ok, Err, Result, inl, inr, refl, sym, ap, subst, ◌∙◌}
use Rattle.std.specs.Prelude.{◌↔◌, Bool, true, false, IfOk, IsTrue}
use Rattle.iot_access.specs.Access.{FitInTurn}
use Rattle.iot_acts.specs.Traces.{ReadsHold}
use Rattle.iot_certify.specs.Verdicts.{IsVerdictOnAccess}
use Rattle.iot_certify.specs.declared.verdict.Verdict.{Verdict}
use Rattle.iot_certify.specs.declared.verdict.Verdict.TheVariants.{Holds, Differs}
use Rattle.iot_disk.specs.Disk.{Medium}
use Rattle.iot_hoard.specs.Picking.{IsPick}
use Rattle.iot_durable.specs.Durable.{IsGrownBy}
use Rattle.iot_server.specs.Replies.{AreAnswered, FollowsVerdict, IsAnswered, Submits}
use Rattle.iot_slots.specs.Decoding.{State as Encoded}
use Rattle.iot_slots.specs.Slots.{state_on}
use Rattle.iot_slots.specs.declared.slots.Slots.{Slots}
use Rattle.iot_stamp.specs.Refresh.{changes_for, changes_on}
use Rattle.iot_stamp.specs.Stamps.{Stamps}
use Rattle.iot_store.specs.Numbers.{number_in}
use Rattle.iot_store.specs.Rules.{rules}
use Rattle.iot_store.specs.Standing.{IsGrown}
use Rattle.iot_store.specs.States.{State, after_commit}
use Rattle.iot_store.specs.Store.{encoded_on, second_of, state_of}
use Rattle.iot_store.proofs.PartsLaws.{changes_same}
use Rattle.iot_store.specs.declared.commit.Commit.{Commit as CommitOf}
use Rattle.iot_store.specs.declared.store.Store.{Store}
use Rattle.iot_tree.specs.Profiles.{Profile}
use Rattle.iot_tree.specs.Snapshots.{has}
use Rattle.iot_tree.specs.Tree.{Nodes, Path}
use Rattle.iot_tree.specs.declared.access.Access.{Access}
use Rattle.iot_tree.specs.declared.changes.Changes.{Changes}
use Rattle.iot_tree.specs.declared.labels.Label.{Label}
use Rattle.iot_tree.specs.declared.questions.Answer.{Answer}
use Rattle.iot_tree.specs.declared.questions.Answer.TheVariants.{Away}
use Rattle.iot_tree.specs.declared.want.Want.{Want}
use Rattle.iot_wire.specs.Messages.{IsMessage}
use Rattle.iot_wire.specs.Rules.{IsReply}
use Rattle.iot_wire.specs.Spelling.{reply_spelling}
use Rattle.iot_wire.specs.declared.replies.Reply.TheVariants.{Objects, Committed, Already, Conflict}
use Rattle.iot_wire.specs.declared.requests.Request.{Request}
use Rattle.iot_wire.specs.declared.requests.Request.TheVariants.{Refresh, Commit, Walk}

-- what follows from a clause about Ok
pub if_ok : {T E : Type 0} (P Q : T → Type 0) (result : Result T E) → ((x : T) → P x → Q x) → IfOk result P → IfOk result Q
if_ok P Q (Ok x) follows is = follows x is
if_ok P Q (Err e) follows is = tt

-- what was noted on a disk is one record more
pub grown_by : {D : Type 0} {medium : Medium D} {before : State} {commit : CommitOf} {old new : Slots D}
    → IsGrownBy medium rules before commit old new → IsGrown (state_on medium old) before commit (state_on medium new)
grown_by it = record { body = it.body; mid = it.before; next = it.next; renews = it.renews; is = it.is }

-- an answer that changes nothing is that over each disk
pub answered_still : {D : Type 0} (medium : Medium D) (store : Store D) (request : Request) (bytes : List ℕ)
    → ((was : Encoded) → IsAnswered (state_of store) was request bytes (state_of store) was) → AreAnswered medium request bytes store store
answered_still medium store request bytes answered = record {
  first = answered (encoded_on medium store);
  second = changes_same (λ was now. IsAnswered (state_of store) (state_on medium was) request bytes (state_of store) (state_on medium now))
      (λ s. answered (state_on medium s)) (second_of store);
}

-- what a test denies
pub denied : (P : Type 0) (test : Bool) → IsTrue test ↔ P → test ≡ false → P → ⊥
denied P test both is so = let it : test ≡ true = both.1 so in absurd cc

-- the verdict on the store's tree
pub judged_so : (here tree : Nodes) (access : Access) (verdict : Verdict) (read : ℕ) (answer : Answer) → here ≡ tree
    → verdict ≡ Differs read answer → IsVerdictOnAccess here access verdict → IsVerdictOnAccess tree access (Differs read answer)
judged_so here tree access verdict read answer same is said =
    subst (λ (t : Nodes). IsVerdictOnAccess t access (Differs read answer)) same
    (subst (λ (v : Verdict). IsVerdictOnAccess here access v) is said)

module _ (before : State) (was : Encoded) (bytes : List ℕ) where
  pub refreshed : (client : ℕ) (known : List (Path × ℕ)) (want : Want) (changes : Changes) (here : Stamps) → here ≡ before.stamps
      → changes ≡ changes_for here known want → IsReply (Objects changes) → bytes ≡ reply_spelling (Objects changes)
      → IsAnswered before was (Refresh client known want) bytes before was
  refreshed client known want changes here same is has spelled = record {
    reply = Objects changes;
    answers = (ap Objects (is ∙ ap (λ (s : Stamps). changes_for s known want) same), refl);
    encodes = refl;
    spelled = record { value = has; spelled = sym spelled };
  }

  pub walked : (client : ℕ) (profile : Profile) (limit : ℕ) (paths : List Path) (changes : Changes) (tree : Nodes) (here : Stamps)
      → tree ≡ before.tree → here ≡ before.stamps → IsPick tree profile limit paths → changes ≡ changes_on here [] (has paths)
      → IsReply (Objects changes) → bytes ≡ reply_spelling (Objects changes)
      → IsAnswered before was (Walk client profile limit) bytes before was
  walked client profile limit paths changes tree here same_tree same picked is has_one spelled = record {
    reply = Objects changes;
    answers = (
      paths,
      subst (λ (t : Nodes). IsPick t profile limit paths) same_tree picked,
      ap Objects (is ∙ ap (λ (s : Stamps). changes_on s [] (has paths)) same),
      refl,
    );
    encodes = refl;
    spelled = record { value = has_one; spelled = sym spelled };
  }

  -- it has a number already
  pub already : (label : Label) (access : Access) (lines : List (List ℕ)) (number : ℕ)
      → number_in before.labels label.client label.tid ≡ Some number → IsMessage IsReply reply_spelling bytes (Already number)
      → IsAnswered before was (Commit label access lines) bytes before was
  already label access lines number is spelled = record {
    reply = Already number;
    answers = subst (λ (n : Option ℕ). Submits n before label access (Already number) before) (sym is) (refl, refl);
    encodes = refl;
    spelled = spelled;
  }

  module _ (label : Label) (access : Access) (lines : List (List ℕ)) (new : number_in before.labels label.client label.tid ≡ None) where
    -- its updates do not fit
    pub misfits : ReadsHold before.tree access.reads → (FitInTurn before.tree access.updates → ⊥)
        → IsMessage IsReply reply_spelling bytes (Conflict (length access.reads + 1) Away)
        → IsAnswered before was (Commit label access lines) bytes before was
    misfits holds unfit spelled = record {
      reply = Conflict (length access.reads + 1) Away;
      answers = subst (λ (n : Option ℕ). Submits n before label access (Conflict (length access.reads + 1) Away) before) (sym new)
          (Holds, holds, inr (unfit, refl, refl));
      encodes = refl;
      spelled = spelled;
    }

    -- nothing is committed
    pub conflicted : (verdict : Verdict) (read : ℕ) (answer : Answer) → IsVerdictOnAccess before.tree access verdict
        → FollowsVerdict verdict before label access (Conflict read answer) before
        → IsMessage IsReply reply_spelling bytes (Conflict read answer)
        → IsAnswered before was (Commit label access lines) bytes before was
    conflicted verdict read answer judged follows spelled = record {
      reply = Conflict read answer;
      answers =
          subst (λ (n : Option ℕ). Submits n before label access (Conflict read answer) before) (sym new) (verdict, judged, follows);
      encodes = refl;
      spelled = spelled;
    }

    -- it is committed
    pub made : (after : State) (now : Encoded) → ReadsHold before.tree access.reads → FitInTurn before.tree access.updates
        → after ≡ after_commit before label access → IsGrown was before (record { label = label; access = access; lines = lines }) now
        → IsMessage IsReply reply_spelling bytes (Committed (length before.labels + 1))
        → IsAnswered before was (Commit label access lines) bytes after now
    made after now holds fit state grown spelled = record {
      reply = Committed (length before.labels + 1);
      answers =
          subst (λ (n : Option ℕ). Submits n before label access (Committed (length before.labels + 1)) after) (sym new)
          (Holds, holds, inl (fit, refl, state));
      encodes = grown;
      spelled = spelled;
    }
