-- Lists that begin with the commits of others, and the server's calls, which keep what its list begins with.
use Rattle.std.proofs.Common.{◌≡◌, ℕ, zero, suc, Bool, true, false, List, [], ◌∷◌, ◌++◌, Option, Some, None, inl, inr, slice_get}
use Rattle.std.proofs.Common.{refl, sym, ap, subst, ◌∙◌}
use Rattle.std.specs.Prelude.{IfSome}
use Rattle.std.proofs.lemmas.List.{append_assoc, append-nil}
use Rattle.iot_machine.specs.Machine.{Commit, add_commit}
use Rattle.iot_machine.specs.Nodes.{Node}
use Rattle.iot_machine.specs.Serving.{Submission, Verdict, Judges, judged, Certifies, holds, conflicts, Commits, committed, server_name}
use Rattle.iot_machine.specs.Sound.{Possibly}
use Rattle.iot_machine.specs.Stops.{OpensNode, Appends, SettlesAs, ComesBackAs, Crashes, Restarts}
use Rattle.iot_machine.specs.Texts.{restart_words}
use Rattle.iot_machine.proofs.KeepsLaws.{Keeps, Stays, keeps_gets, keeps_does, stays_asks, stays_answers, stays_says}
use Rattle.iot_machine.proofs.KeepsLaws.{keeps_then, stays_then, asks_then, keeps_either}
use Rattle.iot_lasting.specs.Lasting.{IsFront, AddsOne, StandsAt, IsGrowing, Lasts}

-- ---- lists

front_itself : (commits : List Commit) → IsFront commits commits
front_itself commits = record { more = []; is = sym (append-nil commits) }

front_on : (commits later last : List Commit) → IsFront commits later → IsFront later last → IsFront commits last
front_on commits later last one two = record {
  more = one.more ++ two.more;
  is = two.is ∙ ap (λ (list : List Commit). list ++ two.more) one.is ∙ append_assoc commits one.more two.more;
}

front_adds : (commits later : List Commit) → AddsOne commits later → IsFront commits later
front_adds commits later it = record { more = it.commit ∷ []; is = it.is }

-- what stands in the front stands in the later list
pub stands_on : (place : ℕ) (commit : Commit) (commits later : List Commit) → IsFront commits later → StandsAt place commit commits
    → StandsAt place commit later
stands_on place commit commits later front stands =
    ap (λ (list : List Commit). slice_get list place) front.is ∙ in_front place commits front.more stands
  where
    in_front : (place : ℕ) (commits more : List Commit) → StandsAt place commit commits → StandsAt place commit (commits ++ more)
    in_front place [] more stands = absurd cc
    in_front zero (one ∷ commits) more stands = stands
    in_front (suc place) (one ∷ commits) more stands = in_front place commits more stands

-- ---- the server's calls

-- whichever list it comes back with
pub possibly_front : (node n : Node (List Commit)) → Lasts node n → Possibly (IsFront node.durable) n
possibly_front node n it = record { is = it.front; may_be = by_doubt n.doubt it.growing.adds }
  where
    by_doubt : (doubt : Option (List Commit)) → IfSome doubt (AddsOne n.durable) → IfSome doubt (IsFront node.durable)
    by_doubt None adds = tt
    by_doubt (Some after) adds = front_on node.durable n.durable after it.front (front_adds n.durable after adds)

pub lasts_itself : (node : Node (List Commit)) → IsGrowing node → Lasts node node
lasts_itself node growing = record { front = front_itself node.durable; growing = growing }

-- one that has nothing in doubt
lasts_sure : (b node : Node (List Commit)) → node.doubt ≡ None → IsFront b.durable node.durable → Lasts b node
lasts_sure b node none front = record {
  front = front;
  growing = record { sure = λ _. none; adds = subst (λ (doubt : Option (List Commit)). IfSome doubt (AddsOne node.durable)) (sym none) tt };
}

-- the same list and doubt, and no more alive
pub lasts_same : (b node n : Node (List Commit)) → n.durable ≡ node.durable → n.doubt ≡ node.doubt → (n.alive ≡ true → node.alive ≡ true)
    → Lasts b node → Lasts b n
lasts_same b node n durable doubt alive it = record {
  front = subst (IsFront b.durable) (sym durable) it.front;
  growing = record {
    sure = λ up. doubt ∙ it.growing.sure (alive up);
    adds = rw (doubt, durable) it.growing.adds;
  };
}

module _ (b : Node (List Commit)) where
  -- alive, too
  abbrev pub LastsUp : Node (List Commit) → Type 0
  LastsUp node = Lasts b node × (node.alive ≡ true)

  appends_last : (commit : Commit) → Keeps LastsUp (Appends server_name (add_commit commit)) (λ _. Lasts b)
  appends_last commit = record { at = by_step }
    where
      adds : (node : Node (List Commit)) → AddsOne node.durable (add_commit commit node.durable)
      adds node = record { commit = commit; is = refl }

      by_step : (node n : Node (List Commit)) (text : List ℕ) (on : Bool) → LastsUp node
          → Appends server_name (add_commit commit) node text on n → Lasts b n
      by_step node n text on here (inl went) = rw went.2
          (lasts_sure b _ (here.0.growing.sure here.1)
          (front_on b.durable node.durable _ here.0.front (front_adds node.durable _ (adds node))))
      by_step node n text on here (inr stopped) = rw stopped.2.is (record {
        front = here.0.front;
        growing = record { sure = λ up. absurd cc; adds = adds node };
      })

  pub judges_last : (it : Submission) → Keeps LastsUp (Judges it) (λ _. Lasts b)
  judges_last it = asks_then by_number
    where
      commits_last : Keeps LastsUp (Commits it.name it.commit) (λ _. Lasts b)
      commits_last = asks_then (λ text. keeps_then (appends_last it.commit) (by_answer text))
        where
          by_answer : (text : List ℕ) (on : Bool) → Stays (Lasts b) (committed text on)
          by_answer text true = stays_then stays_says (λ _. stays_asks)
          by_answer text false = stays_answers

      certifies : (node n : Node (List Commit)) (text : List ℕ) (verdict : Option Verdict) → LastsUp node → Certifies it node text verdict n
          → Lasts b n
      certifies node n text verdict here (holds reads commits) = commits_last.at node n text verdict here commits
      certifies node n text verdict here (conflicts parts nothing stays) = rw stays here.0

      by_number : (number : Option ℕ) → Keeps LastsUp (judged it number) (λ _. Lasts b)
      by_number (Some number) = keeps_gets (λ node here. here.0)
      by_number None = record { at = certifies }

  pub comes_last : (words name : List ℕ) (says : List Commit → List Commit → List ℕ) → Stays (Lasts b) (ComesBackAs words name says)
  comes_last words name says = record { at = by_step }
    where
      settles : (node n : Node (List Commit)) (text : List ℕ) (doubt : Option (List Commit)) → IfSome doubt (AddsOne node.durable)
          → Lasts b node → SettlesAs words says doubt node text n → Lasts b n
      settles node n text None adds here step = rw step.1 (lasts_sure b _ refl here.front)
      settles node n text (Some after) adds here (inl step) = rw step.1
          (lasts_sure b _ refl (front_on b.durable node.durable after here.front (front_adds node.durable after adds)))
      settles node n text (Some after) adds here (inr step) = rw step.1 (lasts_sure b _ refl here.front)

      by_step : (node n : Node (List Commit)) (text : List ℕ) (on : Bool) → Lasts b node → ComesBackAs words name says node text on n
          → Lasts b n
      by_step node n text on here (inl step) = settles node n text node.doubt here.growing.adds here step.1
      by_step node n text on here (inr step) = rw step.2.is (lasts_same b node _ refl refl (λ up. up) here)

  pub restarts_last : (name : List ℕ) (says : List Commit → List Commit → List ℕ) → Stays (Lasts b) (Restarts name says)
  restarts_last name says = asks_then (keeps_either stays_says (stays_then (comes_last (restart_words name) name says) (λ _. stays_says)))

  pub crashes_last : (name : List ℕ) → Stays (Lasts b) (Crashes name)
  crashes_last name =
      asks_then (keeps_either (keeps_does (λ node here. lasts_same b node _ refl refl (λ up. absurd cc) here)) stays_says)

  -- one without a doubt starts
  pub opens_last : Keeps (λ node. Lasts b node × (node.doubt ≡ None)) (OpensNode server_name) (λ _. Lasts b)
  opens_last = record { at = by_step }
    where
      by_step : (node n : Node (List Commit)) (text : List ℕ) (on : Bool) → Lasts b node × (node.doubt ≡ None)
          → OpensNode server_name node text on n → Lasts b n
      by_step node n text on here (inl step) = rw step.2 (lasts_sure b _ here.1 here.0.front)
      by_step node n text on here (inr step) = rw step.2.is (lasts_same b node _ refl refl (λ up. up) here.0)
