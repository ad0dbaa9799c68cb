-- What is so of each state that a node may come back with, and stays so in its calls.
use Rattle.std.proofs.Common.{◌≡◌, ℕ, Bool, true, false, List, ◌++◌, Option, Some, None, inl, inr, refl, sym, subst, ◌∙◌, codes}
use Rattle.std.specs.Prelude.{IfSome}
use Rattle.iot_disk.specs.declared.disk.Pick.{Pick}
use Rattle.iot_machine.specs.Calls.{Call, Asks, Does, Says, Nothing, Then, either}
use Rattle.iot_machine.specs.Clients.{ClientState}
use Rattle.iot_machine.specs.Machine.{Commit}
use Rattle.iot_machine.specs.Nodes.{Node, fallen, doubting, armed}
use Rattle.iot_machine.specs.Stops.{IsStopped, OpensNode, Appends, SettlesAs, ComesBackAs, ComesBack, Crashes, Restarts, ArmsDisk}
use Rattle.iot_machine.specs.Stops.{Shows}
use Rattle.iot_machine.specs.Texts.{line, restart_words}
use Rattle.iot_machine.specs.Sound.{Possibly, IsSure, AreNumbered, ArePlanned, Knows}
use Rattle.iot_machine.proofs.FollowsLaws.{Follows}

-- ---- of any node

module _ {S : Type 0} where
  if_some_as : {P Q : S → Type 0} (o : Option S) → ((s : S) → P s → Q s) → IfSome o P → IfSome o Q
  if_some_as None goes it = tt
  if_some_as (Some s) goes it = goes s it

  if_some_with : {P Q R : S → Type 0} (o : Option S) → ((s : S) → P s → Q s → R s) → IfSome o P → IfSome o Q → IfSome o R
  if_some_with None goes it other = tt
  if_some_with (Some s) goes it other = goes s it other

  if_some_of : {P : S → Type 0} (o : Option S) → ((s : S) → P s) → IfSome o P
  if_some_of None each = tt
  if_some_of (Some s) each = each s

  pub possibly_as : {P Q : S → Type 0} (node : Node S) → ((s : S) → P s → Q s) → Possibly P node → Possibly Q node
  possibly_as node goes it = record { is = goes node.durable it.is; may_be = if_some_as node.doubt goes it.may_be }

  pub possibly_with : {P Q R : S → Type 0} (node : Node S) → ((s : S) → P s → Q s → R s) → Possibly P node → Possibly Q node
      → Possibly R node
  possibly_with node goes it other =
      record { is = goes node.durable it.is other.is; may_be = if_some_with node.doubt goes it.may_be other.may_be }

  pub possibly_of : {P : S → Type 0} (node : Node S) → ((s : S) → P s) → Possibly P node
  possibly_of node each = record { is = each node.durable; may_be = if_some_of node.doubt each }

  -- of one without a doubt
  pub possibly_sure : {P : S → Type 0} (node : Node S) → node.doubt ≡ None → P node.durable → Possibly P node
  possibly_sure {P} node sure it = record { is = it; may_be = subst (λ (o : Option S). IfSome o P) (sym sure) tt }

  -- the same states
  pub record SameStates (node n : Node S) : Type 0 where
    pub durable : n.durable ≡ node.durable
    pub doubt : n.doubt ≡ node.doubt

  pub possibly_same : {P : S → Type 0} (node n : Node S) → SameStates node n → Possibly P node → Possibly P n
  possibly_same {P} node n same it =
      record { is = subst P (sym same.durable) it.is; may_be = subst (λ (o : Option S). IfSome o P) (sym same.doubt) it.may_be }

  -- each state of the one is a state of the other, and it is as sure
  pub record Within (node n : Node S) : Type 1 where
    pub sure : IsSure node → IsSure n
    pub each : (P : S → Type 0) → Possibly P node → Possibly P n

  pub same_within : (node n : Node S) → SameStates node n → (IsSure node → IsSure n) → Within node n
  same_within node n same sure = record { sure = sure; each = λ P. possibly_same node n same }

  pub within_itself : (node n : Node S) → n ≡ node → Within node n
  within_itself node n is = rw is (record { sure = λ it. it; each = λ P it. it })

  -- ---- one that stops

  stopped_states : (node n : Node S) → IsStopped node n → SameStates node n
  stopped_states node n stop = rw stop.is (record { durable = refl; doubt = refl })

  stopped_alive : (node n : Node S) → IsStopped node n → n.alive ≡ node.alive
  stopped_alive node n stop = rw stop.is refl

  stopped_sure : (node n : Node S) → IsSure node → IsStopped node n → IsSure n
  stopped_sure node n sure stop = λ up. (stopped_states node n stop).doubt ∙ sure (sym (stopped_alive node n stop) ∙ up)

  -- ---- its calls

  pub opens_states : (name : List ℕ) (node n : Node S) (text : List ℕ) (on : Bool) → OpensNode name node text on n → SameStates node n
  opens_states name node n text on (inl step) = rw step.2 (record { durable = refl; doubt = refl })
  opens_states name node n text on (inr step) = stopped_states node n step.2

  pub opens_sure : (name : List ℕ) (node n : Node S) (text : List ℕ) (on : Bool) → node.doubt ≡ None → OpensNode name node text on n
      → IsSure n
  opens_sure name node n text on none step = λ up. (opens_states name node n text on step).doubt ∙ none

  pub appends_possibly : {P : S → Type 0} (name : List ℕ) (change : S → S) (node n : Node S) (text : List ℕ) (on : Bool)
      → (P node.durable → P (change node.durable)) → Possibly P node → Appends name change node text on n → Possibly P n
  appends_possibly name change node n text on goes it (inl step) = rw step.2 (record { is = goes it.is; may_be = it.may_be })
  appends_possibly name change node n text on goes it (inr step) =
      possibly_same (doubting change node) n (stopped_states (doubting change node) n step.2)
      (record { is = it.is; may_be = goes it.is })

  pub appends_sure : (name : List ℕ) (change : S → S) (node n : Node S) (text : List ℕ) (on : Bool) → IsSure node
      → Appends name change node text on n → IsSure n
  appends_sure name change node n text on sure (inl step) = rw step.2 sure
  appends_sure name change node n text on sure (inr step) =
      stopped_sure (doubting change node) n (λ up. absurd cc) step.2

  -- one that goes on has made the change
  pub appends_durable : (name : List ℕ) (change : S → S) (node n : Node S) (text : List ℕ) → Appends name change node text true n
      → n.durable ≡ change node.durable
  appends_durable name change node n text (inl step) = rw step.2 refl
  appends_durable name change node n text (inr step) = absurd cc

  pub appends_alive : (name : List ℕ) (change : S → S) (node n : Node S) (text : List ℕ) → node.alive ≡ true
      → Appends name change node text true n → n.alive ≡ true
  appends_alive name change node n text up (inl step) = rw step.2 up
  appends_alive name change node n text up (inr step) = absurd cc

  settles_possibly : {P : S → Type 0} (words : List ℕ) (says : S → S → List ℕ) (doubt : Option S) (node n : Node S) (text : List ℕ)
      → P node.durable → IfSome doubt P → SettlesAs words says doubt node text n → Possibly P n
  settles_possibly words says None node n text it other step = rw step.1 (record { is = it; may_be = tt })
  settles_possibly words says (Some after) node n text it other (inl step) = rw step.1 (record { is = other; may_be = tt })
  settles_possibly words says (Some after) node n text it other (inr step) = rw step.1 (record { is = it; may_be = tt })

  settles_none : (words : List ℕ) (says : S → S → List ℕ) (doubt : Option S) (node n : Node S) (text : List ℕ)
      → SettlesAs words says doubt node text n → n.doubt ≡ None
  settles_none words says None node n text step = rw step.1 refl
  settles_none words says (Some after) node n text (inl step) = rw step.1 refl
  settles_none words says (Some after) node n text (inr step) = rw step.1 refl

  comes_possibly : {P : S → Type 0} (words name : List ℕ) (says : S → S → List ℕ) (node n : Node S) (text : List ℕ) (on : Bool)
      → Possibly P node → ComesBackAs words name says node text on n → Possibly P n
  comes_possibly words name says node n text on it (inl step) =
      settles_possibly words says node.doubt node n text it.is it.may_be step.1
  comes_possibly words name says node n text on it (inr step) = possibly_same node n (stopped_states node n step.2) it

  comes_sure : (words name : List ℕ) (says : S → S → List ℕ) (node n : Node S) (text : List ℕ) (on : Bool) → IsSure node
      → ComesBackAs words name says node text on n → IsSure n
  comes_sure words name says node n text on sure (inl step) = λ up. settles_none words says node.doubt node n text step.1
  comes_sure words name says node n text on sure (inr step) = stopped_sure node n sure step.2

  -- at an event with these words
  pub comes_as_within : (words name : List ℕ) (says : S → S → List ℕ) (node n : Node S) (text : List ℕ) (on : Bool)
      → ComesBackAs words name says node text on n → Within node n
  comes_as_within words name says node n text on step = record {
    sure = λ sure. comes_sure words name says node n text on sure step;
    each = λ P it. comes_possibly words name says node n text on it step;
  }

  pub comes_within : (name : List ℕ) (says : S → S → List ℕ) (node n : Node S) (text : List ℕ) (on : Bool)
      → ComesBack name says node text on n → Within node n
  comes_within name says node n text on step = comes_as_within (restart_words name) name says node n text on step

-- ---- of a client's node

-- what must hold of each state of the one holds of each of the other's
pub record Continues (node n : Node ClientState) : Type 0 where
  pub sure : IsSure node → IsSure n
  pub numbered : Possibly AreNumbered node → Possibly AreNumbered n
  pub planned : Possibly ArePlanned node → Possibly ArePlanned n
  pub known : (commit : Commit) → Possibly (Knows commit) node → Possibly (Knows commit) n

pub within_continues : (node n : Node ClientState) → Within node n → Continues node n
within_continues node n within = record {
  sure = within.sure;
  numbered = within.each AreNumbered;
  planned = within.each ArePlanned;
  known = λ commit. within.each (Knows commit);
}

pub appends_continues : (name : List ℕ) (change : ClientState → ClientState) (node n : Node ClientState) (text : List ℕ) (on : Bool)
    → Follows node.durable (change node.durable) → Appends name change node text on n → Continues node n
appends_continues name change node n text on follows step = record {
  sure = λ sure. appends_sure name change node n text on sure step;
  numbered = λ it. appends_possibly name change node n text on follows.numbered it step;
  planned = λ it. appends_possibly name change node n text on follows.planned it step;
  known = λ commit it. appends_possibly name change node n text on (follows.known commit) it step;
}

-- ---- calls of a node that give it no other state

module _ {S : Type 0} where
  -- by what is asked of it
  asks_within : {A B : Type 0} {ask : Node S → A} (next : A → Call (Node S) B)
      → ((a : A) (node n : Node S) (text : List ℕ) (b : B) → next a node text b n → Within node n)
      → (node n : Node S) (text : List ℕ) (b : B) → Then (Asks ask) next node text b n → Within node n
  asks_within next each node n text b step = each step.answer node n step.rest b
      (subst (λ (mid : Node S). next step.answer mid step.rest b n) step.first.2 step.second)

  pub crashes_within : (name : List ℕ) (node n : Node S) (text : List ℕ) (a : Unit {0}) → Crashes name node text a n → Within node n
  crashes_within name node n text a step = asks_within _ by_alive node n text a step
    where
      by_alive : (up : Bool) (node n : Node S) (text : List ℕ) (a : Unit {0})
          → either (Does (λ _. line (codes "crash " ++ name)) fallen) (Says (λ _. line (codes "down"))) up node text a n → Within node n
      by_alive true node n text a step =
          rw step.1 (same_within node (fallen node) (record { durable = refl; doubt = refl }) (λ sure up. absurd cc))
      by_alive false node n text a step = within_itself node n step.1

  pub restarts_within : (name : List ℕ) (says : S → S → List ℕ) (node n : Node S) (text : List ℕ) (a : Unit {0})
      → Restarts name says node text a n → Within node n
  restarts_within name says node n text a step = asks_within _ by_alive node n text a step
    where
      by_alive : (up : Bool) (node n : Node S) (text : List ℕ) (a : Unit {0})
          → either (Says (λ _. line (codes "up"))) (Then (ComesBack name says) (λ _. Nothing)) up node text a n → Within node n
      by_alive true node n text a step = within_itself node n step.1
      by_alive false node n text a step =
          rw step.second.1 (comes_within name says node step.mid step.front step.answer step.first)

  pub arms_within : (name : List ℕ) (calls : ℕ) (pick : Pick) (node n : Node S) (text : List ℕ) (a : Unit {0})
      → ArmsDisk name calls pick node text a n → Within node n
  arms_within name calls pick node n text a step =
      rw step.1 (same_within node (armed calls pick node) (record { durable = refl; doubt = refl }) (λ sure. sure))

  pub shows_within : (told : S → List ℕ) (node n : Node S) (text : List ℕ) (a : Unit {0}) → Shows told node text a n → Within node n
  shows_within told node n text a step = asks_within _ by_alive node n text a step
    where
      by_alive : (up : Bool) (node n : Node S) (text : List ℕ) (a : Unit {0})
          → either (Says (λ node. told node.durable)) (Says (λ _. line (codes "down"))) up node text a n → Within node n
      by_alive true node n text a step = within_itself node n step.1
      by_alive false node n text a step = within_itself node n step.1
