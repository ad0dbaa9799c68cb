-- How often nodes stop, and what their disks count then.
use Rattle.std.proofs.Common.{◌≡◌, ℕ, Bool, true, false, List, ◌++◌, length, Option, Some, None, inl, inr, refl, sym, ap, subst, ◌∙◌}
use Rattle.std.proofs.Common.{◌+◌, codes}
use Rattle.std.proofs.lemmas.List.{length-set}
use Rattle.iot_count.specs.Counts.{Rose}
use Rattle.iot_machine.specs.Calls.{Call, Asks, Does, Says, Nothing, Then, either}
use Rattle.iot_machine.specs.Counting.{IsSteady, HasStopped, StopsOnce, Since}
use Rattle.iot_machine.specs.Machine.{Machine, Client, no_client, client_in, put_client}
use Rattle.iot_machine.specs.Nodes.{Node, Counts, fallen, doubting}
use Rattle.iot_machine.specs.Stops.{IsStopped, OpensNode, Appends, SettlesAs, ComesBackAs, ComesBack, Crashes, Restarts, Shows}
use Rattle.iot_machine.specs.Texts.{line, restart_words}
use Rattle.iot_machine.proofs.FollowsLaws.{at_set}

-- ---- a node

module _ {S : Type 0} where
  pub steady : (node : Node S) → IsSteady node node
  steady node = record { counts = refl; stops = refl }

  -- one that is alive has not stopped
  pub steady_alive : (base node : Node S) → StopsOnce base node → node.alive ≡ true → IsSteady base node
  steady_alive base node (inl it) up = it
  steady_alive base node (inr stop) up = let never : true ≡ false = sym up ∙ stop.down in absurd cc

  -- one that stops now
  stops_now : (base node n : Node S) → IsSteady base node → node.alive ≡ false → IsStopped node n → HasStopped base n
  stops_now base node n it down stop =
      rw stop.is (record {
        down = down;
        rose = subst (λ (counts : Counts). Rose counts.faults stop.faults) it.counts stop.rose;
        arms = ap (λ (counts : Counts). counts.arms) it.counts;
        stops = ap (λ k. k + 1) it.stops;
      })

  pub appends_once : (name : List ℕ) (change : S → S) (base node n : Node S) (text : List ℕ) (on : Bool) → IsSteady base node
      → Appends name change node text on n → StopsOnce base n
  appends_once name change base node n text on it (inl step) = rw step.2 (inl (record { counts = it.counts; stops = it.stops }))
  appends_once name change base node n text on it (inr step) =
      inr (stops_now base (doubting change node) n (record { counts = it.counts; stops = it.stops }) refl step.2)

  -- one that goes on
  pub appends_steady : (name : List ℕ) (change : S → S) (base node n : Node S) (text : List ℕ) → IsSteady base node
      → Appends name change node text true n → IsSteady base n
  appends_steady name change base node n text it (inl step) = rw step.2 (record { counts = it.counts; stops = it.stops })
  appends_steady name change base node n text it (inr step) = absurd cc

  pub opens_once : (name : List ℕ) (node n : Node S) (text : List ℕ) (on : Bool) → node.alive ≡ false → OpensNode name node text on n
      → StopsOnce node n
  opens_once name node n text on down (inl step) = rw step.2 (inl (record { counts = refl; stops = refl }))
  opens_once name node n text on down (inr step) = inr (stops_now node node n (steady node) down step.2)

  settles_steady : (words : List ℕ) (says : S → S → List ℕ) (doubt : Option S) (node n : Node S) (text : List ℕ)
      → SettlesAs words says doubt node text n → IsSteady node n
  settles_steady words says None node n text step = rw step.1 (record { counts = refl; stops = refl })
  settles_steady words says (Some after) node n text (inl step) = rw step.1 (record { counts = refl; stops = refl })
  settles_steady words says (Some after) node n text (inr step) = rw step.1 (record { counts = refl; stops = refl })

  -- it comes back at an event with these words, or stops again
  pub comes_as_once : (words name : List ℕ) (says : S → S → List ℕ) (node n : Node S) (text : List ℕ) (on : Bool) → node.alive ≡ false
      → ComesBackAs words name says node text on n → StopsOnce node n
  comes_as_once words name says node n text on down (inl step) = inl (settles_steady words says node.doubt node n text step.1)
  comes_as_once words name says node n text on down (inr step) = inr (stops_now node node n (steady node) down step.2)

  pub comes_once : (name : List ℕ) (says : S → S → List ℕ) (node n : Node S) (text : List ℕ) (on : Bool) → node.alive ≡ false
      → ComesBack name says node text on n → StopsOnce node n
  comes_once name says node n text on down step = comes_as_once (restart_words name) name says node n text on down step

  pub comes_steady : (name : List ℕ) (says : S → S → List ℕ) (node n : Node S) (text : List ℕ) → ComesBack name says node text true n
      → IsSteady node n
  comes_steady name says node n text (inl step) = settles_steady (restart_words name) says node.doubt node n text step.1
  comes_steady name says node n text (inr step) = absurd cc

  -- what is asked of it, and then a call by the answer
  asks_once : {A B : Type 0} {ask : Node S → A} (next : A → Call (Node S) B)
      → ((a : A) (node n : Node S) (text : List ℕ) (b : B) → a ≡ ask node → next a node text b n → StopsOnce node n)
      → (node n : Node S) (text : List ℕ) (b : B) → Then (Asks ask) next node text b n → StopsOnce node n
  asks_once next each node n text b step = each step.answer node n step.rest b step.first.1
      (subst (λ (mid : Node S). next step.answer mid step.rest b n) step.first.2 step.second)

  stays_once : (node n : Node S) → n ≡ node → StopsOnce node n
  stays_once node n is = rw is (inl (steady node))

  pub crashes_once : (name : List ℕ) (node n : Node S) (text : List ℕ) (a : Unit {0}) → Crashes name node text a n → StopsOnce node n
  crashes_once name node n text a step = asks_once _ by_alive node n text a step
    where
      by_alive : (up : Bool) (node n : Node S) (text : List ℕ) (a : Unit {0}) → up ≡ node.alive
          → either (Does (λ _. line (codes "crash " ++ name)) fallen) (Says (λ _. line (codes "down"))) up node text a n
          → StopsOnce node n
      by_alive true node n text a is step = rw step.1 (inl (record { counts = refl; stops = refl }))
      by_alive false node n text a is step = stays_once node n step.1

  pub restarts_once : (name : List ℕ) (says : S → S → List ℕ) (node n : Node S) (text : List ℕ) (a : Unit {0})
      → Restarts name says node text a n → StopsOnce node n
  restarts_once name says node n text a step = asks_once _ by_alive node n text a step
    where
      by_alive : (up : Bool) (node n : Node S) (text : List ℕ) (a : Unit {0}) → up ≡ node.alive
          → either (Says (λ _. line (codes "up"))) (Then (ComesBack name says) (λ _. Nothing)) up node text a n → StopsOnce node n
      by_alive true node n text a is step = stays_once node n step.1
      by_alive false node n text a is step =
          rw step.second.1 (comes_once name says node step.mid step.front step.answer (sym is) step.first)

  pub shows_once : (told : S → List ℕ) (node n : Node S) (text : List ℕ) (a : Unit {0}) → Shows told node text a n → StopsOnce node n
  shows_once told node n text a step = asks_once _ by_alive node n text a step
    where
      by_alive : (up : Bool) (node n : Node S) (text : List ℕ) (a : Unit {0}) → up ≡ node.alive
          → either (Says (λ node. told node.durable)) (Says (λ _. line (codes "down"))) up node text a n → StopsOnce node n
      by_alive true node n text a is step = stays_once node n step.1
      by_alive false node n text a is step = stays_once node n step.1

-- ---- a machine

pub since_itself : (m : Machine) → Since m m
since_itself m = record {
  server = inl (steady m.server);
  clients = λ c. inl (steady (client_in m c).node);
  count = refl;
  promoted = refl;
  beside = refl;
  spare = refl;
}

-- the same clients and disks
pub record SameRest (m n : Machine) : Type 0 where
  pub clients : n.clients ≡ m.clients
  pub promoted : n.promoted ≡ m.promoted
  pub beside : n.beside ≡ m.beside
  pub spare : n.spare ≡ m.spare

-- with another server
pub since_server : (b m n : Machine) → SameRest m n → StopsOnce b.server n.server → Since b m → Since b n
since_server b m n rest server since = record {
  server = server;
  clients = λ c. rw rest.clients (since.clients c);
  count = ap length rest.clients ∙ since.count;
  promoted = rest.promoted ∙ since.promoted;
  beside = rest.beside ∙ since.beside;
  spare = rest.spare ∙ since.spare;
}

-- what is so of the node at a place, there and in another machine, is so with another client in that place
pub put_at : (P : Client → Client → Type 0) (b m : Machine) (c k : ℕ) (client : Client)
    → (P (client_in b c) (client_in m c) → P (client_in b c) client) → P (client_in b k) (client_in m k)
    → P (client_in b k) (client_in (put_client c client m) k)
put_at P b m c k client goes it = at_set (λ one. P (client_in b k) one) m.clients c k client no_client
    (λ same here. subst (λ n. P (client_in b n) client) (sym same)
    (goes (subst (λ n. P (client_in b n) (client_in m c)) same here))) it

-- with another client
pub since_put : (b m : Machine) (c : ℕ) (client : Client)
    → (StopsOnce (client_in b c).node (client_in m c).node → StopsOnce (client_in b c).node client.node) → Since b m
    → Since b (put_client c client m)
since_put b m c client goes since = record {
  server = since.server;
  clients = λ k. put_at (λ one other. StopsOnce one.node other.node) b m c k client goes (since.clients k);
  count = length-set m.clients c client ∙ since.count;
  promoted = since.promoted;
  beside = since.beside;
  spare = since.spare;
}
