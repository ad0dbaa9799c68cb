-- Each event keeps a machine sound; in it each node stops at most once, and disks are armed by `stop` alone.
use Rattle.std.proofs.Common.{◌≡◌, ℕ, ◌<◌, ◌==◌, Bool, true, false, List, [], ◌∷◌, length, None, inl, inr, refl, sym, ap}
use Rattle.std.proofs.Common.{subst}
use Rattle.std.proofs.Common.{◌∙◌, zero, suc, slice_index_or, slice_set, arith, codes}
use Rattle.std.proofs.lemmas.List.{length-set}
use Rattle.std.proofs.lemmas.Bool.{cases_Bool}
use Rattle.std.proofs.lemmas.Bool.Decides.{nat_tests}
use Rattle.iot_disk.specs.declared.disk.Pick.{Pick}
use Rattle.iot_event.specs.declared.event.ClientEvent.TheVariants as client_events
use Rattle.iot_event.specs.declared.event.Event.{Event}
use Rattle.iot_event.specs.declared.event.Event.TheVariants as events
use Rattle.iot_event.specs.declared.event.LinkEvent.{LinkEvent}
use Rattle.iot_event.specs.declared.event.LinkEvent.TheVariants as links
use Rattle.iot_event.specs.declared.event.NodeEvent.{NodeEvent}
use Rattle.iot_event.specs.declared.event.NodeEvent.TheVariants as nodes
use Rattle.iot_link.specs.Links.{LinkState}
use Rattle.iot_machine.specs.Calls.{Call, Part, Try, At, Asks, Says, Then, either, goes_on, Whole}
use Rattle.iot_machine.specs.Clients.{Running, ClientState, view, cut}
use Rattle.iot_machine.specs.Counting.{IsSteady, StopsOnce, Since, base_of, base_of_promote, EventCounts, EventKeepsSound}
use Rattle.iot_machine.specs.Counting.{OpeningCounts, OpeningIsSound}
use Rattle.iot_machine.specs.Events.{add_client, Declares, declare_script, IfUp, OfClient}
use Rattle.iot_machine.specs.Events.{FindsLongest, cuts_off, no_text, comes_back, RestartsClient, ArmsClient, counts_anew}
use Rattle.iot_machine.specs.Events.{RestartsServer, promotes_unless, Promotes, ArmsBackup, link_part, event_part}
use Rattle.iot_machine.specs.Machine.{Machine, Client, Commit, no_client, client_in, put_client, server, client_at, node, Pair, pair_at}
use Rattle.iot_machine.specs.Machine.{tree_after, handed, give_up, arm_backup}
use Rattle.iot_machine.specs.Nodes.{Node, Counts, armed, arming_as}
use Rattle.iot_machine.specs.Serving.{server_name, kept_text}
use Rattle.iot_machine.specs.Sound.{Possibly, Knows, IsSureOf, IsNumbered, HasPlans, IsListed, IsSound}
use Rattle.iot_machine.specs.Stops.{OpensNode, Appends, ComesBackAs, ComesBack, ArmsDisk}
use Rattle.iot_machine.specs.Texts.{line, promote_words, tree_text}
use Rattle.iot_machine.specs.Transactions.{Writes}
use Rattle.iot_machine.specs.Transcript.{Opening}
use Rattle.iot_machine.proofs.KeepsLaws.{Keeps, Stays, keeps_gets, keeps_asks, keeps_does, stays_says, keeps_from, keeps_then, stays_then}
use Rattle.iot_machine.proofs.KeepsLaws.{asks_then, keeps_either, stays_goes_on, keeps_whole, keeps_at}
use Rattle.iot_machine.proofs.FollowsLaws.{all_at, all_set, at_set, all_as, cut_follows}
use Rattle.iot_machine.proofs.PossiblyLaws.{possibly_as, Within, within_itself, same_within, opens_states, opens_sure, comes_within}
use Rattle.iot_machine.proofs.PossiblyLaws.{comes_as_within}
use Rattle.iot_machine.proofs.PossiblyLaws.{Continues, within_continues, appends_continues, crashes_within, restarts_within, arms_within}
use Rattle.iot_machine.proofs.PossiblyLaws.{shows_within}
use Rattle.iot_machine.proofs.CountingLaws.{steady, appends_once, appends_steady, opens_once, comes_once, comes_steady, crashes_once}
use Rattle.iot_machine.proofs.CountingLaws.{comes_as_once, restarts_once, shows_once, since_itself, SameRest, since_server, since_put}
use Rattle.iot_machine.proofs.CountingLaws.{put_at}
use Rattle.iot_machine.proofs.MachinesLaws.{sound_from, put_sound, new_numbered, added_sound, added_at}
use Rattle.iot_machine.proofs.PairLaws.{Core, core, IsListedAt, IsPairSound, IsGood as IsPairGood, IsAwake}
use Rattle.iot_machine.proofs.CallsLaws.{Wakes, task_wakes}

-- with another server
sound_with : (m : Machine) (node : Node (List Commit)) → Within m.server node → IsSound m → IsSound (record m { server = node })
sound_with m node within sound = sound_from m (record m { server = node }) refl within sound

-- sound, and since the other machine each node has stopped at most once
pub record IsGood (b m : Machine) : Type 0 where
  pub sound : IsSound m
  pub since : Since b m

-- the same nodes
good_same : (b m n : Machine) → SameRest m n → n.server ≡ m.server → IsGood b m → IsGood b n
good_same b m n rest server it = record {
  sound = sound_from m n rest.clients (within_itself m.server n.server server) it.sound;
  since = since_server b m n rest (rw server it.since.server) it.since;
}

-- all but the server, the requests and the scripts are untouched
rest_same : (m n : Machine) → n.clients ≡ m.clients → n.promoted ≡ m.promoted → n.beside ≡ m.beside → n.spare ≡ m.spare → SameRest m n
rest_same m n clients promoted beside spare = record { clients = clients; promoted = promoted; beside = beside; spare = spare }

-- ---- a client with the server, and all others: what the two keep, the machine keeps

module _ (m : Machine) (c : ℕ) where
  -- of the other clients' commits it is known that they are listed
  into_pair : IsSound m → IsPairSound (IsListed m) (core ((pair_at c).get m))
  into_pair sound = record {
    sure = sound.sure;
    sure_of = all_at IsSureOf m.clients c no_client (λ up. refl) sound.sure_of;
    numbered = all_at IsNumbered m.clients c no_client
        (record { is = new_numbered; may_be = tt }) sound.numbered;
    planned = all_at HasPlans m.clients c no_client (record { is = tt; may_be = tt }) sound.planned;
    listed = possibly_as m.server (λ list. all_as (IsListed m) (IsListedAt (IsListed m) c (client_in m c).node) list stays) sound.listed;
    once = sound.once;
  }
    where
      stays : (commit : Commit) → IsListed m commit → IsListedAt (IsListed m) c (client_in m c).node commit
      stays commit it = record {
        own = λ same. subst (λ (k : ℕ). Possibly (Knows commit) (client_in m k).node) same it.known;
        other = λ _. it;
      }

  module _ (there : c < length m.clients) (pair : Pair) where
    -- at its place, and at another one
    here_put : (P : Client → Type 0) (xs : List Client) (k : ℕ) → k < length xs → P pair.client
        → P (slice_index_or (slice_set xs k pair.client) k no_client)
    here_put P [] k there it = absurd (omega (arith, there))
    here_put P (x ∷ xs) zero there it = it
    here_put P (x ∷ xs) (suc k) there it = here_put P xs k (omega (arith, there)) it

    out_of_pair : IsSound m → pair.place ≡ c → IsPairSound (IsListed m) (core pair) → IsSound ((pair_at c).set pair m)
    out_of_pair sound place it = record {
      sure = it.sure;
      sure_of = all_set IsSureOf m.clients c pair.client no_client (λ _. it.sure_of) sound.sure_of;
      numbered = all_set IsNumbered m.clients c pair.client no_client (λ _. it.numbered) sound.numbered;
      planned = all_set HasPlans m.clients c pair.client no_client (λ _. it.planned) sound.planned;
      listed = possibly_as pair.server
          (λ list. all_as (IsListedAt (IsListed m) pair.place pair.client.node) (IsListed ((pair_at c).set pair m)) list stays) it.listed;
      once = it.once;
    }
      where
        now : List Client
        now = slice_set m.clients c pair.client

        within : (k : ℕ) → k < length m.clients → k < length now
        within k = subst (λ (n : ℕ). k < n) (sym (length-set m.clients c pair.client))

        is_own : (commit : Commit) → commit.entry.client ≡ c → IsListedAt (IsListed m) pair.place pair.client.node commit
            → IsListed ((pair_at c).set pair m) commit
        is_own commit same it = record {
          client = within commit.entry.client (subst (λ (k : ℕ). k < length m.clients) (sym same) there);
          known = subst (λ (k : ℕ). Possibly (Knows commit) (slice_index_or now k no_client).node) (sym same)
              (here_put (λ one. Possibly (Knows commit) one.node) m.clients c there (it.own (same ∙ sym place)));
        }

        is_other : (commit : Commit) → (commit.entry.client ≡ c → ⊥) → IsListed m commit → IsListed ((pair_at c).set pair m) commit
        is_other commit other it = record {
          client = within commit.entry.client it.client;
          known = at_set (λ one. Possibly (Knows commit) one.node) m.clients c commit.entry.client pair.client no_client
              (λ same. absurd (other same)) it.known;
        }

        stays : (commit : Commit) → IsListedAt (IsListed m) pair.place pair.client.node commit → IsListed ((pair_at c).set pair m) commit
        stays commit it = elim (cases_Bool (commit.entry.client == c)) [
          | inl yes_ ↦ is_own commit (grind (arith, nat_tests, yes_)) it
          | inr no_ ↦ let other : commit.entry.client ≡ c → ⊥ = grind (arith, nat_tests, no_) in
              is_other commit other (it.other (λ same. other (same ∙ place)))
        ]

    pair_good : IsSound m → IsPairGood (IsListed m) (core ((pair_at c).get m)) pair → IsGood m ((pair_at c).set pair m)
    pair_good sound it = record {
      sound = out_of_pair sound it.place it.sound;
      since = record {
        server = it.server;
        clients = λ k. put_at (λ one other. StopsOnce one.node other.node) m m c k pair.client (λ _. it.client)
            (inl (steady (client_in m k).node));
        count = length-set m.clients c pair.client;
        promoted = refl;
        beside = refl;
        spare = refl;
      };
    }

-- a client that is alive is there
is_there : (clients : List Client) (c : ℕ) → (slice_index_or clients c no_client).node.alive ≡ true → c < length clients
is_there [] c up = absurd cc
is_there (client ∷ clients) zero up = omega arith
is_there (client ∷ clients) (suc c) up =
    let there : c < length clients = is_there clients c up in
    omega (arith, there)

-- as it was
set_same : (clients : List Client) (c : ℕ) → slice_set clients c (slice_index_or clients c no_client) ≡ clients
set_same [] c = refl
set_same (client ∷ clients) zero = refl
set_same (client ∷ clients) (suc c) = ap (λ (rest : List Client). client ∷ rest) (set_same clients c)

-- ---- a client alone

-- each of its states was a state of the other, or may follow one; and it has stopped at most once
record IsFineFrom (k client : Client) : Type 0 where
  continues : Continues k.node client.node
  once : StopsOnce k.node client.node

client_good : (m : Machine) (c : ℕ) (client : Client) → IsSound m → IsFineFrom (client_in m c) client → IsGood m (put_client c client m)
client_good m c client sound fine = record {
  sound = put_sound c client m fine.continues sound;
  since = since_put m m c client (λ _. fine.once) (since_itself m);
}

fine_same : (k client : Client) → client.node ≡ k.node → IsFineFrom k client
fine_same k client same = record {
  continues = within_continues k.node client.node (within_itself k.node client.node same);
  once = rw same (inl (steady k.node));
}

fine_link : (k client : Client) (link : LinkState) → client ≡ k → IsFineFrom k (record client { link = link })
fine_link k client link is = fine_same k (record client { link = link }) (ap (λ (one : Client). one.node) is)

fine_node : {A : Type 0} {call : Call (Node ClientState) A}
    → ((node n : Node ClientState) (text : List ℕ) (a : A) → call node text a n → Within node n)
    → ((node n : Node ClientState) (text : List ℕ) (a : A) → call node text a n → StopsOnce node n) → (k : Client)
    → Keeps (λ client. client ≡ k) (At node call) (λ _. IsFineFrom k)
fine_node {call = call} within once k = record {
  at = λ client n text a is step.
      let now : call k.node text a step.inner = subst (λ (one : Client). call one.node text a step.inner) is step.step in
      rw step.is (record {
        continues = within_continues k.node step.inner (within k.node step.inner text a now);
        once = once k.node step.inner text a now;
      });
}

-- its disk is armed
abbrev armed_client : ℕ → Pick → Client → Client
armed_client calls pick client = record client { node = armed calls pick client.node }

arms_is : (calls : ℕ) (pick : Pick) (k n : Client) (text : List ℕ) (a : Unit {0}) → ArmsClient calls pick k text a n
    → n ≡ armed_client calls pick k
arms_is calls pick k n text a step =
    step.second.is ∙ ap (λ (node : Node ClientState). record step.mid { node = node }) step.second.step.1
    ∙ ap (λ (client : Client). armed_client calls pick client) step.first.2

-- it came back, and has not stopped; or it has stopped again
abbrev CameBack : Client → Bool → Client → Type 0
CameBack k true client = Continues k.node client.node × IsSteady k.node client.node
CameBack k false client = IsFineFrom k client

restart_fine : (k : Client) → Keeps (λ client. client ≡ k) RestartsClient (λ _. IsFineFrom k)
restart_fine k = keeps_then {Q = λ up client. (client ≡ k) × (up ≡ k.node.alive)}
    (keeps_asks (λ client is. (is, ap (λ (one : Client). one.node.alive) is))) by_alive
  where
    comes : (name : List ℕ) (client n : Client) (text : List ℕ) (on : Bool) → (client ≡ k) × (false ≡ k.node.alive)
        → At node (ComesBack name no_text) client text on n → CameBack k on n
    comes name client n text true here step =
        let now : ComesBack name no_text k.node text true step.inner =
        subst (λ (one : Client). ComesBack name no_text one.node text true step.inner) here.0 step.step in
        rw step.is (
          within_continues k.node step.inner (comes_within name no_text k.node step.inner text true now),
          comes_steady name no_text k.node step.inner text now,
        )
    comes name client n text false here step =
        let now : ComesBack name no_text k.node text false step.inner =
        subst (λ (one : Client). ComesBack name no_text one.node text false step.inner) here.0 step.step in
        rw step.is (record {
          continues = within_continues k.node step.inner (comes_within name no_text k.node step.inner text false now);
          once = comes_once name no_text k.node step.inner text false (sym here.1) now;
        })

    after : {one two three : Node ClientState} → Continues one two → Continues two three → Continues one three
    after first second = record {
      sure = λ it. second.sure (first.sure it);
      numbered = λ it. second.numbered (first.numbered it);
      planned = λ it. second.planned (first.planned it);
      known = λ commit it. second.known commit (first.known commit it);
    }

    finds : (it : Running) → Stays (CameBack k true) (FindsLongest it)
    finds it = record { at = λ client n text acts here step. subst (CameBack k true) (sym step.2) here }

    writes : (acts : ℕ) (client n : Client) (text : List ℕ) (on : Bool) → CameBack k true client → Writes (cut acts) client text on n
        → CameBack k on n
    writes acts client n text on here step = by_answer on step.step
      where
        went : (on : Bool) → Appends client.name (cut acts) client.node text on step.inner → Continues k.node step.inner
        went on now = after here.0
            (appends_continues client.name (cut acts) client.node step.inner text on (cut_follows acts client.node.durable) now)

        by_answer : (on : Bool) → Appends client.name (cut acts) client.node text on step.inner → CameBack k on n
        by_answer true now = rw step.is (
          went true now,
          appends_steady client.name (cut acts) k.node client.node step.inner text here.1 now,
        )
        by_answer false now = rw step.is (record {
          continues = went false now;
          once = appends_once client.name (cut acts) k.node client.node step.inner text false here.1 now;
        })

    goes_on_from : {part : Part Client} → Keeps (CameBack k true) part (λ _. IsFineFrom k) → (on : Bool)
        → Keeps (CameBack k on) (goes_on part on) (λ _. IsFineFrom k)
    goes_on_from part true = part
    goes_on_from part false = keeps_does (λ client here. here)

    by_running : (running : List Running) → Keeps (CameBack k true) (cuts_off running) (λ _. IsFineFrom k)
    by_running [] = keeps_does (λ client here. record { continues = here.0; once = inl here.1 })
    by_running (it ∷ running) = stays_then (finds it) (λ acts. keeps_then {Q = CameBack k} (record { at = writes acts })
        (goes_on_from (stays_then stays_says (λ _. by_running running))))

    by_alive : (up : Bool) → Keeps (λ client. (client ≡ k) × (up ≡ k.node.alive)) (comes_back up) (λ _. IsFineFrom k)
    by_alive true = keeps_does (λ client here. fine_same k client (ap (λ (one : Client). one.node) here.0))
    by_alive false = asks_then (λ name. keeps_then {Q = CameBack k} (record { at = comes name }) (goes_on_from (asks_then by_running)))

module _ (b : Machine) where
  -- a machine at the start of an event
  abbrev AtFirst : Machine → Type 0
  AtFirst m = IsSound m × (m ≡ b)

  -- what an event keeps
  abbrev KeepsGood : {A : Type 0} → Call Machine A → Type 0
  KeepsGood call = Keeps AtFirst call (λ _. IsGood b)

  good_first : (m : Machine) → AtFirst m → IsGood b m
  good_first m here = record { sound = here.0; since = subst (Since b) (sym here.1) (since_itself b) }

  -- ---- an event of a client with the server

  of_client : (c : ℕ) {A : Type 0} {call : Try Pair A} → ((Others : Commit → Type 0) (p : Core) → Wakes Others p call)
      → KeepsGood (OfClient c call)
  of_client c {call = call} wakes = keeps_at (λ m here.
      subst (λ (one : Machine). Keeps (λ pair. pair ≡ (pair_at c).get m) (IfUp call) (λ _ pair. IsGood one ((pair_at c).set pair m)))
      here.1 (if_up m here.0))
    where
      whole : (m : Machine) → (client_in m c).node.alive ≡ true → IsSound m
          → Keeps (λ pair. pair ≡ (pair_at c).get m) (Whole call) (λ _. IsPairGood (IsListed m) (core ((pair_at c).get m)))
      whole m up sound = keeps_from
          (λ pair is. subst (IsAwake (IsListed m) (core ((pair_at c).get m))) (sym is) (record {
            good = record {
              sound = into_pair m c sound;
              place = refl;
              server = inl (steady m.server);
              client = inl (steady (client_in m c).node);
            };
            alive = up;
          }))
          (keeps_whole {over = IsPairGood (IsListed m) (core ((pair_at c).get m))} (λ a pair it. it.good)
          (wakes (IsListed m) (core ((pair_at c).get m))))

      if_up : (m : Machine) → IsSound m
          → Keeps (λ pair. pair ≡ (pair_at c).get m) (IfUp call) (λ _ pair. IsGood m ((pair_at c).set pair m))
      if_up m sound = keeps_then {Q = λ up pair. (pair ≡ (pair_at c).get m) × (up ≡ (client_in m c).node.alive)}
          (keeps_asks (λ pair is. (is, ap (λ (one : Pair). one.client.node.alive) is))) by_up
        where
          by_up : (up : Bool) → Keeps (λ pair. (pair ≡ (pair_at c).get m) × (up ≡ (client_in m c).node.alive))
              (either (Whole call) (Says (λ _. line (codes "down"))) up) (λ _ pair. IsGood m ((pair_at c).set pair m))
          by_up true = record {
            at = λ p n text a here step.
                pair_good m c (is_there m.clients c (sym here.1)) n sound ((whole m (sym here.1) sound).at p n text a here.0 step);
          }
          by_up false = keeps_does (λ pair here. subst (λ (one : Pair). IsGood m ((pair_at c).set one m)) (sym here.0)
              (good_same m m ((pair_at c).set ((pair_at c).get m) m) (rest_same m _ (set_same m.clients c) refl refl refl) refl
              (record { sound = sound; since = since_itself m })))

  -- ---- an event of a client alone

  client_event : {A : Type 0} (c : ℕ) {part : Call Client A} → ((k : Client) → Keeps (λ client. client ≡ k) part (λ _. IsFineFrom k))
      → KeepsGood (At (client_at c) part)
  client_event c each = record {
    at = λ m n text a here step.
        let k : Client = client_in m c in
        rw step.is (subst (λ (one : Machine). IsGood one (put_client c step.inner m)) here.1
        (client_good m c step.inner here.0 ((each k).at k step.inner text a refl step.step)));
  }

  -- ---- an event of the server alone

  server_good : (m : Machine) (n : Node (List Commit)) → AtFirst m → Within m.server n → StopsOnce m.server n
      → IsGood b (record m { server = n })
  server_good m n here within once = record {
    sound = sound_with m n within here.0;
    since = since_server b m (record m { server = n }) (rest_same m _ refl refl refl refl)
        (subst (λ (one : Machine). StopsOnce one.server n) here.1 once) (good_first m here).since;
  }

  server_event : {A : Type 0} {call : Call (Node (List Commit)) A}
      → ((node n : Node (List Commit)) (text : List ℕ) (a : A) → call node text a n → Within node n)
      → ((node n : Node (List Commit)) (text : List ℕ) (a : A) → call node text a n → StopsOnce node n) → KeepsGood (At server call)
  server_event within once = record {
    at = λ m n text a here step.
        let node : Node (List Commit) = m.server in
        rw step.is (server_good m step.inner here (within node step.inner text a step.step) (once node step.inner text a step.step));
  }

  counts_good : (alive : Bool) (m : Machine) → IsGood b m → IsGood b (counts_anew alive m)
  counts_good true m good = good
  counts_good false m good = good_same b m (counts_anew false m) (rest_same m _ refl refl refl refl) refl good

  restart_good : KeepsGood RestartsServer
  restart_good = asks_then (λ alive. asks_then (λ names.
      keeps_then {Q = λ _. IsGood b}
      (server_event (restarts_within server_name (kept_text names)) (restarts_once server_name (kept_text names)))
      (λ _. keeps_does (counts_good alive))))

  -- ---- its backup

  -- a server that is down comes back from another disk, once the first one is given up
  promotes_good : Keeps (λ m. (IsSound m × (m.server.alive ≡ false)) × (give_up m ≡ b)) (promotes_unless false) (λ _. IsGood b)
  promotes_good =
      keeps_then {Q = λ _ m. AtFirst m × (m.server.alive ≡ false)}
      (keeps_does (λ m here. ((gives_up m here.0.0, here.1), here.0.1)))
      (λ _. asks_then (λ names. keeps_then {Q = λ _. IsGood b} (comes names) (λ _. keeps_does (counts_good false))))
    where
      gives_up : (m : Machine) → IsSound m → IsSound (give_up m)
      gives_up m sound = sound_from m (give_up m) refl
          (same_within m.server (arming_as m.beside m.server) (record { durable = refl; doubt = refl }) (λ sure. sure)) sound

      comes : (names : List (List ℕ)) → Keeps (λ m. AtFirst m × (m.server.alive ≡ false))
          (At server (ComesBackAs promote_words server_name (kept_text names))) (λ _. IsGood b)
      comes names = record {
        at = λ m n text on here step.
            rw step.is (server_good m step.inner here.0
            (comes_as_within promote_words server_name (kept_text names) m.server step.inner text on step.step)
            (comes_as_once promote_words server_name (kept_text names) m.server step.inner text on here.1 step.step));
      }

  -- ---- what starts

  -- one that was never started
  record IsNew (c : ℕ) (m : Machine) : Type 0 where
    first : AtFirst m
    sure : (client_in m c).node.doubt ≡ None
    down : (client_in m c).node.alive ≡ false

  declares_good : (name : List ℕ) → Keeps (λ m. IsSound m × (add_client name m ≡ b)) (Declares name) (λ _. IsGood b)
  declares_good name = keeps_then {Q = IsNew}
      (keeps_gets (λ m here. record {
        first = (added_sound name m here.0, here.1);
        sure = ap (λ (client : Client). client.node.doubt) (added_at name m);
        down = ap (λ (client : Client). client.node.alive) (added_at name m);
      }))
      (λ c. keeps_then {Q = λ _. IsGood b} (opens_keep c) (stays_goes_on stays_says))
    where
      opens_keep : (c : ℕ) → Keeps (IsNew c) (At (client_at c) (At node (OpensNode name))) (λ _. IsGood b)
      opens_keep c = record {
        at = λ m n text on here step.
            let was : Node ClientState = (client_in m c).node in
            let inner : Node ClientState = step.step.inner in
            let client : Client = record (client_in m c) { node = inner } in
            rw (step.is, step.step.is) (subst (λ (one : Machine). IsGood one (put_client c client m)) here.first.1
            (client_good m c client here.first.0 (record {
              continues = within_continues was inner (same_within was inner (opens_states name was inner text on step.step.step)
                  (λ _. opens_sure name was inner text on here.sure step.step.step));
              once = opens_once name was inner text on here.down step.step.step;
            })));
      }

  opens_good : Keeps (λ m. AtFirst m × ((m.server.doubt ≡ None) × (m.server.alive ≡ false))) Opening (λ _. IsGood b)
  opens_good = keeps_then {Q = λ _. IsGood b} opens_keep (λ _. stays_says)
    where
      opens_keep : Keeps (λ m. AtFirst m × ((m.server.doubt ≡ None) × (m.server.alive ≡ false))) (At server (OpensNode server_name))
          (λ _. IsGood b)
      opens_keep = record {
        at = λ m n text on here step.
            rw step.is (server_good m step.inner here.0
            (same_within m.server step.inner (opens_states server_name m.server step.inner text on step.step)
            (λ _. opens_sure server_name m.server step.inner text on here.1.0 step.step))
            (opens_once server_name m.server step.inner text on here.1.1 step.step));
      }

  -- ---- a disk is armed

  arms_server : (calls : ℕ) (pick : Pick) → Keeps (λ m. IsSound m × (record m { server = armed calls pick m.server } ≡ b))
      (At server (ArmsDisk server_name calls pick)) (λ _. IsGood b)
  arms_server calls pick = record {
    at = λ m n text a here step.
        let inner : step.inner ≡ armed calls pick m.server = step.step.1 in
        rw step.is (record {
          sound = sound_with m step.inner (arms_within server_name calls pick m.server step.inner text a step.step) here.0;
          since = subst (Since b) (sym (ap (λ (node : Node (List Commit)). record m { server = node }) inner ∙ here.1)) (since_itself b);
        });
  }

  arms_backup : (calls : ℕ) (pick : Pick) → Keeps (λ m. IsSound m × (arm_backup calls pick m.promoted m ≡ b)) (ArmsBackup calls pick)
      (λ _. IsGood b)
  arms_backup calls pick = keeps_does (λ m here. record {
    sound = sounds m.promoted m here.0;
    since = subst (Since b) (sym here.1) (since_itself b);
  })
    where
      sounds : (promoted : Bool) (m : Machine) → IsSound m → IsSound (arm_backup calls pick promoted m)
      sounds true m sound = sound_with m (armed calls pick m.server)
          (same_within m.server (armed calls pick m.server) (record { durable = refl; doubt = refl }) (λ sure. sure)) sound
      sounds false m sound = sound_from m (arm_backup calls pick false m) refl (within_itself m.server m.server refl) sound

  arms_client : (c : ℕ) (calls : ℕ) (pick : Pick)
      → Keeps (λ m. IsSound m × (put_client c (armed_client calls pick (client_in m c)) m ≡ b))
      (At (client_at c) (ArmsClient calls pick)) (λ _. IsGood b)
  arms_client c calls pick = record {
    at = λ m n text a here step.
        rw step.is (good m step.inner (arms_is calls pick (client_in m c) step.inner text a step.step) here.0 here.1);
  }
    where
      good : (m : Machine) (client : Client) → client ≡ armed_client calls pick (client_in m c) → IsSound m
          → put_client c (armed_client calls pick (client_in m c)) m ≡ b → IsGood b (put_client c client m)
      good m client same sound base = subst (λ (client : Client). IsGood b (put_client c client m)) (sym same) (record {
        sound = put_sound c (armed_client calls pick (client_in m c)) m
            (within_continues (client_in m c).node (armed calls pick (client_in m c).node)
            (same_within (client_in m c).node (armed calls pick (client_in m c).node) (record { durable = refl; doubt = refl })
            (λ sure. sure)))
            sound;
        since = subst (Since b) (sym base) (since_itself b);
      })

-- ---- the events

module _ (m : Machine) where
  -- those that are done from the machine as it is
  same_event : (event : Event) → base_of event m ≡ m → KeepsGood m (event_part event) → (n : Machine) (text : List ℕ) → IsSound m
      → event_part event m text tt n → IsGood (base_of event m) n
  same_event event is keeps n text sound step =
      subst (λ (b : Machine). IsGood b n) (sym is) (keeps.at m n text tt (sound, refl) step)

  link_good : (c : ℕ) (what : LinkEvent) → KeepsGood m (At (client_at c) (link_part what))
  link_good c links.Connect = client_event m c (λ k. keeps_does (λ client is. fine_link k client _ is))
  link_good c links.Disconnect = client_event m c (λ k. keeps_does (λ client is. fine_same k _ (ap (λ (one : Client). one.node) is)))
  link_good c (links.Lose loss) = client_event m c (λ k. keeps_does (λ client is. fine_link k client _ is))

node_good : (c : ℕ) (what : NodeEvent) (m n : Machine) (text : List ℕ) → IsSound m
    → event_part (events.At c (client_events.Node what)) m text tt n → IsGood (base_of (events.At c (client_events.Node what)) m) n
node_good c nodes.Show m n text sound step = same_event m (events.At c (client_events.Node nodes.Show)) refl
    (asks_then (λ scripts. client_event m c
    (fine_node (shows_within (λ state. tree_text (view state))) (shows_once (λ state. tree_text (view state)))))) n text sound step
node_good c (nodes.Stop calls pick) m n text sound step =
    (asks_then (λ scripts. arms_client (base_of (events.At c (client_events.Node (nodes.Stop calls pick))) m) c calls pick)).at m n text
    tt (sound, refl) step
node_good c nodes.Crash m n text sound step = same_event m (events.At c (client_events.Node nodes.Crash)) refl
    (asks_then (λ scripts. client_event m c (λ k. asks_then (λ name. fine_node (crashes_within name) (crashes_once name) k)))) n text sound
    step
node_good c nodes.Restart m n text sound step =
    same_event m (events.At c (client_events.Node nodes.Restart)) refl (asks_then (λ scripts. client_event m c restart_fine)) n text sound
    step

server_events_good : (what : NodeEvent) (m n : Machine) (text : List ℕ) → IsSound m → event_part (events.Server what) m text tt n
    → IsGood (base_of (events.Server what) m) n
server_events_good nodes.Show m n text sound step = same_event m (events.Server nodes.Show) refl
    (server_event m (shows_within (λ commits. tree_text (tree_after commits))) (shows_once (λ commits. tree_text (tree_after commits))))
    n text sound step
server_events_good (nodes.Stop calls pick) m n text sound step =
    (arms_server (base_of (events.Server (nodes.Stop calls pick)) m) calls pick).at m n text tt (sound, refl) step
server_events_good nodes.Crash m n text sound step = same_event m (events.Server nodes.Crash) refl
    (server_event m (crashes_within server_name) (crashes_once server_name)) n text sound step
server_events_good nodes.Restart m n text sound step = same_event m (events.Server nodes.Restart) refl (restart_good m) n text sound step

-- what is asked of a machine decides what is done
by_asked : {ask : Machine → Bool} (next : Bool → Part Machine) (m n : Machine) (text : List ℕ) → Then (Asks ask) next m text tt n
    → (rest : List ℕ) × next (ask m) m rest tt n
by_asked next m n text step = (
  step.rest,
  subst (λ (answer : Bool). next answer m step.rest tt n) step.first.1
      (subst (λ (mid : Machine). next step.answer mid step.rest tt n) step.first.2 step.second),
)

promote_good : (m n : Machine) (text : List ℕ) → IsSound m → Promotes m text tt n
    → IsGood (base_of_promote m.server.alive m.promoted m) n
promote_good m n text sound step =
    let asked = by_asked (either (Says (λ _. line (codes "up"))) (Then (Asks (λ m. m.promoted)) promotes_unless)) m n text step in
    by_alive m.server.alive refl asked.0 asked.1
  where
    as_it_was : n ≡ m → IsGood m n
    as_it_was is = subst (IsGood m) (sym is) (record { sound = sound; since = since_itself m })

    by_promoted : (promoted : Bool) (text : List ℕ) → m.server.alive ≡ false → promotes_unless promoted m text tt n
        → IsGood (base_of_promote false promoted m) n
    by_promoted true text down step = as_it_was step.1
    by_promoted false text down step = (promotes_good (give_up m)).at m n text tt ((sound, down), refl) step

    by_alive : (alive : Bool) → m.server.alive ≡ alive → (text : List ℕ)
        → either (Says (λ _. line (codes "up"))) (Then (Asks (λ m. m.promoted)) promotes_unless) alive m text tt n
        → IsGood (base_of_promote alive m.promoted m) n
    by_alive true is text step = as_it_was step.1
    by_alive false is text step =
        let asked = by_asked promotes_unless m n text step in
        by_promoted m.promoted asked.0 is asked.1

event_good : (event : Event) (m n : Machine) (text : List ℕ) → IsSound m → event_part event m text tt n → IsGood (base_of event m) n
event_good (events.Client name) m n text sound step = (declares_good (add_client name m) name).at m n text tt (sound, refl) step
event_good (events.Script name code) m n text sound step = same_event m (events.Script name code) refl
    (keeps_does (λ k here. good_same m k (declare_script (record { name = name; code = code }) k)
    (rest_same k _ refl refl refl refl) refl (good_first m k here))) n text sound step
event_good (events.Profile name profile) m n text sound step =
    same_event m (events.Profile name profile) refl (keeps_does (good_first m)) n text sound step
event_good (events.At c (client_events.Node what)) m n text sound step = node_good c what m n text sound step
event_good (events.At c (client_events.Link what)) m n text sound step =
    same_event m (events.At c (client_events.Link what)) refl (asks_then (λ scripts. link_good m c what)) n text sound step
event_good (events.At c (client_events.Task what)) m n text sound step = same_event m (events.At c (client_events.Task what)) refl
    (asks_then (λ scripts. of_client m c (λ Others p. task_wakes Others p scripts what))) n text sound step
event_good (events.Server what) m n text sound step = server_events_good what m n text sound step
event_good events.Promote m n text sound step = promote_good m n text sound step
event_good (events.StopBackup calls pick) m n text sound step =
    (arms_backup (base_of (events.StopBackup calls pick) m) calls pick).at m n text tt (sound, refl) step
event_good events.Log m n text sound step = same_event m events.Log refl
    (asks_then (keeps_either (keeps_does (good_first m)) (keeps_does (good_first m)))) n text sound step

pub sound_event : EventKeepsSound
sound_event event m n text sound step = (event_good event m n text sound step).sound

pub counted_event : EventCounts
counted_event event m n text sound step = (event_good event m n text sound step).since

-- before the opening, and after it
pub sound_handed : (counts : List Counts) → IsSound (handed counts)
sound_handed counts = record {
  sure = λ up. refl;
  sure_of = tt;
  numbered = tt;
  planned = tt;
  listed = record { is = tt; may_be = tt };
  once = record { is = tt; may_be = tt };
}

opening_good : (counts : List Counts) (m : Machine) (text : List ℕ) → Opening (handed counts) text tt m → IsGood (handed counts) m
opening_good counts m text step =
    (opens_good (handed counts)).at (handed counts) m text tt ((sound_handed counts, refl), (refl, refl)) step

pub sound_opening : OpeningIsSound
sound_opening counts m text step = (opening_good counts m text step).sound

-- in the opening the server alone may stop
pub counted_opening : OpeningCounts
counted_opening counts m text step = (opening_good counts m text step).since
