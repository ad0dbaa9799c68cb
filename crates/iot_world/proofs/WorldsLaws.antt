-- One node of a world, or a client with the server, among all others: these stay, and each client keeps its name.
use Rattle.std.proofs.Common.{Err, IfSome, Ok, OnOk, Result}
use Rattle.std.proofs.{Math.Seq.map-set_same, lemmas.Option.slice_get-get_or, lemmas.Option.slice_get-map, lemmas.Option.slice_get_within}
use Rattle.{iot_disk.specs.Disk.armed_with, iot_disk.specs.declared.disk.Pick.Pick, iot_event.specs.declared.event.LinkEvent.LinkEvent}
use Rattle.{iot_event.specs.declared.event.Task.Task, iot_exchange.specs.Pairs.AnyStands, iot_exchange.specs.Pairs.IsStandingWith}
use Rattle.{iot_exchange.specs.Pairs.two, iot_judging.proofs.FollowingLaws.Grows, iot_judging.proofs.FollowingLaws.follows_on}
use Rattle.{iot_judging.proofs.FollowingLaws.stays, iot_lasting.proofs.LastingLaws.an_event_keeps_commits}
use Rattle.iot_lasting.{proofs.TellingLaws.does_link, proofs.TellingLaws.does_node, specs.Lasting.AddsOne, specs.Lasting.Lasts}
use Rattle.{iot_lasting.specs.Ledger.row_of, iot_machine.proofs.SoundLaws.sound_event, iot_machine.proofs.StepsLaws.joined}
use Rattle.iot_machine.specs.Calls.{Asks, At, Lens, Then}
use Rattle.iot_machine.specs.Events.{ArmsBackup, IfUp, RestartsServer, counts_anew, link_part, task_part}
use Rattle.iot_machine.specs.{Machine.arm_backup, Machine.give_up, Machine.pair_at, Machine.server, Serving.backup_name, Sound.IsSure}
use Rattle.{iot_machine.specs.Stops.Restarts, iot_machine.specs.Texts.stop_line, iot_server_node.proofs.ServersLaws.up_is}
use Rattle.iot_server_node.specs.Servers.{ArmsServersBackup, IsOneMoreIfAny, Promotes, answered_since}
use Rattle.iot_world.proofs.Common.{ArePlaced, Arms, Between, Bool, Call, Client, ClientStands, Commit, Declared, DeclaredScript, Disks}
use Rattle.iot_world.proofs.Common.{Down, Each, Event, Global, HavingAnswered, IsBeside, IsWorldOfSome, KeepsBeside, KeepsTrails, Laptop}
use Rattle.iot_world.proofs.Common.{List, Machine, MakesStep, Medium, Node, NodeEvent, None, Option, Post, PostStands, Profile, Refines}
use Rattle.iot_world.proofs.Common.{Says, ServerKeeper, ServerNode, ServerStands, Some, StandsAnyhow, StandsFor, StandsIn, StepFrom}
use Rattle.iot_world.proofs.Common.{StepsTo, Up, Vec, World, ap, arith, at_each, client_at, client_in, codes, does, either, event_part}
use Rattle.iot_world.proofs.Common.{false, follows_kept, inl, inr, is_promoted, is_up, kept_text, length, length-set, line, lists}
use Rattle.iot_world.proofs.Common.{map, names_in, no_client, node_part, on_both, quiet, refl, rules, same_Some, server_name, slice_get}
use Rattle.iot_world.proofs.Common.{slice_index_or, slice_set, stamps_in, subst, sym, true, ℕ, [], ◌++◌, ◌+◌, ◌<◌, ◌∙◌, ◌∷◌, ◌≡◌, ◌⊎◌}
use Rattle.iot_world.proofs.ListLaws.{each_get, each_length, each_map, each_place_set, each_set, looked_up}
use Rattle.iot_world.{proofs.PlacesLaws.promoted_is, specs.World.EventSteps, specs.World.scripts_of}
use Rattle.iot_event.specs.declared.event.ClientEvent.TheVariants as client_events
use Rattle.iot_event.specs.declared.event.Event.TheVariants as events
use Rattle.iot_event.specs.declared.event.NodeEvent.TheVariants as nodes
use Rattle.iot_exchange.specs.Scripts as exchange
use Rattle.iot_machine.specs.Events as machine
use Rattle.iot_machine.specs.Nodes as nodes_of

-- ---- the server's list gets longer in each event, or stays: so what a client holds goes on following it

pub event_grows : {D : Type 0} (medium : Medium D) (world : World D) (event : Event) (m n : Machine) (text : List ℕ)
    → StandsFor medium world m → event_part event m text tt n → Grows m.server.durable n.server.durable
event_grows {D} medium world event m n text here step = record { later = lasts.front.more; is = lasts.front.is }
  where
    sure : (post : Post (ServerKeeper D) (Disks D)) → PostStands (lists medium) (on_both medium) (kept_text (names_in m)) post m.server
        → IsSure m.server
    sure (Up keeper) stands up = stands.sure
    sure (Down fallen) stands up = absurd cc
    sure Between stands up = absurd stands

    adds : (doubt : Option (List Commit)) → IsOneMoreIfAny m.server.durable doubt → IfSome doubt (AddsOne m.server.durable)
    adds None more = tt
    adds (Some longer) more = record { commit = more.commit; is = more.is }

    lasts : Lasts m.server n.server
    lasts = an_event_keeps_commits event m n text
        (record { sure = sure world.server.post here.server.post; adds = adds m.server.doubt here.server.known.longer }) step

-- ---- what befalls a client leaves its name

-- the client has the same name after this call
abbrev pub KeepsName : Call Client (Unit {0}) → Type 0
KeepsName call = (m n : Client) (text : List ℕ) → call m text tt n → n.name ≡ m.name

-- as a ledger of this client alone tells
pub node_keeps : (what : NodeEvent) → KeepsName (node_part what)
node_keeps what m n text step = ((does_node (row_of m ∷ []) 0 0 [] what).at m n text tt refl step).1

pub link_keeps : (what : LinkEvent) → KeepsName (link_part what)
link_keeps what m n text step = ((does_link (row_of m ∷ []) 0 0 [] what).at m n text tt refl step).1

-- ---- steps of the machine

module _ {D : Type 0} where
  -- of a world between two calls nothing has to be known
  abbrev pub Any : World D → Machine → Type 0
  Any world m = Unit {0}

  -- the machine is asked something first
  asked : {A B : Type 0} {Q : World D → Machine → Type 0} {ask : Machine → A} {next : A → Call Machine B} {m : Machine} {w : World D}
      {x y : List ℕ} {a : A} {b : B} → a ≡ ask m → StepFrom Q (next a) m w x y b → StepFrom Q (Then (Asks ask) next) m w x y b
  asked {ask = ask} {m = m} {w = w} {a = a} is more = joined (quiet {P = Any} {call = Asks ask} {v = w} {a = a} m (refl, is, refl) tt) more

  -- a part of it does something
  abbrev pub at_part : {N A : Type 0} {call : Call N A} {Q : World D → Machine → Type 0} {m : Machine} {w : World D} {x y : List ℕ} {a : A}
      (part : Lens Machine N) (text : List ℕ) (n : N) → y ≡ x ++ text → call (part.get m) text a n → Q w (part.set n m)
      → StepFrom Q (At part call) m w x y a
  at_part {m = m} part text n wrote step stands =
      record { text = text; next = part.set n m; wrote = wrote; step = record { inner = n; step = step; is = refl }; stands = stands }

module _ {D : Type 0} (medium : Medium D) where
  -- ---- what stands at a place

  module _ (world : World D) (m : Machine) (here : StandsFor medium world m) where
    pub same_length : length world.clients.items ≡ length m.clients
    same_length = each_length (StandsIn medium m.scripts m.server.durable) world.clients.items m.clients here.clients_

    module _ (c : ℕ) (laptop : Laptop D) (get : slice_get world.clients.items c ≡ Some laptop) where
      pub inside_here : c < length m.clients
      inside_here = subst (λ n. c < n) same_length (slice_get_within world.clients.items c laptop get)

      name_here : slice_get (names_in m) c ≡ Some (client_in m c).name
      name_here = rw (slice_get-map (λ (k : Client). k.name) m.clients c, slice_get-get_or m.clients c no_client inside_here)

      pub client_here : StandsIn medium m.scripts m.server.durable laptop (client_in m c)
      client_here = each_get (StandsIn medium m.scripts m.server.durable) world.clients.items m.clients c laptop no_client get here.clients_

      -- the client with the server
      pub pair_here : AnyStands medium (scripts_of world) (names_in m) c (two laptop world.server) ((pair_at c).get m)
      pair_here = record {
        place = refl;
        client = record {
          is = rw here.scripts at client_here.client;
          place = here.placed c laptop get;
          named = name_here;
          few = omega (arith, inside_here, same_length, here.eight);
        };
        server = here.server;
        follows = client_here.follows;
      }

  -- in a world of some machine
  pub some_stands : (world : World D) (c : ℕ) (laptop : Laptop D) → laptop ≡ slice_index_or world.clients.items c laptop
      → c < length world.clients.items → IsWorldOfSome medium world → StandsAnyhow medium laptop
  some_stands world c laptop value inside some = record {
    scripts = _;
    machine = _;
    stands = (client_here world some.machine some.stands.stands c laptop (looked_up _ _ _ _ refl inside value)).client;
  }

  pub task_stands : (world : World D) (c : ℕ) (laptop : Laptop D) (ss : List DeclaredScript)
      → laptop ≡ slice_index_or world.clients.items c laptop → c < length world.clients.items → ss ≡ world.scripts.items
      → IsWorldOfSome medium world → IsStandingWith medium (exchange.scripts_of ss) (two laptop world.server)
  task_stands world c laptop ss value inside same some =
      let get = looked_up _ _ _ _ refl inside value in
      rw same (record { names = _; c = c; pair = _; stands = pair_here world some.machine some.stands.stands c laptop get })

  -- ---- an event, after which the server's list has got longer, or is as it was

  -- if so it stands for that machine
  abbrev pub Since : Machine → World D → Machine → Type 0
  Since m world n = Grows m.server.durable n.server.durable → StandsFor medium world n

  pub grown : (event : Event) (old new : World D) (x y : List ℕ)
      → ((m : Machine) → StandsFor medium old m → StepFrom (Since m) (event_part event) m new x y tt)
      → MakesStep medium (event_part event) old new x y tt
  grown event old new x y each = record {
    step = λ m here.
        let s = each m here in
        (s.text, s.next, s.wrote, s.step, s.stands (event_grows medium old event m s.next s.text here s.step));
  }

  -- ---- other clients stand there, and another server

  -- what the clients hold follows a longer list, too
  all_follow : (world : World D) (m : Machine) (node : Node (List Commit)) → StandsFor medium world m → Grows m.server.durable node.durable
      → Each (StandsIn medium m.scripts node.durable) world.clients.items m.clients
  all_follow world m node here more =
      each_map (StandsIn medium m.scripts m.server.durable) (StandsIn medium m.scripts node.durable) (λ laptop k one. record {
        client = one.client;
        follows = follows_on (stamps_in laptop) m.server.durable node.durable more one.follows;
      }) world.clients.items m.clients here.clients_

  module _ (old : World D) (server_ : ServerNode D) (clients : Vec (Laptop D) Global) where
    abbrev now : World D
    now = record old { server = server_; clients = clients }

    -- in which the server may have armed a disk, or have turned to its backup
    stands_as : (m : Machine) (node : Node (List Commit)) (n : ℕ) (promoted : Bool) (arms : Arms) (ks : List Client)
        → StandsFor medium old m → ServerStands medium (map (λ (k : Client). k.name) ks) server_ node n
        → IsBeside medium server_ promoted arms → Each (StandsIn medium m.scripts node.durable) clients.items ks
        → ArePlaced clients.items → length clients.items ≡ length old.clients.items
        → StandsFor medium now (record m { server = node; requests = n; promoted = promoted; beside = arms; clients = ks })
    stands_as m node n promoted arms ks here server beside clients_ placed many =
        let eight : length clients.items + length old.spare.items ≡ 8 = omega (arith, here.eight, many) in
        search rules

    -- one of the clients is another one
    module _ (kept : KeepsBeside medium old.server server_) (c : ℕ) (was laptop : Laptop D) (inside : c < length old.clients.items)
        (value : was ≡ slice_index_or old.clients.items c was) (put : clients.items ≡ slice_set old.clients.items c laptop) where
      get : slice_get old.clients.items c ≡ Some was
      get = looked_up _ _ _ _ refl inside value

      put_there : (m : Machine) (k : Client) (node : Node (List Commit)) (n : ℕ) → StandsFor medium old m
          → StandsIn medium m.scripts node.durable laptop k → laptop.place ≡ c → k.name ≡ (client_in m c).name
          → ServerStands medium (names_in m) server_ node n → Grows m.server.durable node.durable
          → StandsFor medium now (record m { server = node; requests = n; clients = slice_set m.clients c k })
      put_there m k node n here stands place name served more =
          stands_as m node n m.promoted m.beside (slice_set m.clients c k) here
          (rw (map-set_same (λ (k : Client). k.name) m.clients c k no_client name) served) (kept m.promoted m.beside here.beside)
          (rw put (each_set (StandsIn medium m.scripts node.durable) old.clients.items m.clients c laptop k stands
          (all_follow old m node here more)))
          (subst ArePlaced (sym put) (each_place_set (λ n (l : Laptop D). l.place ≡ n) old.clients.items c laptop here.placed place))
          (ap length put ∙ length-set old.clients.items c laptop)

      -- what the two do is done at that place
      pub at_task : (ss : List DeclaredScript) (task : Task ℕ Profile) (x y : List ℕ) → ss ≡ old.scripts.items
          → ((names : List (List ℕ)) (place : ℕ)
          → StepsTo (AnyStands medium (exchange.scripts_of ss) names place) (AnyStands medium (exchange.scripts_of ss) names place)
          (IfUp (task_part (exchange.scripts_of ss) task)) (two was old.server) (two laptop server_) x y tt)
          → MakesStep medium (event_part (events.At c (client_events.Task task))) old now x y tt
      at_task ss task x y same one = grown (events.At c (client_events.Task task)) old now x y (λ m here.
          let s = (rw same at (one (names_in m) c)).step ((pair_at c).get m) (pair_here old m here c was get) in
          let is = subst (λ (ss : List Declared). ClientStands medium ss laptop s.1.client) (sym here.scripts) s.4.client.is in
          let same = same_Some _ _ (sym s.4.client.named ∙ name_here old m here c was get) in
          let stands : StandsIn medium m.scripts s.1.server.durable laptop s.1.client = record { client = is; follows = s.4.follows } in
          let put_it = put_there m s.1.client s.1.server s.1.requests here stands s.4.client.place same s.4.server in
          asked (sym here.scripts) (at_part (pair_at c) s.0 s.1 s.2 s.3 put_it))

  -- so is what the client does alone
  pub at_client : {call : Call Client (Unit {0})} (old : World D) (clients : Vec (Laptop D) Global) (c : ℕ) (was laptop : Laptop D)
      (x y : List ℕ) → KeepsName call → c < length old.clients.items → was ≡ slice_index_or old.clients.items c was
      → clients.items ≡ slice_set old.clients.items c laptop → laptop.place ≡ was.place → KeepsTrails was laptop
      → ((scripts : List Declared) → Refines (ClientStands medium scripts) call was laptop x y tt)
      → MakesStep medium (Then (Asks (λ m. m.scripts)) (λ _. At (client_at c) call)) old (record old { clients = clients }) x y tt
  at_client old clients c was laptop x y keeps inside value put same trails one = at_each (λ m here.
      let get = looked_up _ _ _ _ refl inside value in
      let there = client_here old m here c was get in
      let s = (one m.scripts).step (client_in m c) there.client in
      let named = keeps (client_in m c) s.1 s.0 s.3 in
      let follows = follows_kept (stamps_in was) (stamps_in laptop) m.server.durable trails there.follows in
      let stands : StandsIn medium m.scripts m.server.durable laptop s.1 = record { client = s.4; follows = follows } in
      asked {a = m.scripts} refl (at_part (client_at c) s.0 s.1 s.2 s.3
      (put_there old old.server clients (λ promoted arms had. had) c was laptop inside value put m s.1 m.server m.requests here stands
      (same ∙ here.placed c was get) named here.server (stays _ _ refl))))

  -- ---- the server, and its backup

  module _ (old : World D) (server_ : ServerNode D) where
    abbrev later : World D
    later = record old { server = server_ }

    -- the server stands so, with its backup so, and no client has changed
    beside_with : (m : Machine) (node : Node (List Commit)) (n : ℕ) (promoted : Bool) (arms : Arms) → StandsFor medium old m
        → ServerStands medium (names_in m) server_ node n → IsBeside medium server_ promoted arms → Grows m.server.durable node.durable
        → StandsFor medium later (record m { server = node; requests = n; promoted = promoted; beside = arms })
    beside_with m node n promoted arms here stands beside more =
        stands_as old server_ old.clients m node n promoted arms m.clients here stands beside (all_follow old m node here more)
        here.placed refl

    module _ (kept : KeepsBeside medium old.server server_) where
      -- an event that the server alone does
      pub at_server : {call : Call (Node (List Commit)) (Unit {0})} (event : Event) (x y : List ℕ) → event_part event ≡ At server call
          → ((names : List (List ℕ)) (n : ℕ)
          → StepsTo (HavingAnswered medium names n) (HavingAnswered medium names n) call old.server server_ x y tt)
          → MakesStep medium (event_part event) old later x y tt
      at_server event x y is one = grown event old later x y (λ m here.
          let s = (one (names_in m) m.requests).step m.server here.server in
          rw is (at_part server s.0 s.1 s.2 s.3 (beside_with m s.1 m.requests _ _ here s.4 (kept _ _ here.beside))))

      -- it comes back, and counts anew unless it was alive
      pub restarts : (x y : List ℕ) → ((names : List (List ℕ)) (n : ℕ)
          → StepsTo (HavingAnswered medium names n) (HavingAnswered medium names (answered_since (is_up old.server) n))
          (Restarts server_name (kept_text names)) old.server server_ x y tt)
          → MakesStep medium RestartsServer old later x y tt
      restarts x y one = grown (events.Server nodes.Restart) old later x y (λ m here.
          let s = (one (names_in m) m.requests).step m.server here.server in
          let stands = rw (← up_is medium (names_in m) old.server m.server m.requests here.server) at s.4 in
          asked refl (asked refl (joined (at_part {Q = Any} {w = later} server s.0 s.1 s.2 s.3 tt)
          (quiet (counts_anew m.server.alive (server.set s.1 m)) (refl, refl) (anew m s.1 here m.server.alive stands)))))
        where
          anew : (m : Machine) (node : Node (List Commit)) → StandsFor medium old m → (alive : Bool)
              → ServerStands medium (names_in m) server_ node (answered_since alive m.requests)
              → Since m later (counts_anew alive (server.set node m))
          anew m node here true stands = beside_with m node m.requests _ _ here stands (kept _ _ here.beside)
          anew m node here false stands = beside_with m node 0 _ _ here stands (kept _ _ here.beside)

    -- its disk is armed, or that of the server if it was promoted
    pub arms_backup : (calls : ℕ) (pick : Pick) (x y : List ℕ) → y ≡ x ++ stop_line backup_name calls pick
        → ((promoted : Bool) → ArmsServersBackup medium calls pick promoted old.server server_)
        → MakesStep medium (ArmsBackup calls pick) old later x y tt
    arms_backup calls pick x y wrote arms = does (λ m here. (wrote, by m here m.promoted here.beside))
      where
        by : (m : Machine) → StandsFor medium old m → (promoted : Bool) → IsBeside medium old.server promoted m.beside
            → StandsFor medium later (arm_backup calls pick promoted (record m { promoted = promoted }))
        by m here false beside =
            let armed = arms false (names_in m) m.server m.requests m.beside here.server beside in
            beside_with m m.server m.requests false (armed_with m.beside calls pick) here armed.0 armed.1 (stays _ _ refl)
        by m here true beside =
            let armed = arms true (names_in m) m.server m.requests m.beside here.server beside in
            beside_with m (nodes_of.armed calls pick m.server) m.requests true m.beside here armed.0 armed.1 (stays _ _ refl)

    -- It comes back from it, or stops in that; the first disk is given up. One that is alive says that, and so does one that has done it
    -- before.
    pub promotes : {T E : Type 0} (r : Result T E) (x y : List ℕ)
        → (is_up old.server ≡ true → OnOk r (y ≡ x ++ line (codes "up")))
        → (is_up old.server ≡ false → is_promoted old.server ≡ true → OnOk r (y ≡ x ++ line (codes "nothing")))
        → ((is_up old.server ≡ true) ⊎ (is_promoted old.server ≡ true) → server_ ≡ old.server)
        → (is_up old.server ≡ false → is_promoted old.server ≡ false
        → OnOk r ((names : List (List ℕ)) → Promotes medium names old.server server_ x y))
        → OnOk r (MakesStep medium machine.Promotes old later x y tt)
    promotes (Err fault) x y up again stays one = tt
    promotes (Ok done) x y up again stays one = grown events.Promote old later x y (λ m here.
        asked (sym (up_is medium (names_in m) old.server m.server m.requests here.server))
        (by m here (is_up old.server) (is_promoted old.server) refl refl))
      where
        by : (m : Machine) → StandsFor medium old m → (on promoted : Bool) → is_up old.server ≡ on → is_promoted old.server ≡ promoted
            → StepFrom (Since m) (either (Says (λ _. line (codes "up"))) (Then (Asks (λ m. m.promoted)) machine.promotes_unless) on) m
            later x y tt
        by m here true promoted is own =
            record { text = _; next = m; wrote = up is; step = (refl, refl); stands = λ more. rw (stays (inl is)) here }
        by m here false true is own = asked (sym own ∙ promoted_is medium _ _ _ here.beside)
            (record { text = _; next = m; wrote = again is own; step = (refl, refl); stands = λ more. rw (stays (inr own)) here })
        by m here false false is own =
            let not_yet : false ≡ m.promoted = sym own ∙ promoted_is medium _ _ _ here.beside in
            let s = (one is own (names_in m)).step m.server m.requests m.beside here.server (rw (← not_yet) at here.beside) in
            let turned : Machine = give_up m in
            asked not_yet (joined (quiet {P = Any} {v = later} turned (refl, refl) tt)
            (asked refl (joined (at_part {Q = Any} {w = later} {a = s.1} server s.0 s.2 s.3 s.4 tt)
            (quiet (counts_anew false (server.set s.2 turned)) (refl, refl)
            (beside_with m s.2 0 true m.server.counts.arms here s.5 s.6)))))

-- ---- an event of a world is one of the machine's

-- what follows from two things that are so if it was done
pub both_ok : {T E P Q R : Type 0} (r : Result T E) → OnOk r P → OnOk r Q → (P → Q → R) → OnOk r R
both_ok (Ok done) one other then_ = then_ one other
both_ok (Err fault) one other then_ = tt

-- a step that said its text apart, if that stands behind another then
pub behind : {W M A : Type 0} {stands : W → M → Type 0} {call : Call M A} {u v : W} {a : A} (x y said : List ℕ)
    → y ≡ x ++ said → Refines stands call u v [] said a → Refines stands call u v x y a
behind x y said wrote one = record {
  step = λ m here.
      let s = one.step m here in
      (s.0, s.1, wrote ∙ ap (λ (l : List ℕ). x ++ l) s.2, s.3, s.4);
}

module _ {D : Type 0} {medium : Medium D} {old new : World D} {x y : List ℕ} where
  -- what the event does with the nodes, it does with the machine whose world this is
  pub event_steps : (event : Event) → MakesStep medium (event_part event) old new x y tt → EventSteps medium event old new x y
  event_steps event one = record {
    step = λ m here.
        let s = one.step m here.stands in
        (s.0, s.1, s.2, s.3, record { stands = s.4; sound = sound_event event m s.1 s.0 here.sound s.3 });
  }

  -- after it this is the world of some machine, if it was before
  pub steps_some : (event : Event) → IsWorldOfSome medium old → MakesStep medium (event_part event) old new x y tt
      → IsWorldOfSome medium new
  steps_some event some one =
      let s = (event_steps event one).step some.machine some.stands in
      record { machine = s.1; stands = s.4 }

-- so it is in a world of some machine
pub ruleset of_some = (some_stands, task_stands, event_steps, steps_some)
