-- What one sees who looks in at a world is what the machine says: the list, what all nodes hold, and what a client shows.
use Rattle.std.proofs.lemmas.List.{map_more, take_all, Elements.All-from_recursion, Elements.All-map, Elements.All-weaker}
use Rattle.iot_client.specs.{Ties.disk_of as client_disk, declared.client.Client.Client as LiveClient}
use Rattle.iot_event.specs.declared.event.NodeEvent.TheVariants.{Show}
use Rattle.iot_inspect.specs.{Shown.named, Shown.shown, Texts.AreOf, Texts.tree_text, Values.live_data, declared.snapshot.Json.Json}
use Rattle.iot_laptop.proofs.NodesLaws.{lent_at}
use Rattle.iot_laptop.specs.Laptops.{IsView, disk_by, is_alive, lent_by, live_in, state_in}
use Rattle.iot_machine.{proofs.StepsLaws.asks, proofs.StepsLaws.bind, specs.Clients.view, specs.Events.Logs}
use Rattle.iot_machine.specs.{Json.client_data, Recorded.label_of, Recorded.labels_of, Sound.IsListed, Stops.Shows, Texts.log_text}
use Rattle.{iot_queue.specs.declared.items.Item.Item, iot_server.specs.Servers.state_of, iot_server.specs.declared.server.Server.Server}
use Rattle.{iot_server_node.specs.Servers.IsServerOf, iot_standing.proofs.StatesLaws.view_is}
use Rattle.iot_tree.specs.{Tree.Nodes, declared.labels.Label.Label}
use Rattle.iot_world.proofs.Common.{AllByRecursion, Client, ClientIs, ClientStands}
use Rattle.iot_world.proofs.Common.{Commit, Declared, IfSome, IsWorldOfSome, Laptop, List, Machine, MakesStep, Medium, None, Option, Post}
use Rattle.iot_world.proofs.Common.{Refines, Says, Seated, Some, StandsFor, StandsIn, Up, World, ap, arith, awake_stands, client_in, codes}
use Rattle.iot_world.proofs.Common.{disk_in, either, false, inl, inr, length, length-map, line, names_in, no_client, node_is, node_part}
use Rattle.iot_world.proofs.Common.{queue_are, refl, same_Some, says, slice_get, sym, take, true, ℕ, [], ◌++◌, ◌+◌, ◌<◌, ◌∙◌, ◌∷◌, ◌≡◌, ◌≤◌}
use Rattle.iot_world.proofs.{ListLaws.each_same_as, WorldsLaws.client_here, WorldsLaws.inside_here, WorldsLaws.same_length}
use Rattle.iot_world.specs.{Looks.HasTold, Looks.Tells, Looks.client_names, Prelude.Bool, World.IsReady, World.LendsClient}
use Rattle.serde_json.specs.Data.{Data}
use Rattle.iot_kept.specs.States as kept
use Rattle.iot_machine.specs.Machine as machine

module _ {D : Type 0} (medium : Medium D) where
  -- ---- the names of the clients

  pub names_are : (world : World D) (m : Machine) → StandsFor medium world m → client_names world ≡ names_in m
  names_are world m here =
      each_same_as (StandsIn medium m.scripts m.server.durable) (λ (l : Laptop D). l.name) (λ (k : machine.Client). k.name)
      (λ laptop k it. it.client.name) world.clients.items m.clients here.clients_

  -- ---- the list

  listed_by : (m : Machine) (commits : List Commit) → AllByRecursion (IsListed m) commits → AreOf (names_in m) (labels_of commits)
  listed_by m commits all =
      All-map (λ (l : Label). l.client < length (names_in m)) label_of commits
      (All-weaker (IsListed m) (λ commit. commit.entry.client < length (names_in m)) (λ commit one. rw length-map one.client) commits
      (All-from_recursion (IsListed m) commits all))

  -- each commit is one of a client of these names
  pub are_of : (world : World D) (names : List (List ℕ)) (labels : List Label) (it : Server D)
      → (world_of : IsWorldOfSome medium world) → names ≡ names_in world_of.machine → labels ≡ (state_of it).labels
      → ((m : Machine) → StandsFor medium world m → IsServerOf it m.server m.requests) → AreOf names labels
  are_of world names labels it world_of same are lent =
      let m : Machine = world_of.machine in
      rw (same, are, (lent m world_of.stands.stands).labels) (listed_by m m.server.durable world_of.stands.sound.listed.is)

  pub logs_up : (world : World D) (x y : List ℕ) (names : List (List ℕ)) (labels : List Label) (it : Server D)
      → names ≡ client_names world → labels ≡ (state_of it).labels
      → ((m : Machine) → StandsFor medium world m → IsServerOf it m.server m.requests)
      → y ≡ x ++ log_text names labels → MakesStep medium Logs world world x y tt
  logs_up world x y names labels it same are lent wrote =
      bind {a = true} (asks (λ m here. sym (lent m here).alive))
      (says (λ m here. rw (wrote, same, are, names_are world m here, (lent m here).labels)))

  -- ---- what a client holds, as JSON

  pub tells_live : (laptop : Laptop D) (old new : Json) → named new ≡ named old ++ laptop.name ∷ [] → (items : List Item) (t : Nodes)
      → is_alive laptop ≡ true → items ≡ (state_in laptop).items → IsView medium t laptop
      → shown new ≡ shown old ++ live_data laptop.name items t ∷ [] → Tells medium laptop old new
  tells_live laptop old new names items t up same sees told = λ scripts m here.
      let there = awake_stands medium scripts laptop m up here in
      let queue = queue_are (state_in laptop).items (state_in laptop).held m.node.durable there.state.held there.state.items in
      let is : live_data laptop.name items t ≡ client_data m = rw (there.alive, same, queue, there.name, sees scripts m there) in
      record {
        clients = told ∙ ap (λ (d : Data). shown old ++ d ∷ []) is;
        names = names ∙ ap (λ (n : List ℕ). named old ++ n ∷ []) there.name;
      }

  -- ---- all clients

  -- so many clients of each machine for which the world stands were told
  abbrev pub TellsFirst : World D → (n : ℕ) → Json → Type 0
  TellsFirst world n json = (m : Machine) → StandsFor medium world m → HasTold (take n m.clients) json

  -- one more
  pub tells_more : (world : World D) (n : ℕ) (laptop : Laptop D) → slice_get world.clients.items n ≡ Some laptop → (old new : Json)
      → TellsFirst world n old → Tells medium laptop old new → TellsFirst world (n + 1) new
  tells_more world n laptop get old new so_far one = λ m here.
      let front = so_far m here in
      let added = one m.scripts (client_in m n) (client_here medium world m here n laptop get).client in
      let within = inside_here medium world m here n laptop get in
      record {
        clients = rw (added.clients, front.clients) (sym (map_more client_data m.clients n no_client within));
        names = rw (added.names, front.names) (sym (map_more (λ (client : Client). client.name) m.clients n no_client within));
      }

  -- all of them
  pub tells_all : (world : World D) (n : ℕ) (json : Json) → length world.clients.items ≤ n → TellsFirst world n json → (m : Machine)
      → StandsFor medium world m → HasTold m.clients json
  tells_all world n json all so_far m here =
      rw (take_all n m.clients (omega (arith, all, same_length medium world m here))) at (so_far m here)

  -- ---- the view of a client

  -- what its node says leaves it
  pub shown_by : (laptop : Laptop D) (x y : List ℕ) (on : Bool) (said : List ℕ) → y ≡ x ++ said → (scripts : List Declared)
      → ((m : Client) → ClientStands medium scripts laptop m → (on ≡ m.node.alive)
      × either (Says (λ node. tree_text (view node.durable))) (Says (λ _. line (codes "down"))) on m.node said tt m.node)
      → Refines (ClientStands medium scripts) (node_part Show) laptop laptop x y tt
  shown_by laptop x y on said wrote scripts each = record {
    step = λ m here.
        let it = each m here in
        let step : Shows (λ state. tree_text (view state)) m.node said tt m.node =
        record { mid = m.node; front = []; rest = said; answer = on; first = (refl, it.0, refl); second = it.1; whole = refl } in
        (said, m, wrote, record { inner = m.node; step = step; is = refl }, here);
  }

  -- ---- the clients that a world lends

  -- the client that is lent is the laptop's
  lent_up : (post : Post (Seated D) D) (it : LiveClient D) → Some it ≡ lent_by post → post ≡ Up (record { client = it })
  lent_up (Up seated) it is = ap (λ (one : LiveClient D). Up (record { client = one })) (same_Some seated.client it (sym is))
  lent_up post it is = absurd cc

  -- the client at a place is the machine's there
  module _ (world : World D) (place : ℕ) (laptop : Laptop D) (get : slice_get world.clients.items place ≡ Some laptop) where
    pub lends_any : (o : Option (LiveClient D)) → o ≡ lent_by laptop.post → (m : Machine) → StandsFor medium world m
        → LendsClient medium o place m
    lends_any None is m here =
        inr (node_is medium laptop (client_in m place) (client_here medium world m here place laptop get).client.node
        ∙ down_by laptop.post is)
      where
        down_by : (post : Post (Seated D) D) → None ≡ lent_by post → is_alive (record laptop { post = post }) ≡ false
        down_by (Up seated) none = absurd cc
        down_by post none = refl
    lends_any (Some it) is m here =
        let up = lent_up laptop.post it is in
        let there =
        awake_stands medium m.scripts laptop (client_in m place) (ap (λ (p : Post (Seated D) D). is_alive (record laptop { post = p })) up)
        (client_here medium world m here place laptop get).client in
        let lent = lent_at medium laptop it up (record { scripts = m.scripts; machine = client_in m place; stands = there }) in
        let within = inside_here medium world m here place laptop get in
        let many = same_length medium world m here in (
          within,
          record {
            alive = there.alive;
            held = ap (λ (s : kept.State). s.held) lent.state ∙ there.state.held;
            view = ap kept.view lent.state ∙ view_is (state_in laptop) (live_in laptop) _ _ there.state;
            queue = rw (← lent.state) at there.state.items;
            running = rw (← lent.state, ← lent.live) at there.state.running;
            ready = record {
              tied = lent.tied;
              begun = lent.begun;
              place_is = lent.place ∙ here.placed place laptop get;
              few = omega (arith, here.eight);
            };
          },
        )

    -- and its disk is that of the place
    pub lends_disk : (o : Option (LiveClient D)) → o ≡ lent_by laptop.post
        → IfSome o (λ it. ClientIs (λ (l : Laptop D). disk_in l ≡ Some (client_disk it)) place world)
    lends_disk None is = tt
    lends_disk (Some it) is = λ other there. rw (same_Some laptop other (sym get ∙ there)) at (ap disk_by (lent_up laptop.post it is))

  pub lends_none : (world : World D) (place : ℕ) → length world.clients.items ≤ place → (m : Machine)
      → StandsFor medium world m → LendsClient medium None place m
  lends_none world place without m here = let many = same_length medium world m here in inl (omega (arith, without, many))

  -- in the world of some machine what is lent can be looked at
  pub lends_ready : (world : World D) (place : ℕ) (o : Option (LiveClient D))
      → ((m : Machine) → StandsFor medium world m → LendsClient medium o place m) → IsWorldOfSome medium world
      → IfSome o (λ it. IsReady medium place it)
  lends_ready world place None lends some = tt
  lends_ready world place (Some it) lends some = (lends some.machine some.stands.stands).1.ready
