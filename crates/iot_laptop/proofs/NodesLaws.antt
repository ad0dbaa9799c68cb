-- What is known of a client by its node, also after a call that changes nothing but classes.
use Rattle.iot_laptop.proofs.Common.{AreNamed, At, Between, Call, ChangesClasses}
use Rattle.iot_laptop.proofs.Common.{Client, ClientStands, ClientState, Declared, Down, IsLent, IsTied, Laptop, LaptopStands, List, Medium}
use Rattle.iot_laptop.proofs.Common.{Node, Post, PostStands, Reclassed, Seated, Some, Stands, StandsAnyhow, State, StateKept, StateStands}
use Rattle.iot_laptop.proofs.Common.{StepFrom, StepsFrom, Up, UpStands, all_second, ap, begun_of, counts_on, false, is_alive}
use Rattle.iot_laptop.proofs.Common.{live_by, live_in, live_of, live_with, lives_then, map, no_text, on_is, possibly_sure, refl, rules}
use Rattle.iot_laptop.proofs.Common.{seating, second_class, stamps_by, state_by, state_in, state_of, subst, sym, true, ℕ, [], ◌∙◌, ◌≡◌}
use Rattle.iot_laptop.proofs.SeatsLaws.{known_again, none_known}
use Rattle.{iot_laptop.specs.Laptops.NodeStands, iot_machine.specs.Sound.Possibly}
use Rattle.iot_standing.proofs.{KeptLaws.idle_runs, KeptLaws.stands_with, RunsLaws.are_begun, RunsLaws.lives_all_second}
use Rattle.iot_machine.specs.Machine as machine

pub not_both : true ≡ false → ⊥
not_both e = cc

-- a laptop with this post is over this node
abbrev pub Posted : {D : Type 0} → Medium D → Laptop D → Post (Seated D) D → Node ClientState → Type 0
Posted medium laptop = PostStands (seating medium laptop.place) medium no_text

-- one that is alive has a keeper
pub keeper_of : {D : Type 0} (medium : Medium D) (place : ℕ) (post : Post (Seated D) D) (node : Node ClientState)
    → PostStands (seating medium place) medium no_text post node → node.alive ≡ true
    → (seated : Seated D) × (post ≡ Up seated) × UpStands (seating medium place) medium no_text seated node
keeper_of medium place (Up seated) node here up = (seated, refl, here)
keeper_of medium place (Down down) node here up = absurd (not_both (sym up ∙ here.alive))
keeper_of medium place Between node here up = absurd here

module _ {D : Type 0} (medium : Medium D) (place : ℕ) (post : Post (Seated D) D) (node : Node ClientState)
    (here : PostStands (seating medium place) medium no_text post node) (up : node.alive ≡ true) where
  -- what is kept of it
  pub kept_up : StateKept (state_by post) node.durable
  kept_up = let it = keeper_of medium place post node here up in rw it.1 it.2.stands.kept

  module _ (first : List ℕ) where
    -- what is known besides of one that is alive, by what was begun
    pub known_up : begun_of (live_by post) ≡ live_with first node.durable.running → live_by post ≡ live_with first node.durable.running
    known_up begun =
        let it = keeper_of medium place post node here up in
        rw it.1 (known_again it.0.client it.2.stands.tied first node.durable.running it.2.stands.kept.running (rw it.1 at begun))

    -- nothing is known if nothing runs
    pub none_up : (state_by post).running ≡ [] → live_by post ≡ live_with first node.durable.running
    none_up none =
        let it = keeper_of medium place post node here up in
        let live : live_by post ≡ [] = rw it.1 (none_known it.0.client it.2.stands.tied (rw it.1 at none)) in
        live ∙ idle_runs first (state_by post) node.durable none kept_up

-- one that is alive stands so
pub awake : {D : Type 0} {medium : Medium D} {scripts : List Declared} {laptop : Laptop D} {m : machine.Client}
    → LaptopStands medium scripts laptop m → ClientStands medium scripts laptop m
awake {medium = medium} {scripts} {laptop} {m} here =
    let sure = (keeper_of medium laptop.place laptop.post m.node here.node here.alive).2.sure in
    let named : Possibly (AreNamed scripts) m.node = possibly_sure m.node sure here.named in
    record { name = here.name; link = here.link; node = here.node; state = λ up. here.state; named = named }

module _ {D : Type 0} (medium : Medium D) where
  pub node_is : (laptop : Laptop D) (m : machine.Client) → NodeStands medium laptop m → m.node.alive ≡ is_alive laptop
  node_is laptop m here = on_is (seating medium laptop.place) medium no_text laptop.post m.node here

  module _ (scripts : List Declared) (laptop : Laptop D) (m : machine.Client) where
    pub awake_stands : is_alive laptop ≡ true → ClientStands medium scripts laptop m → LaptopStands medium scripts laptop m
    awake_stands up here =
        let alive = node_is laptop m here.node ∙ up in
        let state = here.state alive in
        let named = here.named.is in search rules

    -- it is the keeper of its node
    pub up_stands : (it : Client D) → laptop.post ≡ Up (record { client = it }) → LaptopStands medium scripts laptop m
        → UpStands (seating medium laptop.place) medium no_text (record { client = it }) m.node
    up_stands it is here = rw is at here.node

    -- ---- over another post

    module _ (name : laptop.name ≡ m.name) (link : laptop.link ≡ m.link) (post : Post (Seated D) D) (n : Node ClientState)
        (stands : Posted medium laptop post n) where
      state_at : n.alive ≡ true → (first : List ℕ) → live_by post ≡ live_with first n.durable.running
          → StateStands (state_by post) (live_by post) first n.durable
      state_at up first = stands_with (state_by post) (live_by post) first n.durable (kept_up medium laptop.place post n stands up)

      pub awake_at : n.alive ≡ true → (first : List ℕ) → live_by post ≡ live_with first n.durable.running → AreNamed scripts n.durable
          → LaptopStands medium scripts (record laptop { post = post }) (record m { node = n; first = first })
      awake_at up first runs named = let state = state_at up first runs in search rules

      -- alive or down
      pub stands_at : (n.alive ≡ true → live_by post ≡ live_with m.first n.durable.running) → Possibly (AreNamed scripts) n
          → ClientStands medium scripts (record laptop { post = post }) (record m { node = n })
      stands_at runs named =
          record { name = name; link = link; node = stands; state = λ up. state_at up m.first (runs up); named = named }

  pub some_awake : (laptop : Laptop D) → StandsAnyhow medium laptop → is_alive laptop ≡ true → Stands medium laptop
  some_awake laptop some up =
      record { scripts = _; machine = _; stands = awake_stands some.scripts laptop some.machine up some.stands }

  -- what is known of the client of one that stands
  pub lent_at : (laptop : Laptop D) (it : Client D) → laptop.post ≡ Up (record { client = it }) → Stands medium laptop
      → IsLent medium laptop it
  lent_at laptop it is stands =
      let m = stands.machine in
      let here = stands.stands in
      let up = up_stands stands.scripts laptop m it is here in
      record {
        post = is;
        state = sym (ap state_by is);
        live = sym (ap live_by is);
        place = up.stands.place_is;
        tied = up.stands.tied;
        begun = rw is at (are_begun (state_in laptop).running (live_in laptop) m.first m.node.durable.running here.state.running);
      }

-- ---- a call of a laptop's node

-- by its name it is one of the machine's
pub at_node : {D A : Type 0} (medium : Medium D) (laptop : Laptop D) (post : Post (Seated D) D)
    {after : Laptop D → machine.Client → Type 0} (call : List ℕ → Call (Node ClientState) A) (names : machine.Client → List ℕ)
    {m : machine.Client} {x y : List ℕ} {a : A} → laptop.name ≡ names m
    → StepsFrom (Posted medium laptop) (call laptop.name) m.node post x y a
    → ((n : Node ClientState) (text : List ℕ) → call laptop.name m.node text a n → Posted medium laptop post n
    → after (record laptop { post = post }) (record m { node = n }))
    → StepFrom after (λ m. At machine.node (call (names m)) m) m (record laptop { post = post }) x y a
at_node medium laptop post call names {m} {a = a} named it each = record {
  text = it.0;
  next = record m { node = it.1 };
  wrote = it.2;
  step = record { inner = it.1; step = subst (λ (name : List ℕ). call name m.node it.0 a it.1) named it.3; is = refl };
  stands = each it.1 it.0 it.3 it.4;
}

-- ---- a call that changes nothing but classes

-- it is the keeper of its node still
seat_again : {D : Type 0} {medium : Medium D} (place : ℕ) (was now : Client D) (node : Node ClientState) → ChangesClasses was now
    → IsTied medium now → UpStands (seating medium place) medium no_text (record { client = was }) node
    → UpStands (seating medium place) medium no_text (record { client = now }) node
seat_again {medium = medium} place was now node same tied it =
    let kept = subst (λ (s : State). StateKept s node.durable) (sym same.state) it.stands.kept in
    let counts = ap (counts_on medium) same.disk ∙ it.counts in
    record { alive = it.alive; sure = it.sure; counts = counts; count = it.count; stands = search rules }

-- so it stands for each client that has those of first class that it has
pub reclasses : {D : Type 0} {medium : Medium D} {laptop : Laptop D} {was now : Client D} → laptop.post ≡ Up (record { client = was })
    → ChangesClasses was now → IsTied medium now → (first : machine.Client → List ℕ)
    → ((scripts : List Declared) (m : machine.Client) → LaptopStands medium scripts laptop m
    → live_of now ≡ live_with (first m) m.node.durable.running)
    → Reclassed medium (λ m. record m { first = first m }) laptop (record laptop { post = Up (record { client = now }) })
reclasses {D} {medium} {laptop} {was} {now} up same tied first lives = record {
  place = refl;
  state = same.state ∙ sym (ap state_by up);
  stamps = same.stamps ∙ sym (ap stamps_by up);
  disk = rw up (ap Some same.disk);
  stands = λ scripts m here.
      let post : Post (Seated D) D = Up (record { client = now }) in
      let there : Posted medium laptop post m.node =
      seat_again laptop.place was now m.node same tied (up_stands medium scripts laptop m was up here) in
      awake_at medium scripts laptop m here.name here.link post m.node there here.alive (first m) (lives scripts m here) here.named;
}

-- all that run are second class
pub all_reclassed : {D : Type 0} (medium : Medium D) (laptop : Laptop D) (was now : Client D) → laptop.post ≡ Up (record { client = was })
    → ChangesClasses was now → IsTied medium now → live_of now ≡ map second_class (live_of was)
    → Reclassed medium all_second laptop (record laptop { post = Up (record { client = now }) })
all_reclassed medium laptop was now up same tied second =
    reclasses up same tied (λ m. []) (λ scripts m here.
    let stands : StateStands (state_of was) (live_of was) m.first m.node.durable = rw up at here.state in
    second ∙ ap (map second_class) (lives_then (state_of was).running (live_of was) m.first m.node.durable.running stands.running)
    ∙ lives_all_second m.first m.node.durable.running)
