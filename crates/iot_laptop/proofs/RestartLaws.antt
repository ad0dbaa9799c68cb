-- What befalls a laptop: its link, and a start, a crash, a restart and an armed disk of its node.
use Rattle.std.proofs.{Common.codes, Common.◌≢◌, lemmas.Result.on_ok_weaker}
use Rattle.{iot_disk.specs.Disk.Storing, iot_disk.specs.declared.disk.Pick.Pick, iot_judging.proofs.SpelledTreesLaws.far_root_spelled}
use Rattle.{iot_kept.specs.Rules.header, iot_kept.specs.States.opening, iot_laptop.proofs.Common.AreNamed, iot_laptop.proofs.Common.Asks}
use Rattle.iot_laptop.proofs.Common.{At, Before, Besides, Between, Bool, ClientStands, ClientState, CutsAll, Declared, Down, IsClientImage}
use Rattle.iot_laptop.proofs.Common.{IsTree, KeepsDisk, Laptop, LaptopStands, List, Medium, Node, None, OnOk, Option, Part, Post}
use Rattle.iot_laptop.proofs.Common.{PostStands, Reclassed, Result, Returned, Seated, Stands, StandsAnyhow, StepFrom, Then, all_second}
use Rattle.iot_laptop.proofs.Common.{ap, append-nil, arith, asks, at_each, at_one, begun_of, bind, connected, counts_on, disk_in, does}
use Rattle.iot_laptop.proofs.Common.{false, goes_on, inl, inr, is_alive, is_on, joined, live_in, live_with, lives_then, no_text, on_is}
use Rattle.iot_laptop.proofs.Common.{quiet, refl, rules, same_Some, seating, state_by, state_in, subst, sym, true, ℕ, [], ◌++◌, ◌∙◌, ◌≡◌}
use Rattle.iot_laptop.proofs.NodesLaws.{Posted, at_node, awake, awake_stands, kept_up, known_up, node_is, none_up, not_both, stands_at}
use Rattle.iot_laptop.{proofs.SeatsLaws.begun_all, proofs.SeatsLaws.besides_by, proofs.SeatsLaws.none_runs, specs.Alone.OpensClient}
use Rattle.iot_laptop.specs.{Below.IsEmpty, Calls.Befalls, Calls.Came, Laptops.IsCutLink, Laptops.IsUnopened, Laptops.after_passage}
use Rattle.{iot_laptop.specs.Laptops.unopened_laptop, iot_link.specs.Links.LinkState, iot_link.specs.Links.after_exchange}
use Rattle.iot_link.specs.declared.passages.Passage.{Passage, TheVariants.Away, TheVariants.Both}
use Rattle.iot_machine.proofs.PossiblyLaws.{SameStates, comes_within, crashes_within, opens_states, possibly_same}
use Rattle.iot_machine.{proofs.StepsLaws.says_this, specs.Calls.Does, specs.Clients.new_client}
use Rattle.iot_machine.specs.Events.{ArmsClient, CrashesClient, CutsOff, Disconnects, RestartsClient}
use Rattle.iot_machine.specs.{Nodes.unopened, Refining.Refines, Stops.ArmsDisk, Stops.ComesBack, Stops.Crashes, Stops.OpensNode}
use Rattle.iot_machine.specs.Texts.{disconnect_line, line, stopped_line}
use Rattle.iot_node.specs.{Posts.CameIf, Posts.IsStanding, Posts.Ready, declared.comeback.Comeback.TheVariants.Restart}
use Rattle.iot_slots.specs.Decoding.{Decoded, NotStarted, decoded, state_of as encoded_in}
use Rattle.iot_tree.{proofs.RowLaws.root_map, proofs.RowLaws.root_rows, specs.declared.nodes.Node.TheVariants.FarDir}
use Rattle.iot_machine.specs.Machine as machine
use Rattle.iot_link.specs.Links as links

module _ {D : Type 0} (medium : Medium D) (laptop : Laptop D) where
  -- ---- another link

  -- over another link it stands for some client too
  pub stands_over : (link : LinkState) → Stands medium laptop → Stands medium (record laptop { link = link })
  stands_over link stands =
      record { scripts = stands.scripts; machine = record stands.machine { link = link }; stands = search (rules, stands.stands) }

  -- its link is made another one, and that is said
  pub relinks : {E : Type 0} (r : Result (Unit {0}) E) (change : LinkState → LinkState) (line : List ℕ → List ℕ) (link : LinkState)
      (x y : List ℕ) → link ≡ change laptop.link → OnOk r (y ≡ x ++ line laptop.name)
      → OnOk r (Befalls medium (Does (λ m. line m.name) (λ m. record m { link = change m.link })) laptop
      (record laptop { link = link }) x y tt)
  relinks r change line link x y is = on_ok_weaker r (λ wrote scripts. does (λ m here.
      let same : link ≡ change m.link = is ∙ ap change here.link in
      (wrote ∙ ap (λ (n : List ℕ). x ++ line n) here.name, search rules)))

  pub disconnects : {E : Type 0} (r : Result (Unit {0}) E) (mid : Laptop D) (x y : List ℕ) → IsCutLink medium laptop mid
      → OnOk r (y ≡ x ++ disconnect_line mid.name) → OnOk r (Befalls medium Disconnects laptop mid x y tt)
  disconnects r mid x y cut = on_ok_weaker r (λ wrote scripts. does (λ m here.
      let there = cut.stands scripts m here in
      (wrote ∙ ap (λ (n : List ℕ). x ++ disconnect_line n) there.name, there)))

  -- ---- an exchange that does not get through

  -- over another link, with all that run second class, by a change of the client of the machine that does both
  pub over_second : (link : LinkState) (new : Laptop D) {change : machine.Client → machine.Client}
      → ((m : machine.Client) → laptop.link ≡ m.link → record m { link = link; first = [] } ≡ change m)
      → Reclassed medium all_second (record laptop { link = link }) new → Reclassed medium change laptop new
  over_second link new {change} is second =
      let stands = λ (scripts : List Declared) (m : machine.Client) (here : LaptopStands medium scripts laptop m).
      rw (is m here.link) at (second.stands scripts (record m { link = link }) (search rules)) in search rules

  -- so it is after any that did not get through
  pub is_over : (p : Passage) (link : LinkState) (new : Laptop D) → link ≡ after_exchange p laptop.link → p ≢ Both
      → Reclassed medium all_second (record laptop { link = link }) new → Reclassed medium (after_passage p) laptop new
  is_over Away link new is lost second = over_second link new (λ m same. λ i. record m { link = (is ∙ same) i; first = [] }) second
  is_over Both link new is lost second = absurd (lost refl)
  is_over p link new is lost second = over_second link new (λ m same. λ i. record m { link = is i; first = [] }) second

  -- so it is if its link is cut
  pub cuts_live : (link : LinkState) (new : Laptop D) → link ≡ connected false laptop.link → is_alive laptop ≡ true
      → Reclassed medium all_second (record laptop { link = link }) new → IsCutLink medium laptop new
  cuts_live link new is up second =
      let over : Reclassed medium machine.cut_off laptop new =
      over_second link new (λ m same. λ i. record m { link = (is ∙ ap (connected false) same) i; first = [] }) second in
      let stands = λ (scripts : List Declared) (m : machine.Client) (here : ClientStands medium scripts laptop m).
      awake (over.stands scripts m (awake_stands medium scripts laptop m up here)) in search rules

-- ---- its node

module _ {D : Type 0} (medium : Medium D) (laptop : Laptop D) (post : Post (Seated D) D) where
  abbrev next : Laptop D
  next = record laptop { post = post }

  -- a call of its node by its name
  by_name : (scripts : List Declared) (call : List ℕ → Part (Node ClientState)) (x y : List ℕ)
      → Refines (Posted medium laptop) (call laptop.name) laptop.post post x y tt
      → ((m : machine.Client) → ClientStands medium scripts laptop m → (n : Node ClientState) (text : List ℕ)
      → call laptop.name m.node text tt n → Posted medium laptop post n → ClientStands medium scripts next (record m { node = n }))
      → Refines (ClientStands medium scripts) (Then (Asks (λ m. m.name)) (λ name. At machine.node (call name))) laptop next x y tt
  by_name scripts call x y it each =
      bind {a = laptop.name} (asks (λ m here. here.name))
      (at_each (λ m here. at_node medium laptop post call (λ _. laptop.name) refl (it.step m.node here.node) (each m here)))

  pub crashes : (x y : List ℕ) → Refines (Posted medium laptop) (Crashes laptop.name) laptop.post post x y tt
      → is_on post ≡ false → Befalls medium CrashesClient laptop next x y tt
  crashes x y it off scripts = by_name scripts Crashes x y it (λ m here n text step stands.
      stands_at medium scripts laptop m here.name here.link post n stands
      (λ up. absurd (not_both (sym up ∙ on_is (seating medium laptop.place) medium no_text post n stands ∙ off)))
      ((crashes_within laptop.name m.node n text tt step).each (AreNamed scripts) here.named))

  -- its disk is armed
  pub arms : (calls : ℕ) (pick : Pick) → besides_by post ≡ besides_by laptop.post → (x y : List ℕ)
      → Refines (Posted medium laptop) (ArmsDisk laptop.name calls pick) laptop.post post x y tt
      → Befalls medium (ArmsClient calls pick) laptop next x y tt
  arms calls pick live x y it scripts = by_name scripts (λ name. ArmsDisk name calls pick) x y it (λ m here n text step stands.
      let same : SameStates m.node n = rw step.1 (record { durable = refl; doubt = refl }) in
      stands_at medium scripts laptop m here.name here.link post n stands
      (λ up.
      let state = here.state (ap (λ (n : Node ClientState). n.alive) (sym step.1) ∙ up) in
      known_up medium laptop.place post n stands up m.first
      (ap (λ (b : Besides). b.begun) live
      ∙ ap begun_of (lives_then (state_in laptop).running (live_in laptop) m.first m.node.durable.running state.running)
      ∙ begun_all m.first m.node.durable.running ∙ ap (λ (s : ClientState). live_with m.first s.running) (sym same.durable)))
      (possibly_same m.node n same here.named))

-- ---- a new laptop

-- an empty disk is that of a client that knows nothing
empty_decoded : (bytes : List ℕ) → bytes ≡ [] → decoded header bytes ≡ NotStarted
unfolding decoded
empty_decoded bytes none = ap (decoded header) none

empty_image : (bytes : List ℕ) → bytes ≡ [] → IsClientImage bytes 0 new_client
empty_image bytes none = record {
  state = opening;
  stands = record {
    stands = record { decoding = NotStarted; is = empty_decoded bytes none; makes = refl };
    counted = ap (λ (d : Decoded). (encoded_in d).count) (empty_decoded bytes none);
  };
  kept =
      let tree : IsTree opening.held = subst IsTree (root_map FarDir) (root_rows FarDir refl).tree in search (rules, far_root_spelled);
}

module _ {D : Type 0} (medium : Medium D) (disk : D) (empty : IsEmpty medium disk) (place : ℕ) where
  new_node : PostStands (seating medium place) medium no_text (Down (record { disk = disk; doubt = None }))
      (unopened new_client (counts_on medium disk))
  new_node = record {
    alive = refl;
    counts = refl;
    count = 0;
    holds = record { sure = refl; each = record { each = λ image left. empty_image image (empty.synced.is image left ∙ empty.empty) } };
  }

  pub new_stands : (name : List ℕ) (link : LinkState) → link ≡ links.opened → (scripts : List Declared)
      → ClientStands medium scripts (record { name = name; place = place; post = Down (record { disk = disk; doubt = None }); link = link })
      (unopened_laptop name (counts_on medium disk))
  new_stands name link linked scripts =
      record { name = refl; link = linked; node = new_node; state = λ up. absurd cc; named = search rules }

-- ---- it starts for the first time

module _ {D : Type 0} (medium : Medium D) (laptop : Laptop D) (new : IsUnopened medium laptop) where
  pub opens_standing : IsStanding (seating medium laptop.place) medium laptop.post
  opens_standing = record {
    says = no_text;
    node = unopened new_client (counts_on medium new.disk);
    stands = rw new.down (new_node medium new.disk new.empty laptop.place);
  }

  pub opens_ready : Ready medium laptop.post
  opens_ready = rw new.down (refl, record { is = new.empty.synced.is })

  module _ (post : Post (Seated D) D) (x y : List ℕ) (on : Bool)
      (it : Refines (Posted medium laptop) (OpensNode laptop.name) laptop.post post x y on) where
    -- what was started knows nothing
    started_idle : is_on post ≡ true → (state_by post).running ≡ []
    unfolding opens_standing
    started_idle up =
        let s = it.step opens_standing.node opens_standing.stands in
        let kept = kept_up medium laptop.place post s.1 s.4 (on_is (seating medium laptop.place) medium no_text post s.1 s.4 ∙ up) in
        none_runs (state_by post).running (rw (opens_states laptop.name opens_standing.node s.1 s.0 on s.3).durable at kept.running)

    pub opens : Befalls medium OpensClient laptop (record laptop { post = post }) x y on
    opens scripts = at_each (λ m here.
        at_node medium laptop post OpensNode (λ m. m.name) here.name (it.step m.node here.node) (λ n text step stands.
        stands_at medium scripts laptop m here.name here.link post n stands
        (λ up.
        none_up medium laptop.place post n stands up m.first
        (started_idle (sym (on_is (seating medium laptop.place) medium no_text post n stands) ∙ up)))
        (possibly_same m.node n (opens_states laptop.name m.node n text on step) here.named)))

-- ---- a restart

module _ {D : Type 0} (medium : Medium D) (old : Laptop D) where
  -- its node came back over this post, or stopped again
  pub record CameBack (post : Post (Seated D) D) (x y : List ℕ) (on : Bool) : Type 0 where
    pub off : is_alive old ≡ false
    pub steps : Refines (Posted medium old) (ComesBack old.name no_text) old.post post x y on
    pub is : is_on post ≡ on
    pub came : (node : Node ClientState) → Posted medium old old.post node
        → CameIf (seating medium old.place) medium on old.post Restart old.name x y node.durable node.doubt

  -- one that is alive is left as it is
  pub says_up : (x z : List ℕ) → is_alive old ≡ true → z ≡ x ++ line (codes "up") → Befalls medium RestartsClient old old x z tt
  says_up x z up wrote scripts =
      bind {a = true} (asks (λ m here. sym (awake_stands medium scripts old m up here).alive)) (says_this wrote)

  pub is_standing : StandsAnyhow medium old → IsStanding (seating medium old.place) medium old.post
  is_standing stands = record { says = _; node = _; stands = stands.stands.node }

  module _ (post : Post (Seated D) D) (x y : List ℕ) where
    abbrev mid : Laptop D
    mid = record old { post = post }

    -- its node came back over this post, or it did not
    abbrev Turned : (scripts : List Declared) (on : Bool) → Laptop D → machine.Client → Type 0
    Turned scripts true laptop m = Before medium laptop scripts m
    Turned scripts false laptop m = ClientStands medium scripts laptop m

    module _ {on : Bool} (back : CameBack post x y on) (scripts : List Declared) where
      turns : (m : machine.Client) → ClientStands medium scripts old m
          → StepFrom (Turned scripts on) (At machine.node (ComesBack old.name no_text)) m mid x y on
      turns m down = at_node medium old post (λ name. ComesBack name no_text) (λ _. old.name) refl (back.steps.step m.node down.node)
          (λ n text step there.
          let alive : n.alive ≡ on = on_is (seating medium old.place) medium no_text post n there ∙ back.is in
          let named = (comes_within old.name no_text m.node n text on step).each (AreNamed scripts) down.named in
          (elim on as (λ on. n.alive ≡ on → Turned scripts on mid (record m { node = n })) [
            | true ↦ λ alive. let named = named.is in search rules
            | false ↦ λ alive.
                stands_at medium scripts old m down.name down.link post n there (λ up. absurd (not_both (sym up ∙ alive))) named
          ]) alive)

      -- what it does then makes the whole of its restart
      restarts : (new : Laptop D) (z : List ℕ)
          → ((k : machine.Client) → Turned scripts on mid k → StepFrom (ClientStands medium scripts) (goes_on CutsOff on) k new y z tt)
          → Refines (ClientStands medium scripts) RestartsClient old new x z tt
      restarts new z rest = at_each (λ m here.
          let s = turns m here in
          let down : false ≡ m.node.alive = sym (node_is medium old m here.node ∙ back.off) in
          joined (quiet {P = ClientStands medium scripts} {a = false} m (refl, down, refl) here)
          (joined (quiet {P = ClientStands medium scripts} {a = old.name} m (refl, here.name, refl) here)
          (joined s (rest s.next s.stands))))

    -- ---- it has stopped again

    module _ (back : CameBack post x y false) (scripts : List Declared) where
      pub stops_again : Refines (ClientStands medium scripts) RestartsClient old mid x y tt
      stops_again = restarts back scripts mid y (λ k there. quiet k (refl, refl) there)

      pub came_again : (m : machine.Client) → ClientStands medium scripts old m → Came medium old x y m
      came_again m here =
          let s = back.steps.step m.node here.node in
          let said : s.0 ≡ stopped_line old.name = elim s.3 [ inl it ↦ absurd (not_both (sym it.0)) | inr stop ↦ stop.0 ] in
          record { on = false; mid = y; rest = []; came = back.came _ here.node; whole = sym (append-nil y); stopped = λ _. rw said at s.2 }

    -- ---- it is back

    module _ (back : CameBack post x y true) where
      pub is_back : StandsAnyhow medium old → Returned medium mid
      is_back stands = record { scripts = _; machine = _; stands = (turns back stands.scripts stands.machine stands.stands).stands }

      module _ (new : Laptop D) (z : List ℕ) (cut : CutsAll medium mid new y z) (scripts : List Declared) where
        all_cut : (k : machine.Client) → Turned scripts true mid k → StepFrom (ClientStands medium scripts) CutsOff k new y z tt
        all_cut k there =
            joined (quiet {P = Turned scripts true} {a = k.node.durable.running} k (refl, refl, refl) there)
            (at_one (cut scripts k.node.durable.running) (record { here = there; runs = refl }))

        pub comes_back : Refines (ClientStands medium scripts) RestartsClient old new x z tt
        comes_back = restarts back scripts new z all_cut

        pub came_back : (m : machine.Client) → ClientStands medium scripts old m → Came medium old x z m
        came_back m here =
            let t = all_cut _ (turns back scripts m here).stands in
            record { on = true; mid = y; rest = t.text; came = back.came m.node here.node; whole = t.wrote; stopped = λ never. absurd cc }

-- ---- its disk

pub keeps_then : {D I : Type 0} (medium : Storing D I) (old between new : Option D) → KeepsDisk medium old between
    → KeepsDisk medium between new → KeepsDisk medium old new
keeps_then medium old between new first second =
    let same : first.now ≡ second.was = same_Some first.now second.was (sym first.new_has ∙ second.old_has) in
    let arms = second.arms ∙ ap medium.arms (sym same) ∙ first.arms in
    let faults = rw (← same) at second.faults in
    record { was = _; now = _; old_has = first.old_has; new_has = second.new_has; arms = arms; faults = grind (arith, first.faults) }

-- nothing was done
pub keeps_any : {D : Type 0} (medium : Medium D) (old : Laptop D) → StandsAnyhow medium old → KeepsDisk medium (disk_in old) (disk_in old)
keeps_any medium old stands = by old.post stands.stands.node
  where
    by : (post : Post (Seated _) _) → Posted medium old post stands.machine.node
        → KeepsDisk medium (disk_in (record old { post = post })) (disk_in (record old { post = post }))
    by Between here = absurd here
    by post here = record { was = _; now = _; old_has = refl; new_has = refl; arms = refl; faults = inl refl }
