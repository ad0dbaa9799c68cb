-- A new world is that of a machine that has opened, and what is declared in a world is declared in the machine.
use Rattle.std.proofs.Common.{bytes_eq, if◌then◌else◌}
use Rattle.std.proofs.Math.Seq.{get_or-append_seam, set-append_seam, take-append_seam}
use Rattle.std.proofs.lemmas.{List.Folds.find-append, Slice.Eq.bytes_eq-Decides, Slice.Zip.all_zipped_more}
use Rattle.{iot_client.specs.Messages.nothing_held, iot_event.specs.Meanings.is_declared, iot_exchange.proofs.FollowingLaws.follows_nothing}
use Rattle.{iot_exchange.specs.Scripts.script_of, iot_lang.specs.Code.Code, iot_laptop.specs.Laptops.unopened_laptop}
use Rattle.iot_machine.proofs.{FollowsLaws.all_push, MachinesLaws.added_at, SoundLaws.sound_opening}
use Rattle.iot_machine.proofs.StepsLaws.{at_one, joined as one_then, nothing, says_this}
use Rattle.iot_machine.specs.{Calls.goes_on, Events.Declares, Events.add_client, Events.client_of}
use Rattle.iot_machine.specs.{Machine.handed, Machine.last_of, Nodes.no_counts, Nodes.unopened, Stops.OpensNode, Transcript.Opening}
use Rattle.{iot_node.specs.Disks.IsEmpty, iot_server_node.proofs.ServersLaws.more_names, iot_standing.proofs.ScriptsLaws.if_more}
use Rattle.iot_standing.{proofs.ScriptsLaws.named_more, proofs.ScriptsLaws.state_more, specs.Scripts.AreApart, specs.Scripts.IsNamed}
use Rattle.{iot_standing.specs.Scripts.script_named, iot_world.proofs.BeginsLaws.begins_there, iot_world.proofs.Common.AllByRecursion}
use Rattle.iot_world.proofs.Common.{ArePlaced, Bool, ClientStands, Counts, Declared, DeclaredOn, DeclaredScript, Each, Event, Global}
use Rattle.iot_world.proofs.Common.{HavingAnswered, IsBeside, IsWorldOfSome, KeepsBeside, KeepsCommits, KeepsDisk, KeepsTrails, Laptop}
use Rattle.iot_world.proofs.Common.{LaptopHasDisk, LeavesDisks, List, Machine, MakesStep, Medium, None, Opens, Refines, Result, Says}
use Rattle.iot_world.proofs.Common.{ServerNode, ServerStands, Some, StandsFor, StandsIn, StepFrom, StepsTo, Vec, World, ap, append-nil}
use Rattle.iot_world.proofs.Common.{arith, at_each, client_at, client_count, client_in, counts_on, disk_in, disk_of, disks_of, does}
use Rattle.iot_world.proofs.Common.{drop, event_part, false, follows_kept, is_some, length, length-append, length-map, map, map-append}
use Rattle.iot_world.proofs.Common.{names_in, on_both, or_parts, paired, placed, quiet, refl, rules, script_names, server_name, stamps_in}
use Rattle.iot_world.proofs.Common.{subst, suc, sym, take, true, vec_capacity, vec_len, with_ends, ℕ, [], ◌++◌, ◌+◌, ◌∙◌, ◌∷◌, ◌≡◌, ◌≤◌}
use Rattle.iot_world.proofs.DisksLaws.{arms_with, clients_same, ends, first_kept, pushed_with, server_same, unarmed_same}
use Rattle.iot_world.proofs.{ListLaws.all_split, ListLaws.each_map, ListLaws.each_place_push, PlacesLaws.ServerFollows}
use Rattle.iot_world.proofs.{PlacesLaws.beside_places, PlacesLaws.ends_length, PlacesLaws.kept_server, WorldsLaws.Any, WorldsLaws.at_part}
use Rattle.iot_world.specs.{Disks.AreFresh, Disks.AreUnarmed, Prelude.client_line, World.GivesBack, World.HasDisks, World.Starts}
use Rattle.iot_event.specs.declared.event.Event.TheVariants as events
use Rattle.iot_exchange.specs.Scripts as exchange
use Rattle.iot_machine.specs.Machine as machine

-- ---- scripts by their names, as more are declared

apart_more : (scripts : List Declared) (one : Declared) → AreApart scripts → script_named one.name scripts ≡ None
    → AreApart (scripts ++ one ∷ [])
apart_more scripts one apart none =
    each_place_push (λ n. IsNamed (scripts ++ one ∷ [])) scripts one (λ n script at. named_more scripts one script (apart n script at))
    (rw (find-append (λ s. bytes_eq one.name s.name) scripts (one ∷ []), none, (bytes_eq-Decides one.name one.name).1 refl) refl)

-- a name that is not declared names none
undeclared : (ws : List DeclaredScript) (name : List ℕ) → is_declared name (map (λ w. w.name) ws) ≡ false
    → script_named name (map script_of ws) ≡ None
undeclared [] name none = refl
undeclared (w ∷ ws) name none =
    let parts = or_parts (bytes_eq name w.name) (is_declared name (map (λ w. w.name) ws)) none in
    rw parts.0 (undeclared ws name parts.1)

-- ---- the counts of ten disks

-- the machine before anything has started, of a server whose two disks have counted this, beside eight others
abbrev pub at_first : (first last : Counts) → List Counts → Machine
at_first first last others = record (handed []) { server = unopened [] (paired first last); beside = last.arms; spare = others }

before_is : (first last : Counts) (others : List Counts) → length others ≡ 8
    → handed (with_ends first last others) ≡ at_first first last others
before_is first last others eight =
    let nine : 9 ≡ suc (length others) = omega (arith, eight) in
    let tenth : last_of (with_ends first last others) ≡ last = rw nine (get_or-append_seam others last [] no_counts) in
    let spare : take 8 (others ++ last ∷ []) ≡ others = rw (← eight) (take-append_seam others (last ∷ [])) in
    λ i. at_first first (tenth i) (spare i)

-- ---- a new world

module _ {D : Type 0} (medium : Medium D) (disks : List D) (first last : D) (rest : List D) (split : disks ≡ with_ends first last rest)
    (fresh : AreFresh medium disks) where
  eight_left : length rest ≡ 8
  eight_left = omega (arith, ap length split, ends_length first last rest, fresh.ten)

  abbrev before : Machine
  before = at_first (counts_on medium first) (counts_on medium last) (map (counts_on medium) rest)

  pub handed_are : handed (map (counts_on medium) disks) ≡ before
  handed_are =
      rw (split, map-append (counts_on medium) rest (last ∷ [])) (before_is _ _ _ (length-map rest (counts_on medium) ∙ eight_left))

  -- a world whose server was never started, alone over these disks, and the server after its start
  module _ (was server : ServerNode D) (clients : Vec (Laptop D) Global) (scripts : Vec DeclaredScript Global) (spare : Vec D Global)
      (no_clients : clients.items ≡ []) (no_scripts : scripts.items ≡ []) (others : spare.items ≡ rest)
      (stands : ServerStands medium [] was before.server 0) (beside : IsBeside medium was false (medium.arms last))
      (kept : KeepsBeside medium was server) where
    abbrev opened : World D
    opened = record { server = server; clients = clients; scripts = scripts; spare = spare }

    pub opens_has : vec_len spare + 2 ≤ vec_capacity spare → HasDisks opened
    opens_has room = record {
      server = beside_places medium server false _ (kept false _ beside);
      clients = rw no_clients tt;
      room = omega (arith, ap length no_clients, room);
    }

    pub opens : (x y : List ℕ) (on : Bool)
        → StepsTo (HavingAnswered medium [] 0) (HavingAnswered medium [] 0) (OpensNode server_name) was server x y on
        → vec_len spare + 2 ≤ vec_capacity spare → Opens medium disks x y opened
    opens x y on one room =
        let s = one.step before.server stands in
        let now : StandsFor medium opened (record before { server = s.1 }) = record {
          server = s.4;
          beside = kept false _ beside;
          clients_ = rw no_clients tt;
          scripts = ap (λ (ss : List DeclaredScript). exchange.scripts_of ss) (sym no_scripts);
          apart = λ place script at. absurd cc;
          placed = rw no_clients (λ place laptop at. absurd cc);
          spare = rw others (all_split (IsEmpty medium) rest last (rw split at fresh.each).1).0;
          counts = ap (map (counts_on medium)) others;
          eight = omega (arith, ap length no_clients, ap length others, eight_left);
        } in
        let it : StepFrom (StandsFor medium) Opening before opened x y tt =
        one_then (at_part {Q = Any} {w = opened} {a = on} machine.server s.0 s.1 s.2 s.3 tt) (quiet _ (refl, refl) now) in
        let step : Opening (handed (map (counts_on medium) disks)) it.text tt it.next = rw handed_are it.step in
        record {
          machine = it.next;
          text = it.text;
          wrote = it.wrote;
          step = step;
          stands = record { stands = it.stands; sound = sound_opening (map (counts_on medium) disks) it.next it.text step };
          no_clients = ap length no_clients;
          no_scripts = ap (map (λ (s : DeclaredScript). s.name)) no_scripts;
          has = opens_has room;
          first = first;
          last = last;
          were = split ∙ ap (λ (ds : List D). with_ends first last ds) (sym others);
        }

    -- in which no disk was armed
    module _ (has : disk_of was ≡ Some (placed false first last)) (keeps : KeepsDisk (on_both medium) (disk_of was) (disk_of server)) where
      abbrev follows : ServerFollows medium was server
      follows = kept_server medium was server false (medium.arms last)
          (record { first = first; last = last; has = has; beside = refl }) (kept false _ beside) keeps

      abbrev pub opens_unarmed : AreUnarmed medium disks (disks_of opened)
      opens_unarmed = record {
        was = record { first = first; last = last; others = rest; is = split };
        now = ends medium opened follows.now;
        server = follows.unarmed;
        each = rw (no_clients, others) (unarmed_same medium rest);
      }

      -- the disks come back
      pub gives_back : ((disk : D) → medium.may_leave disk (medium.reads disk)) → KeepsCommits medium was server
          → GivesBack medium disks (disks_of opened)
      gives_back is_image commits = record {
        unarmed = opens_unarmed;
        same = rw (no_clients, others) refl;
        begins = begins_there medium is_image [] server follows.now (commits.keeps [] before.server 0 stands);
      }

-- ---- a client or a script

-- A client joins: it takes the first of the spare disks, starts, and is put at the end.
module _ {D : Type 0} (medium : Medium D) (name : List ℕ) (old : World D) (clients : Vec (Laptop D) Global) (rest : Vec D Global) (disk : D)
    (was next : Laptop D) (push : clients.items ≡ old.clients.items ++ next ∷ []) (spare : old.spare.items ≡ disk ∷ rest.items) where
  abbrev joined : World D
  joined = record old { clients = clients; spare = rest }

  one_more : length clients.items ≡ length old.clients.items + 1
  one_more = ap length push ∙ length-append old.clients.items (next ∷ [])

  pub joins : (later : List Event) → DeclaredOn (events.Client name ∷ later) old → DeclaredOn later joined
  joins later declared = rw one_more declared.1

  -- its disk is one of the world's still
  pub joined_leaves : {T E : Type 0} (r : Result T E) → disk_in was ≡ Some disk → KeepsDisk medium (disk_in was) (disk_in next)
      → vec_len rest + 1 ≡ vec_len old.spare → vec_capacity rest ≡ vec_capacity old.spare → IsWorldOfSome medium old
      → LeavesDisks medium false 1 false r old joined
  joined_leaves r had keeps len capacity some = record {
    kept = record {
      has = λ has. record {
        server = has.server;
        clients = rw push (all_push LaptopHasDisk old.clients.items next (ap is_some keeps.new_has) has.clients);
        room = omega (arith, one_more, len, capacity, has.room);
      };
      taken = disk ∷ [];
      spare = spare;
    };
    same = arms_with medium old joined (server_same medium old some)
        (rw (push, spare, pushed_with old.clients.items next rest.items)
        (clients_same medium old.clients.items _ _ (first_kept medium _ (disk_in next) _ _ (rw had at keeps) (unarmed_same medium _))))
        (omega (arith, ap length spare));
  }

  -- ---- the machine declares it

  module _ (knows : was.place ≡ client_count old) (stays : next.place ≡ was.place)
      (unopened : (scripts : List Declared) → ClientStands medium scripts was (unopened_laptop name (counts_on medium disk)))
      (empty : stamps_in was ≡ nothing_held) where
    module _ (m : Machine) (here : StandsFor medium old m) where
      counts_are : counts_on medium disk ∷ map (counts_on medium) rest.items ≡ m.spare
      counts_are = ap (map (counts_on medium)) (sym spare) ∙ here.counts

      stands : (k : machine.Client) → ClientStands medium m.scripts next k → k.name ≡ name → KeepsTrails was next
          → StandsFor medium joined (record (add_client name m) { clients = m.clients ++ k ∷ [] })
      stands k started called trails =
          let server = rw (← called, ← map-append (λ (k : machine.Client). k.name) m.clients (k ∷ [])) at
          (more_names medium (names_in m) name old.server m.server m.requests here.server) in
          let clients_ : Each (StandsIn medium m.scripts m.server.durable) clients.items (m.clients ++ k ∷ []) =
          rw push (all_zipped_more (StandsIn medium m.scripts m.server.durable) old.clients.items m.clients next k here.clients_
          (record { client = started; follows = follows_kept (stamps_in was) _ _ trails (rw empty (follows_nothing m.server.durable)) })) in
          let placed : ArePlaced clients.items = rw push (each_place_push _ _ next here.placed (stays ∙ knows)) in
          let empty = (subst (AllByRecursion (IsEmpty medium)) spare here.spare).1 in
          let counts = ap (drop 1) counts_are in
          let eight : length clients.items + length rest.items ≡ 8 = omega (arith, here.eight, ap length spare, one_more) in
          search rules

    -- then it starts, or stops in that
    pub declares : (x y : List ℕ) → Starts medium name was next x y → MakesStep medium (Declares name) old joined x y tt
    declares x y starts = at_each (λ m here.
        let c : ℕ = length m.clients in
        let m' : Machine = add_client name m in
        let is = added_at name m in
        let called = ap (λ (k : machine.Client). k.name) is in
        let there : ClientStands medium m.scripts was (client_in m' c) = rw (is, ← counts_are m here) (unopened m.scripts) in
        let s = (starts.opens m.scripts).step (client_in m' c) there in
        let now : StandsFor medium joined ((client_at c).set s.1 m') =
        rw (set-append_seam m.clients (client_of name m) [] s.1)
        (stands m here s.1 s.4 (ap (λ (k : machine.Client). k.name) s.3.is ∙ called) starts.trails) in
        one_then (quiet {P = Any} {v = old} m' (refl, refl, refl) tt)
        (one_then (at_part {Q = StandsFor medium} {w = joined} (client_at c) s.0 s.1 s.2
        (record { inner = s.3.inner; step = rw called at s.3.step; is = s.3.is }) now)
        (at_one (then_says starts.on starts.says) now)))
      where
        then_says : (on : Bool) → y ≡ (if on then starts.between ++ client_line name else starts.between)
            → Refines (StandsFor medium) (goes_on (Says (λ _. client_line name)) on) joined joined starts.between y tt
        then_says true is = says_this is
        then_says false is = rw is nothing

pub declares_script : {D : Type 0} (medium : Medium D) (name : List ℕ) (code : Code) (old : World D) (scripts : Vec DeclaredScript Global)
    (x : List ℕ) → is_declared name (script_names old) ≡ false
    → scripts.items ≡ old.scripts.items ++ record { name = name; script = code } ∷ []
    → MakesStep medium (event_part (events.Script name code)) old (record old { scripts = scripts }) x x tt
declares_script medium name code old scripts x none adds = does (λ m here.
    let one : Declared = record { name = name; code = code } in
    let both =
    each_map (StandsIn medium m.scripts m.server.durable) (StandsIn medium (m.scripts ++ one ∷ []) m.server.durable) (λ laptop k it.
    let is = state_more m.scripts one k.node.durable it.client.named.is in
    let may_be = if_more m.scripts one k.node.doubt it.client.named.may_be in
    let client : ClientStands medium (m.scripts ++ one ∷ []) laptop k = search rules in
    record { client = client; follows = it.follows })
    old.clients.items m.clients here.clients_ in
    let all : m.scripts ++ one ∷ [] ≡ exchange.scripts_of scripts.items = rw (here.scripts, adds, map-append) in
    let apart = apart_more m.scripts one here.apart (ap (script_named name) here.scripts ∙ undeclared old.scripts.items name none) in
    (sym (append-nil x), search rules))
