-- What the disks that a world gives back hold and count: the first and the last have the list, the next what clients keep, and the others
-- are spare.
use Rattle.{iot_judging.specs.Records.IsImage, iot_judging.specs.Records.LacksCommit, iot_kept.specs.Standing.StandFor}
use Rattle.{iot_kept.specs.States.Transaction, iot_laptop.proofs.RestartLaws.keeps_any, iot_laptop.proofs.SeatsLaws.seat_images}
use Rattle.{iot_laptop.specs.Seats.IsClientImage, iot_machine.specs.Clients.ClientState, iot_machine.specs.Events.no_text}
use Rattle.iot_node.{proofs.PostsLaws.lasts_in, specs.Disks.CountsOn, specs.Posts.HoldsEither, specs.Posts.disk_of}
use Rattle.iot_server_node.proofs.{BackupLaws.ArePlaced, BackupLaws.placed_in as are_placed, BeginningLaws.stands_go_on, ServersLaws.lasts}
use Rattle.iot_server_node.specs.{Disks.MayLeave, Disks.own_of, Servers.disk_of as server_disks}
use Rattle.iot_standing.specs.Kept.{RunKept, StateKept}
use Rattle.iot_world.proofs.BeginsLaws.{begins_there, lone, pair_of}
use Rattle.iot_world.proofs.Common.{Between, Bool, Call, Client, ClientStands, Commit, Counts}
use Rattle.iot_world.proofs.Common.{Declared, Down, Each, Err, IfErr, Image, Keeping, KeepsDisks, KeepsNode, Laptop, List, Machine, Medium}
use Rattle.iot_world.proofs.Common.{Node, None, Ok, OnOk, Opens, Option, Post, PostStands, Refines, Result, SameArms, ServerBegins, Some}
use Rattle.iot_world.proofs.Common.{StandsAnyhow, StandsFor, StandsIn, State, Storing, Up, World, ap, arith, counts_on, disk_in, disks_of}
use Rattle.iot_world.proofs.Common.{false, inl, inr, is_some, kept_text, length, length-append, length-map, lists, map, map-append}
use Rattle.iot_world.proofs.Common.{names_in, next, on_both, or_parts, other_of, paired, placed, queue_are, refl, same_Some, seating}
use Rattle.iot_world.proofs.Common.{subst, sym, true, with_clients, with_ends, with_first, ℕ, [], ◌++◌, ◌+◌, ◌||◌, ◌∙◌, ◌∷◌, ◌≡◌, ◌⊎◌}
use Rattle.iot_world.proofs.{ListLaws.each_length, PlacesLaws.ends_as, PlacesLaws.has_places, PlacesLaws.promoted_at}
use Rattle.iot_world.{proofs.PlacesLaws.promoted_is, proofs.PlacesLaws.server_list, proofs.WorldsLaws.same_length, specs.Disks.CountOn}
use Rattle.iot_world.specs.Holding.{DisksHold, Holds, HoldsServer, IsKept, IsListed, KeepsClient, running_kept, state_kept}
use Rattle.iot_machine.specs.Machine as machine
use Rattle.iot_machine.specs.Clients as clients

-- ---- where the spare disks are

first_before : {D : Type 0} (first : Option D) (disks rest : List D) → with_first first (disks ++ rest) ≡ with_first first disks ++ rest
first_before None disks rest = refl
first_before (Some disk) disks rest = refl

pub clients_before : {D : Type 0} (laptops : List (Laptop D)) (rest : List D) → with_clients laptops rest ≡ with_clients laptops [] ++ rest
clients_before [] rest = refl
clients_before (laptop ∷ laptops) rest =
    ap (with_first (disk_in laptop)) (clients_before laptops rest) ∙ first_before (disk_in laptop) (with_clients laptops []) rest

-- ---- what a client keeps

run_are : (running : List Transaction) (ms : List clients.Running) → RunKept running ms → running ≡ map running_kept ms
run_are [] [] all = refl
run_are (one ∷ running) (m ∷ ms) all =
    let it = all.0 in
    let rest = run_are running ms all.1 in
    λ i. record { number = it.number i; script = it.name i; option = it.option i; base = it.base i; acts = it.acts i } ∷ rest i
run_are running ms all = absurd all

-- what is kept, said plainly
pub state_is : (s : State) (m : ClientState) → StateKept s m → s ≡ state_kept m
state_is s m it = λ i. record {
  held = it.held i;
  items = queue_are s.items s.held m it.held it.items i;
  running = run_are s.running m.running it.running i;
  last = it.last i;
  access = it.access i;
}

-- ---- any node

-- if nothing is in doubt, its images hold what is durable; else that, or what is in doubt
settled : {A S : Type 0} {T : S → Type 0} → A ⊎ ((after : S) × (None ≡ Some after) × T after) → A
settled (inl it) = it
settled (inr it) = absurd cc

in_doubt : {A S : Type 0} {T : S → Type 0} {after : S} → A ⊎ ((other : S) × (Some after ≡ Some other) × T other) → A ⊎ T after
in_doubt (inl it) = inl it
in_doubt {T} {after} (inr it) = inr (subst T (sym (same_Some after it.0 it.1)) it.2)

holds : {S : Type 0} (Is : S → List ℕ → Type 0) (images : List ℕ → Type 0) (s : S) (doubt : Option S)
    → ((image : List ℕ) → images image → Is s image ⊎ ((after : S) × (doubt ≡ Some after) × Is after image)) → Holds Is images s doubt
holds Is images s None each = λ image left. settled (each image left)
holds Is images s (Some after) each = λ image left. in_doubt (each image left)

-- it has counted what its disk has
counted : {K S D I : Type 0} {disks : K → D} (keeping : Keeping K S D I disks) (medium : Storing D I) (says : S → S → List ℕ)
    (post : Post K D) (node : Node S) → PostStands keeping medium says post node → CountsOn medium (disk_of disks post) node.counts
counted keeping medium says (Up keeper) node here = ap (λ (c : Counts). Some c) here.counts
counted keeping medium says (Down fallen) node here = ap (λ (c : Counts). Some c) here.counts
counted keeping medium says Between node here = absurd here

-- an image that is a list of so many is that list
is_listed : {commits : List Commit} {image : List ℕ} {count : ℕ} → IsImage image count commits → IsListed commits image
is_listed is = record { stands = is.stands; list = is.list; many = is.many ∙ is.counted; counted = refl }

is_kept : (m : ClientState) (image : List ℕ) (count : ℕ) → IsClientImage image count m → IsKept m image
is_kept m image count is = subst (λ (s : State). StandFor image s) (state_is is.state m is.kept) is.stands.stands

module _ {D : Type 0} (medium : Medium D) where
  -- ---- a client

  -- the images of its disk are what it keeps, or what is in doubt
  client_holds : (scripts : List Declared) (laptop : Laptop D) (m : machine.Client) → ClientStands medium scripts laptop m
      → (disk : D) × (disk_in laptop ≡ Some disk) × KeepsClient medium disk m × (counts_on medium disk ≡ m.node.counts)
  client_holds scripts laptop m here =
      let stands = here.node in
      let seats = seating medium laptop.place in
      let it =
      lasts_in seats medium no_text (λ seated n m here. seat_images medium laptop.place n seated m here) laptop.post m.node stands in (
        it.disk,
        it.has,
        holds IsKept (medium.may_leave it.disk) m.node.durable m.node.doubt (λ image left. elim (it.each.each image left) [
          | inl one ↦ inl (is_kept m.node.durable image it.count one)
          | inr one ↦ inr (one.0, one.1, is_kept one.0 image (next it.count) one.2)
        ]),
        same_Some _ _ (rw it.has at (counted seats medium no_text laptop.post m.node stands)),
      )

  -- ---- after a step

  -- after a step that may have armed it the laptop has it, and if memory ran out it is as it was
  pub armed_keeps : {T E A : Type 0} (call : Call machine.Client A) (x y : List ℕ) (a : A) (r : Result T E) (old new : Laptop D)
      → StandsAnyhow medium old → IfErr r (λ _. new ≡ old)
      → OnOk r ((scripts : List Declared) → Refines (ClientStands medium scripts) call old new x y a) → KeepsNode medium true r old new
  armed_keeps call x y a (Ok done) old new some same one = λ had.
      let s = (one some.scripts).step some.machine some.stands in
      ap is_some (keeps_any medium new (record { scripts = some.scripts; machine = s.1; stands = s.4 })).new_has
  armed_keeps call x y a (Err fault) old new some same one = rw same (keeps_any medium old some)

  -- ---- the server

  counts_placed : (promoted : Bool) (first last : D) → counts_on (on_both medium) (placed promoted first last)
      ≡ paired (counts_on medium (own_of promoted first last)) (counts_on medium (other_of promoted first last))
  counts_placed false first last = refl
  counts_placed true first last = refl

  module _ (is_image : (disk : D) → medium.may_leave disk (medium.reads disk)) (count : ℕ) (node : Node (List Commit)) where
    -- an image has the list, or is in the midst of the commit in doubt
    abbrev Either : Option (List Commit) → Image → Type 0
    Either doubt = HoldsEither (lists medium) (on_both medium) count node.durable doubt

    -- of two, if the first has a commit more, the second has it, too, or lacks it
    hold_server : (promoted : Bool) (first last : D) (doubt : Option (List Commit))
        → ((image : Image) → MayLeave medium (placed promoted first last) image → Either doubt image)
        → HoldsServer promoted (medium.may_leave first) (medium.may_leave last) node.durable doubt
    hold_server false first last None each = (
      λ one left. is_listed (settled (each (pair_of one (medium.reads last)) (record { disk = left; backup = is_image last }))).disk,
      λ other left.
          is_listed (settled (each (pair_of (medium.reads first) other) (record { disk = is_image first; backup = left }))).backup,
    )
    hold_server false first last (Some after) each =
        λ one other there here. elim (in_doubt (each (pair_of one other) (record { disk = there; backup = here }))) [
          | inl are ↦ inl (is_listed are.disk, is_listed are.backup)
          | inr it ↦ inr (record {
            first = is_listed it.disk;
            second = elim it.backup [
              | inl lacks ↦ inr (subst (λ (n : ℕ). LacksCommit one other n node.durable after) lacks.image.counted lacks)
              | inr has ↦ inl (is_listed has)
            ];
          })
        ]
    hold_server true first last doubt each =
        holds IsListed (medium.may_leave last) node.durable doubt (λ one left.
        elim (each (lone one) (record { disk = left; backup = tt })) [
          | inl are ↦ inl (is_listed are.disk)
          | inr it ↦ inr (it.0, it.1, is_listed it.2.disk)
        ])

  -- ---- all of them

  -- the clients' disks, with what they have counted
  clients_hold : (scripts : List Declared) (commits : List Commit) (laptops : List (Laptop D)) (ms : List machine.Client)
      → Each (StandsIn medium scripts commits) laptops ms → Each (KeepsClient medium) (with_clients laptops []) ms
      × (map (counts_on medium) (with_clients laptops []) ≡ map (λ (k : machine.Client). k.node.counts) ms)
  clients_hold scripts commits [] [] all = (tt, refl)
  clients_hold scripts commits (laptop ∷ laptops) (m ∷ ms) all =
      let one = client_holds scripts laptop m all.0.client in
      let rest = clients_hold scripts commits laptops ms all.1 in rw one.1 ((one.2, rest.0), λ i. one.3 i ∷ rest.1 i)
  clients_hold scripts commits laptops ms all = absurd all

  module _ (world : World D) (m : Machine) (here : StandsFor medium world m) where
    -- the server's two
    abbrev pub placed_in : ArePlaced medium (server_disks world.server) m.promoted m.beside
    placed_in = are_placed medium (server_disks world.server) m.promoted m.beside here.beside.is

    abbrev theirs : List D
    theirs = with_clients world.clients.items []

    -- between them those of the clients come before the spare ones
    pub used_first : disks_of world ≡ with_ends placed_in.first placed_in.last (theirs ++ world.spare.items)
    used_first =
        server_list medium world.server _ _ _ placed_in.has (with_clients world.clients.items world.spare.items)
        ∙ ap (λ (ds : List D). with_ends placed_in.first placed_in.last ds) (clients_before world.clients.items world.spare.items)

    -- those that no client has
    pub eight_spare : length world.spare.items + length m.clients ≡ 8
    eight_spare = omega (arith, same_length medium world m here, here.eight)

    pub eight_counts : length m.clients + length m.spare ≡ 8
    eight_counts = omega (arith, eight_spare, ap length here.counts, length-map world.spare.items (counts_on medium))

    pub held : Each (KeepsClient medium) theirs m.clients
        × (map (counts_on medium) theirs ≡ map (λ (k : machine.Client). k.node.counts) m.clients)
    held = clients_hold m.scripts m.server.durable world.clients.items m.clients here.clients_

    -- they have counted what the machine's disks have
    pub disks_count : CountOn medium m placed_in.first placed_in.last (theirs ++ world.spare.items)
    disks_count =
        let own = counted (lists medium) (on_both medium) (kept_text (names_in m)) world.server.post m.server here.server.post in
        let both = sym (same_Some _ _ (rw placed_in.has at own)) ∙ counts_placed m.promoted placed_in.first placed_in.last in
        record {
          server = record { both = both; beside = sym placed_in.beside };
          between = map-append (counts_on medium) theirs world.spare.items ∙ (λ i. held.1 i ++ here.counts i);
        }

    module _ (is_image : (disk : D) → medium.may_leave disk (medium.reads disk)) where
      -- each image of the server's begins with the machine's list
      pub world_begins : ServerBegins medium m.promoted m.server.durable placed_in.first placed_in.last
      world_begins =
          begins_there medium is_image m.server.durable world.server (has_places medium world.server m.promoted m.beside placed_in)
          (stands_go_on medium (names_in m) world.server m.server m.requests here.server)

      -- and has it
      pub server_held : HoldsServer m.promoted (medium.may_leave placed_in.first) (medium.may_leave placed_in.last) m.server.durable
          m.server.doubt
      server_held =
          let it = lasts medium (names_in m) world.server m.server m.requests here.server in
          let same : it.disk ≡ placed m.promoted placed_in.first placed_in.last = same_Some _ _ (sym it.has ∙ placed_in.has) in
          hold_server is_image it.count m.server m.promoted placed_in.first placed_in.last m.server.doubt
          (λ image left. it.each.each _ (rw same left))

      -- each disk holds what its node keeps, and those that no client has are as they were handed in
      abbrev pub disks_hold : {disks : List D} {before : World D} {x y : List ℕ} → Opens medium disks x y before → KeepsDisks before world
          → DisksHold medium disks (disks_of world) m
      disks_hold opens same = record {
        first = placed_in.first;
        clients = theirs;
        spare = world.spare.items;
        last = placed_in.last;
        is = used_first;
        list = server_held;
        longer = here.server.known.longer;
        each = held.0;
        first_handed = opens.first;
        front = same.taken;
        last_handed = opens.last;
        was = opens.were ∙ ap (λ (ds : List D). with_ends opens.first opens.last ds) same.spare;
        aligned =
            let many = each_length (KeepsClient medium) theirs m.clients held.0 in
            let long = length-append same.taken world.spare.items in
            let own = same_length medium world m here in
            omega (arith, here.eight, opens.stands.stands.eight, opens.no_clients, ap length same.spare);
      }

-- ---- if memory ran out in an event, which may have given the first disk up

-- at whatever ends its disks have
pub still_begins_at : {D : Type 0} (medium : Medium D) → ((disk : D) → medium.may_leave disk (medium.reads disk)) → (old new : World D)
    (m : Machine) (joins : ℕ) (turns : Bool) → StandsFor medium old m → SameArms medium joins turns old new
    → (first last : D) (others : List D) → disks_of new ≡ with_ends first last others
    → ServerBegins medium (m.promoted || turns) m.server.durable first last
still_begins_at {D} medium is_image old new m joins turns here arms first last others is =
    let between = with_clients new.clients.items new.spare.items in
    let begins = begins_there medium is_image m.server.durable new.server arms.places
    (arms.commits.keeps (names_in m) m.server m.requests here.server) in
    ends_as (λ (one other : D) (xs : List D). ServerBegins medium (m.promoted || turns) m.server.durable one other)
    arms.places.first arms.places.last first last between others
    (sym (server_list medium new.server _ _ _ arms.places.has between) ∙ is) (record {
      of_last = begins.of_last;
      of_first = λ none.
          let both = or_parts m.promoted turns none in
          begins.of_first
          (sym (promoted_at medium new.server arms.places)
          ∙ arms.stays both.1 ∙ promoted_is medium old.server m.promoted m.beside here.beside ∙ both.0);
    })
