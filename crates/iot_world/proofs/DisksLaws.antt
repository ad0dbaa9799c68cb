-- The disks of a world, from one call to the next.
use Rattle.{std.proofs.Common.OnOk, iot_machine.proofs.FollowsLaws.all_set}
use Rattle.iot_world.proofs.Common.{AllByRecursion, Bool, Call, Each, Err, Global, HasPlaces, IfErr}
use Rattle.iot_world.proofs.Common.{IsWorldOfSome, KeepsBeside, KeepsCommits, KeepsDisk, KeepsDisks, KeepsNode, Laptop, LaptopHasDisk}
use Rattle.iot_world.proofs.Common.{LeavesDisks, List, Machine, MakesStep, Medium, None, Ok, Option, Result, SameArms, ServerNode}
use Rattle.iot_world.proofs.Common.{Some, Vec, World, ap, arith, commits_same, disk_in, disk_of, disks_of, false, inl, is_promoted, is_some}
use Rattle.iot_world.proofs.Common.{length, length-append, length-set, on_both, placed_in, refl, same_Some, slice_get, slice_index_or}
use Rattle.iot_world.proofs.Common.{slice_set, suc, sym, true, with_clients, with_first, zero, ℕ, [], ◌++◌, ◌+◌, ◌<◌, ◌∙◌, ◌∷◌, ◌≡◌, ◌≤◌}
use Rattle.iot_world.proofs.ListLaws.{all_split, looked_up}
use Rattle.iot_world.proofs.PlacesLaws.{ServerFollows, beside_places, kept_server, promoted_is, same_server, server_list}
use Rattle.iot_world.specs.{Disks.HasEnds, Disks.IsUnarmed, World.UnlessArmed}

-- what is so of any answer is so unless a disk was armed
unless_armed : {T E : Type 0} (arms : Bool) (r : Result T E) (P : Type 0) → P → UnlessArmed arms r P
unless_armed true (Ok done) P p = tt
unless_armed arms r P p = p

-- one more client at the end is its disk before the spare ones
pub pushed_with : {D : Type 0} (laptops : List (Laptop D)) (laptop : Laptop D) (spare : List D)
    → with_clients (laptops ++ laptop ∷ []) spare ≡ with_clients laptops (with_first (disk_in laptop) spare)
pushed_with [] laptop spare = refl
pushed_with (l ∷ ls) laptop spare = ap (with_first (disk_in l)) (pushed_with ls laptop spare)

module _ {D : Type 0} (medium : Medium D) where
  -- ---- those between the server's two, of which none was armed

  pub unarmed_same : (disks : List D) → Each (IsUnarmed medium) disks disks
  unarmed_same [] = tt
  unarmed_same (disk ∷ disks) = (record { arms = refl; faults = inl refl }, unarmed_same disks)

  -- with the same disk before them, or with that which a node had and kept
  first_same : (one : Option D) (xs ys : List D) → Each (IsUnarmed medium) xs ys
      → Each (IsUnarmed medium) (with_first one xs) (with_first one ys)
  first_same None xs ys all = all
  first_same (Some disk) xs ys all = (record { arms = refl; faults = inl refl }, all)

  pub first_kept : (old new : Option D) (xs ys : List D) → KeepsDisk medium old new → Each (IsUnarmed medium) xs ys
      → Each (IsUnarmed medium) (with_first old xs) (with_first new ys)
  first_kept old new xs ys keeps all = rw (keeps.old_has, keeps.new_has) (record { arms = keeps.arms; faults = keeps.faults }, all)

  -- behind the same clients, or with another one at a place
  pub clients_same : (laptops : List (Laptop D)) (xs ys : List D) → Each (IsUnarmed medium) xs ys
      → Each (IsUnarmed medium) (with_clients laptops xs) (with_clients laptops ys)
  clients_same [] xs ys all = all
  clients_same (l ∷ ls) xs ys all = first_same (disk_in l) _ _ (clients_same ls xs ys all)

  clients_put : (laptops : List (Laptop D)) (c : ℕ) (was now : Laptop D) (spare : List D) → slice_get laptops c ≡ Some was
      → KeepsDisk medium (disk_in was) (disk_in now)
      → Each (IsUnarmed medium) (with_clients laptops spare) (with_clients (slice_set laptops c now) spare)
  clients_put [] c was now spare get keeps = absurd cc
  clients_put (l ∷ ls) zero was now spare get keeps =
      first_kept (disk_in l) (disk_in now) _ _ (rw (same_Some l was get) keeps) (unarmed_same (with_clients ls spare))
  clients_put (l ∷ ls) (suc c) was now spare get keeps = first_same (disk_in l) _ _ (clients_put ls c was now spare get keeps)

  -- ---- all of them

  -- the server has its disks where they were, they have lost no commit, and its backup was not promoted, unless it may have been
  pub record ServerKeeps (turns : Bool) (old new : ServerNode D) : Type 0 where
    pub follows : ServerFollows medium old new
    pub commits : KeepsCommits medium old new
    pub stays : turns ≡ false → is_promoted new ≡ is_promoted old

  abbrev pub ends : (world : World D) → HasPlaces world.server → HasEnds (disks_of world)
  ends world it = record {
    first = it.first;
    last = it.last;
    others = with_clients world.clients.items world.spare.items;
    is = server_list medium world.server _ _ _ it.has (with_clients world.clients.items world.spare.items);
  }

  -- so it is of a world with these, and with the disks between them
  pub arms_with : {joins : ℕ} {turns : Bool} (old new : World D) → ServerKeeps turns old.server new.server
      → Each (IsUnarmed medium) (with_clients old.clients.items old.spare.items) (with_clients new.clients.items new.spare.items)
      → length old.spare.items ≤ length new.spare.items + joins → SameArms medium joins turns old new
  arms_with old new keeps between few = record {
    each = record {
      was = ends old keeps.follows.was;
      now = ends new keeps.follows.now;
      server = keeps.follows.unarmed;
      each = between;
    };
    spare = few;
    places = keeps.follows.now;
    commits = keeps.commits;
    stays = keeps.stays;
  }

  module _ (old : World D) (some : IsWorldOfSome medium old) where
    -- the server was asked something that promotes nothing
    pub server_keeps : {turns : Bool} (server : ServerNode D) → KeepsBeside medium old.server server
        → KeepsDisk (on_both medium) (disk_of old.server) (disk_of server) → KeepsCommits medium old.server server
        → ServerKeeps turns old.server server
    server_keeps server kept keeps commits =
        let beside = some.stands.stands.beside in
        let still = kept _ _ beside in
        record {
          follows = kept_server medium old.server server _ _ (placed_in medium _ _ _ beside.is) still keeps;
          commits = commits;
          stays = λ no. promoted_is medium _ _ _ still ∙ sym (promoted_is medium _ _ _ beside);
        }

    -- or nothing
    pub server_same : {turns : Bool} → ServerKeeps turns old.server old.server
    server_same = record {
      follows = same_server medium old.server (beside_places medium _ _ _ some.stands.stands.beside);
      commits = commits_same medium old.server old.server refl;
      stays = λ no. refl;
    }

  -- ---- what an event leaves

  -- no disk was spare that is not any more, and each client still has its disk
  module _ (old new : World D) (spare : new.spare ≡ old.spare)
      (many : length new.clients.items ≡ length old.clients.items)
      (have : AllByRecursion LaptopHasDisk old.clients.items → AllByRecursion LaptopHasDisk new.clients.items) where
    has_still : HasPlaces new.server → KeepsDisks old new
    has_still there = record {
      has = λ had. record { server = there; clients = have had.clients; room = rw (many, spare) had.room };
      taken = [];
      spare = rw spare refl;
    }

    leaves : {T E : Type 0} {arms turns : Bool} {joins : ℕ} (r : Result T E) → ServerKeeps turns old.server new.server
        → Each (IsUnarmed medium) (with_clients old.clients.items old.spare.items) (with_clients new.clients.items old.spare.items)
        → LeavesDisks medium arms joins turns r old new
    leaves {arms = arms} r keeps between = record {
      kept = has_still keeps.follows.now;
      same = unless_armed arms r _ (arms_with old new keeps (rw spare between) (rw spare (omega arith)));
    }

  -- another client stands at a place, and the server promoted nothing
  module _ (old : World D) (server : ServerNode D) (clients : Vec (Laptop D) Global) (c : ℕ) (was now : Laptop D)
      (inside : c < length old.clients.items) (value : was ≡ slice_index_or old.clients.items c was)
      (put : clients.items ≡ slice_set old.clients.items c now) (keeps : ServerKeeps false old.server server) where
    abbrev other : World D
    other = record old { server = server; clients = clients }

    many : length clients.items ≡ length old.clients.items
    many = ap length put ∙ length-set old.clients.items c now

    have : (LaptopHasDisk was → LaptopHasDisk now) → AllByRecursion LaptopHasDisk old.clients.items
        → AllByRecursion LaptopHasDisk clients.items
    have then_ had = rw put (all_set LaptopHasDisk old.clients.items c now was (λ had. then_ (rw value had)) had)

    pub client_leaves : {T E : Type 0} (arms : Bool) (r : Result T E) → KeepsNode medium arms r was now
        → LeavesDisks medium arms 0 false r old other
    client_leaves true (Ok done) then_ = record { kept = has_still old other refl many (have then_) keeps.follows.now; same = tt }
    client_leaves arms r kept =
        leaves old other refl many (have (λ had. ap is_some kept.new_has)) r keeps
        (rw put (clients_put old.clients.items c was now old.spare.items (looked_up _ _ _ _ refl inside value) kept))

  -- only the server has changed
  module _ (old : World D) (server : ServerNode D) where
    pub server_leaves : {T E : Type 0} {arms turns : Bool} {joins : ℕ} (r : Result T E) → ServerKeeps turns old.server server
        → LeavesDisks medium arms joins turns r old (record old { server = server })
    server_leaves r keeps = leaves old _ refl refl (λ had. had) r keeps (unarmed_same _)

    -- it has armed a disk, unless there was a fault
    pub armed_leaves : {T E A : Type 0} (r : Result T E) (call : Call Machine A) (x y : List ℕ) (a : A) → IsWorldOfSome medium old
        → OnOk r (MakesStep medium call old (record old { server = server }) x y a) → IfErr r (λ _. server ≡ old.server)
        → LeavesDisks medium true 0 false r old (record old { server = server })
    armed_leaves (Ok done) call x y a some step same =
        let it = step.step some.machine some.stands.stands in
        record { kept = has_still old _ refl refl (λ had. had) (beside_places medium _ _ _ it.4.beside); same = tt }
    armed_leaves (Err fault) call x y a some step same = server_leaves (Err fault) (rw same (server_same old some))

  -- nothing was done to a node
  pub nothing_leaves : {T E : Type 0} {arms turns : Bool} {joins : ℕ} (r : Result T E) (old new : World D) → IsWorldOfSome medium old
      → new.server ≡ old.server → new.clients.items ≡ old.clients.items → new.spare ≡ old.spare
      → LeavesDisks medium arms joins turns r old new
  nothing_leaves r old new some server clients spare =
      leaves old new spare (ap length clients) (λ had. rw clients had) r (rw server (server_same old some)) (rw clients (unarmed_same _))

-- ---- the disks that a world gives back

-- the disks of these clients, in front of others, are still those of all, and there is room for them
pub record AreLeft {D : Type 0} (first laptops : List (Laptop D)) (before disks : List D) (len capacity : ℕ) : Type 0 where
  pub same : with_clients laptops disks ≡ with_clients first before
  pub has : AllByRecursion LaptopHasDisk laptops
  pub room : length laptops + len + 2 ≤ capacity

-- the last one has a disk
pub last_has : {D : Type 0} (laptops : List (Laptop D)) (laptop : Laptop D) (all : List (Laptop D))
    → all ≡ laptops ++ laptop ∷ [] → AllByRecursion LaptopHasDisk all → LaptopHasDisk laptop
last_has laptops laptop all split has = (all_split LaptopHasDisk laptops laptop (rw split at has)).1

-- it was put before the others
pub left_one : {D : Type 0} (first all laptops : List (Laptop D)) (laptop : Laptop D) (before disks new : List D) (disk : D)
    (len len' capacity capacity' : ℕ) → AreLeft first all before disks len capacity → all ≡ laptops ++ laptop ∷ []
    → disk_in laptop ≡ Some disk → new ≡ disk ∷ disks → len' ≡ len + 1 → capacity' ≡ capacity
    → AreLeft first laptops before new len' capacity'
left_one first all laptops laptop before disks new disk len len' capacity capacity' left split has put more same = record {
  same = rw put (sym (rw has at (pushed_with laptops laptop disks)) ∙ rw split at left.same);
  has = (all_split LaptopHasDisk laptops laptop (rw split at left.has)).0;
  room = omega (arith, left.room, more, same, ap length split, length-append laptops (laptop ∷ []));
}
