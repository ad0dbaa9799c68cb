-- The first disk and the last: lists that have both, and the places of the server's two.
use Rattle.std.{proofs.Math.Nat.add_comm, proofs.lemmas.List.same_from_push, specs.Option.option_map}
use Rattle.iot_server_node.{proofs.BackupLaws.ArePlaced, specs.Disks.sides_of, specs.Disks.turned, specs.Keepers.disks_in}
use Rattle.iot_server_node.specs.Servers.{TurnsToBackup, given_up_in, turned_post}
use Rattle.iot_world.proofs.Common.{Arms, Bool, Disks, Down, HasPlaces}
use Rattle.iot_world.proofs.Common.{IsBeside, KeepsDisk, List, Medium, Option, Post, ServerKeeper, ServerNode, Some, ap, arith, disk_of}
use Rattle.iot_world.proofs.Common.{drop, false, inl, inr, is_promoted, is_up, length, length-append, on_both, other_of, placed, placed_in}
use Rattle.iot_world.proofs.Common.{refl, same_Some, slice_index_or, subst, sym, true, with_ends, with_server, [], ◌+◌, ◌∙◌, ◌∷◌, ◌≡◌, ◌⊎◌}
use Rattle.iot_world.specs.Disks.{AreTwoUnarmed, SameOrRose}
use Rattle.iot_node.specs.Posts as posts

-- ---- lists with a first element and a last one

-- a list has them in one way
pub ends_as : {A : Type 0} (P : A → A → List A → Type 0) (first last other_first other_last : A) (xs ys : List A)
    → with_ends first last xs ≡ with_ends other_first other_last ys → P first last xs → P other_first other_last ys
ends_as {A} P first last other_first other_last xs ys is p =
    let start : first ≡ other_first = ap (λ (zs : List A). slice_index_or zs 0 first) is in
    let rest = same_from_push xs ys last other_last (ap (drop 1) is) in
    subst (λ (t : A × A × List A). P t.0 t.1 t.2) (λ i. (start i, rest.1 i, rest.0 i)) p

pub ends_length : {A : Type 0} (first last : A) (xs : List A) → length (with_ends first last xs) ≡ length xs + 2
ends_length first last xs = omega (arith, length-append xs (last ∷ []))

module _ {D : Type 0} (medium : Medium D) where
  -- ---- the places of the server's two disks

  abbrev pub has_places : (server : ServerNode D) (promoted : Bool) (arms : Arms) → ArePlaced medium (disk_of server) promoted arms
      → HasPlaces server
  has_places server promoted arms it = record { promoted = promoted; first = it.first; last = it.last; has = it.has }

  abbrev pub beside_places : (server : ServerNode D) (promoted : Bool) (arms : Arms) → IsBeside medium server promoted arms
      → HasPlaces server
  beside_places server promoted arms it = has_places server promoted arms (placed_in medium _ _ _ it.is)

  promoted_by : (promoted : Bool) (first last : D) → given_up_in (Some (placed promoted first last)) ≡ promoted
  promoted_by false first last = refl
  promoted_by true first last = refl

  pub promoted_at : (server : ServerNode D) (it : HasPlaces server) → is_promoted server ≡ it.promoted
  promoted_at server it = ap given_up_in it.has ∙ promoted_by it.promoted it.first it.last

  pub promoted_is : (server : ServerNode D) (promoted : Bool) (arms : Arms) → IsBeside medium server promoted arms
      → is_promoted server ≡ promoted
  promoted_is server promoted arms it = promoted_at server (beside_places server promoted arms it)

  -- ---- the server's disks among the others

  list_placed : (promoted : Bool) (first last : D) (xs : List D)
      → with_server (Some (placed promoted first last)) xs ≡ with_ends first last xs
  list_placed false first last xs = refl
  list_placed true first last xs = refl

  pub server_list : (server : ServerNode D) (promoted : Bool) (first last : D) → disk_of server ≡ Some (placed promoted first last)
      → (xs : List D) → with_server (disk_of server) xs ≡ with_ends first last xs
  server_list server promoted first last has xs = ap (λ (o : Option (Disks D)). with_server o xs) has ∙ list_placed promoted first last xs

  -- ---- from one call to the next

  -- the server's two disks before and after calls in which neither was armed
  pub record ServerFollows (old new : ServerNode D) : Type 0 where
    pub was : HasPlaces old
    pub now : HasPlaces new
    pub unarmed : AreTwoUnarmed medium was.first was.last now.first now.last

  pub two_unarmed : (promoted : Bool) (first last new_first new_last : D)
      → medium.arms (placed promoted new_first new_last).disk ≡ medium.arms (placed promoted first last).disk
      → medium.arms (other_of promoted new_first new_last) ≡ medium.arms (other_of promoted first last)
      → SameOrRose ((on_both medium).faults (placed promoted first last)) ((on_both medium).faults (placed promoted new_first new_last))
      → AreTwoUnarmed medium first last new_first new_last
  two_unarmed false first last new_first new_last own other faults = record { first_arms = own; last_arms = other; faults = faults }
  two_unarmed true first last new_first new_last own other faults = record {
    first_arms = other;
    last_arms = own;
    faults = rw (add_comm (medium.faults last), add_comm (medium.faults new_last)) at faults;
  }

  -- those that a node had, kept by a call
  abbrev pub kept_server : (old new : ServerNode D) (promoted : Bool) (arms : Arms) → ArePlaced medium (disk_of old) promoted arms
      → IsBeside medium new promoted arms → KeepsDisk (on_both medium) (disk_of old) (disk_of new) → ServerFollows old new
  kept_server old new promoted arms had beside keeps =
      let has = placed_in medium (disk_of new) promoted arms beside.is in
      let was : keeps.was ≡ placed promoted had.first had.last = same_Some _ _ (sym keeps.old_has ∙ had.has) in
      let now : keeps.now ≡ placed promoted has.first has.last = same_Some _ _ (sym keeps.new_has ∙ has.has) in
      record {
        was = has_places old promoted arms had;
        now = has_places new promoted arms has;
        unarmed =
            two_unarmed promoted had.first had.last has.first has.last (rw (was, now) at keeps.arms) (has.beside ∙ sym had.beside)
            (rw (was, now) at keeps.faults);
      }

  -- nothing was done to it
  abbrev pub same_server : (server : ServerNode D) → HasPlaces server → ServerFollows server server
  same_server server had = record { was = had; now = had; unarmed = record { first_arms = refl; last_arms = refl; faults = inl refl } }

  -- ---- a promotion

  turned_has : (post : Post (ServerKeeper D) (Disks D)) (first last : D) → posts.is_on post ≡ false
      → posts.disk_of disks_in post ≡ Some (placed false first last)
      → posts.disk_of disks_in (turned_post post) ≡ Some (placed true first last)
  turned_has (Down fallen) first last down has = ap (option_map turned) has
  turned_has post first last down has = absurd cc

  -- it has the last disk then, and the first is the other one
  turned_server : (old new : ServerNode D) (arms : Arms) → IsBeside medium old false arms → is_up old ≡ false
      → TurnsToBackup medium old new → ServerFollows old new
  turned_server old new arms here down turns =
      let one = placed_in medium (disk_of old) false arms here.is in
      let had = turned_has old.post one.first one.last down one.has in
      let follows = kept_server (record { post = turned_post old.post }) new true (medium.arms one.first)
      (record { first = one.first; last = one.last; has = had; beside = refl })
      (record { is = turns.beside ∙ ap (option_map (sides_of medium)) had }) turns.disks in
      record { was = has_places old false arms one; now = follows.now; unarmed = follows.unarmed }

  -- whether it turns to its backup, or stays as it was
  pub promoted_follows : (old new : ServerNode D) (promoted : Bool) (arms : Arms) → IsBeside medium old promoted arms
      → ((is_up old ≡ true) ⊎ (is_promoted old ≡ true) → new ≡ old)
      → (is_up old ≡ false → is_promoted old ≡ false → TurnsToBackup medium old new) → ServerFollows old new
  promoted_follows old new promoted arms here stays turns = by (is_up old) (is_promoted old) refl refl
    where
      as_it_was : new ≡ old → ServerFollows old new
      as_it_was same = rw same (same_server old (beside_places old promoted arms here))

      by : (up again : Bool) → is_up old ≡ up → is_promoted old ≡ again → ServerFollows old new
      by true again up is = as_it_was (stays (inl up))
      by false true up is = as_it_was (stays (inr is))
      by false false up is = turned_server old new arms (rw (sym (promoted_is old promoted arms here) ∙ is) at here) up (turns up is)
