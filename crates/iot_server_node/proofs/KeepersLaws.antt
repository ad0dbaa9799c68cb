-- A server keeps the list of commits on its disk, a checkpoint of the first ones and a record for each of the others, as a keeper is to.
use Rattle.std.proofs.{Common.Ok, lemmas.List.length-map}
use Rattle.{iot_durable.specs.Standing.EachGoes, iot_durable.specs.Standing.MakesOf, iot_judging.proofs.ImagesLaws.Cut}
use Rattle.iot_judging.{proofs.ImagesLaws.image_is, proofs.ImagesLaws.never_before, proofs.ImagesLaws.one_cut, specs.Records.EncodesList}
use Rattle.iot_server_node.proofs.Common.{AreImages, AreOf, AreSo, Both, CanStart, Changes, Commit, Cuts, EachIs, EachStarts}
use Rattle.iot_server_node.proofs.Common.{EachStays, Encoded, Err, If, Image, IsEither, IsImage, KeepsList, List, MayFollow, MayLeave}
use Rattle.iot_server_node.proofs.Common.{Medium, None, Option, Result, ServerKeeper, Slots, Some, StandFor, State, add_commit, ap}
use Rattle.iot_server_node.proofs.Common.{arith, decoded, disk_on, disks_in, if_so, images_of, inl, inr, label_of, length, length-append}
use Rattle.iot_server_node.proofs.Common.{lists, next, on_both, option_map, reads_may_leave, renewed_list, rules, second_stays}
use Rattle.iot_server_node.proofs.Common.{state_of, state_on, store_counted, store_stays, sym, tree_after, ℕ, [], ◌∙◌, ◌∷◌, ◌≡◌}
use Rattle.iot_server_node.{proofs.PairsLaws.server_so, specs.Keepers.Each, specs.Prelude.IfOk}
use Rattle.iot_store.proofs.PartsLaws.{changes_from, changes_map, if_both}
use Rattle.iot_store.proofs.StandingLaws.{second_counted, store_decoded}
use Rattle.iot_server.specs.Servers as servers
use Rattle.iot_slots.specs.Slots as slots

-- bytes from which a server can be started stand for the state of some list
pub stands_for : {D : Type 0} (medium : Medium D) (image : Image) → CanStart (lists medium) image
    → (commits : List Commit) × StandFor image.disk (state_of commits)
stands_for medium image can = elim can.either [
  | inl is ↦ (can.before, is.disk.stands)
  | inr is ↦ (can.after, is.disk.stands)
]

-- What has the state of a list, and whose disks are images of it, keeps it.
pub keeps_of : {D : Type 0} (medium : Medium D) (it : ServerKeeper D) (n : ℕ) (commits : List Commit) → servers.IsSynced medium it.server
    → servers.count_of it.server ≡ n → servers.state_of it.server ≡ state_of commits
    → AreImages ((on_both medium).reads (disks_in it)) n commits → KeepsList medium it n commits
keeps_of {D} medium it n commits synced many state are = record {
  synced = synced;
  lists = record {
    first = rw (store_decoded medium (servers.store_of it.server) synced) at are.disk.list;
    second = by (servers.second_of it.server) are.backup synced.disks.second synced.disks.header;
  };
  many = many;
  has_state = state;
  counted = are.disk.counted;
}
  where
    by : (second : Option (Slots D)) → If (λ j. IsImage j n commits) (option_map medium.reads (option_map disk_on second))
        → If (slots.IsSynced medium) second → If (λ s. slots.header_of s ≡ slots.header_of (servers.first_of it.server)) second
        → If (λ s. EncodesList (state_on medium s) commits) second
    by (Some s) is idle head =
        rw (ap (λ (h : List ℕ). decoded h (medium.reads (disk_on s))) (sym (head ∙ synced.header_is)) ∙ idle.encodes) at is.list
    by None is idle head = tt

-- ---- a commit that was cut off

-- each image of both has the list without it, or is in its midst
either_of : {D : Type 0} (medium : Medium D) (n : ℕ) (commits : List Commit) (commit : Commit) (image : Image)
    → AreSo (Cut n commits commit) (λ i j. MayFollow i j × Cut n commits commit j) image
    → IsEither (lists medium) image n commits (add_commit commit commits)
either_of medium n commits commit image it = elim it.disk [
  | inl one ↦ inl (record {
    disk = one;
    backup = if_so _ _ (λ j so. elim so.1 [
      | inl has ↦ has
      | inr more ↦ absurd (never_before n commits commit image.disk j one more.0 so.0)
    ]) image.backup it.backup;
  })
  | inr one ↦ inr (record {
    disk = one.0;
    backup = if_so _ _ (λ j so. elim so.1 [ inl has ↦ inl (one.1 j has so.0) | inr more ↦ inr more.0 ]) image.backup it.backup;
  })
]

-- ---- what a keeper has

module _ {D : Type 0} {medium : Medium D} {was now : ServerKeeper D} {R : Encoded → Encoded → Type 0} (both : Both medium R was now) where
  pub both_map : {Q : Encoded → Encoded → Type 0} → ((old new : Encoded) → R old new → Q old new) → Both medium Q was now
  both_map so = record {
    first = so _ _ both.first;
    second = changes_map _ _ (λ old new. so (state_on medium old) (state_on medium new)) (servers.second_of was.server)
        (servers.second_of now.server) both.second;
  }

  -- by what was so of each, and what became of that
  pub each_on : {P Q : Encoded → Type 0} → Each medium P was → ((old new : Encoded) → P old → R old new → Q new) → Each medium Q now
  each_on each so = record {
    first = so _ _ each.first both.first;
    second = changes_from _ _ _ (λ old new. so (state_on medium old) (state_on medium new)) (servers.second_of was.server)
        (servers.second_of now.server) each.second both.second;
  }

module _ {D : Type 0} {medium : Medium D} {it : ServerKeeper D} {n : ℕ} {commits : List Commit} (is : KeepsList medium it n commits) where
  -- as many labels as there are records
  pub as_many : length (servers.state_of it.server).labels ≡ n
  as_many = ap (λ (s : State). length s.labels) is.has_state ∙ length-map commits label_of ∙ sym is.counted

  -- and one commit more is counted
  pub one_counted : (commit : Commit) → next n ≡ length (add_commit commit commits)
  one_counted commit = omega (arith, as_many, is.synced.sound.few, length-append commits (commit ∷ []))

  -- each image of a disk that encodes the list has it if that stays
  keeps_by : {images : List ℕ → Type 0} (encoded : Encoded) → EncodesList encoded commits
      → EachStays images (servers.count_of it.server) encoded (servers.state_of it.server) → (bytes : List ℕ) → images bytes
      → IsImage bytes n commits
  keeps_by {images} encoded list stays bytes there =
      let e = stays.encodes bytes there in
      image_is bytes n commits e.1
      (renewed_list encoded e.0 commits (rw is.has_state at e.2) list)
      (record {
        stands = rw is.has_state at (stays.stands.each bytes there).stands;
        counted = (stays.stands.each bytes there).counted ∙ is.many;
      }) is.counted

  -- so has each image of its disks
  pub keeps_images : EachIs (MayLeave medium (disks_in it)) (λ image. AreImages image n commits)
  keeps_images =
      server_so medium it (λ i at. (
        keeps_by (servers.encoded_on medium it.server) is.lists.first (store_stays medium (servers.store_of it.server) is.synced) i at,
        if_both _ _ (λ s. (j : List ℕ) → images_of medium s j → IsImage j n commits)
            (λ s list stays. keeps_by (state_on medium s) list stays)
            (servers.second_of it.server) is.lists.second (second_stays medium (servers.store_of it.server) is.synced),
      ))

  -- it keeps the list if its disks have the same bytes, and it has the same state
  pub still_keeps : ((disk : D) → medium.may_leave disk (medium.reads disk)) → (now : ServerKeeper D) → servers.IsSynced medium now.server
      → (on_both medium).reads (disks_in now) ≡ (on_both medium).reads (disks_in it)
      → servers.state_of now.server ≡ servers.state_of it.server → servers.count_of now.server ≡ servers.count_of it.server
      → KeepsList medium now n commits
  still_keeps is_image now synced reads state count =
      keeps_of medium now n commits synced (count ∙ is.many) (state ∙ is.has_state)
      (rw reads (keeps_images.each _ (reads_may_leave medium is_image (disks_in it))))

  -- each image of a commit that was cut off has the list without it, or is in its midst
  module _ {asked : List ℕ} {commit : Commit} (now : ServerKeeper D) (cut : Cuts medium asked it now)
      (are : AreOf commit (tree_after commits) cut.label cut.access cut.lines) where
    cut_on : (was : Encoded) → was.count ≡ servers.count_of it.server → MakesOf rules was (servers.state_of it.server)
        → EncodesList was commits → {images : List ℕ → Type 0} → EachGoes rules images was (servers.state_of it.server)
        (record { label = cut.label; access = cut.access; lines = cut.lines })
        → (image : List ℕ) → images image → Cut n commits commit image
    cut_on was count makes list goes =
        one_cut commits are n (rw is.has_state at cut.follows) is.counted (one_counted commit) was (count ∙ is.many)
        (rw is.has_state at makes) list (rw is.has_state at goes)

    pub cut_images : If (λ s. EachStarts (medium.may_leave (servers.disk_of now.server)) (images_of medium s))
        (servers.second_of now.server)
        → EachIs (MayLeave medium (disks_in now)) (λ image. IsEither (lists medium) image n commits (add_commit commit commits))
    cut_images starts = record {
      each = λ image left.
          either_of medium n commits commit image
          ((server_so medium now (λ i at. (
            cut_on (servers.encoded_on medium it.server) (store_counted medium (servers.store_of it.server) is.synced) is.synced.makes
                is.lists.first cut.encodes i at,
            by (servers.second_of it.server) (servers.second_of now.server)
                (second_counted medium (servers.store_of it.server) is.synced) is.synced.also is.lists.second cut.second_encodes starts i
                at,
          ))).each image left);
    }
      where
        by : (old new : Option (Slots D)) → If (λ s. (state_on medium s).count ≡ servers.count_of it.server) old
            → If (λ s. MakesOf rules (state_on medium s) (servers.state_of it.server)) old
            → If (λ s. EncodesList (state_on medium s) commits) old
            → Changes (λ was now. EachGoes rules (images_of medium now) (state_on medium was) (servers.state_of it.server)
            (record { label = cut.label; access = cut.access; lines = cut.lines })) old new
            → If (λ s. EachStarts (medium.may_leave (servers.disk_of now.server)) (images_of medium s)) new → (i : List ℕ)
            → medium.may_leave (servers.disk_of now.server) i
            → If (λ s. (j : List ℕ) → images_of medium s j → MayFollow i j × Cut n commits commit j) new
        by (Some was) (Some now) count makes list goes starts i at =
            λ j there. ((starts.each i j at there).follows, cut_on (state_on medium was) count makes list goes j there)
        by None None count makes list goes starts i at = tt
        by old new count makes list goes starts i at = absurd goes

-- ---- what is so of an answer

pub if_ok_both : {T E : Type 0} {P Q R : T → Type 0} (result : Result T E) → ((t : T) → P t → Q t → R t) → IfOk result P → IfOk result Q
    → IfOk result R
if_ok_both (Ok t) more one other = more t one other
if_ok_both (Err e) more one other = tt
