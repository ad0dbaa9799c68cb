-- The server's backup: how it is armed, and how the server goes on from it.
use Rattle.iot_machine.specs.{Nodes.armed, Texts.promote_words}
use Rattle.iot_server_node.proofs.{BeginningLaws.lasts_go_on, Common.AreSo, Common.Bool, Common.ComesBackAs, Common.Commit, Common.Counts}
use Rattle.iot_server_node.proofs.Common.{Disks, Doubt, Down, HasAnswered, HoldsBy, Image, KeepsCommits, Lasts, List, MayLeave, Medium}
use Rattle.iot_server_node.proofs.Common.{Node, None, Option, Pick, Post, PostStands, Refines, ServerKeeper, ServerNode, ServerStands, Some}
use Rattle.iot_server_node.proofs.Common.{ap, arith, arming_as, counts_on, disk_of, disks_in, false, inl, inr, is_on, is_up, kept_text}
use Rattle.iot_server_node.proofs.Common.{lists, on_both, option_map, placed, refl, same_Some, server_name, subst, sym, true, ℕ, ◌+◌, ◌∙◌}
use Rattle.iot_server_node.proofs.{Common.◌≡◌, PairsLaws.both_so, PairsLaws.other_left, ServersLaws.Posted, ServersLaws.known_comes_back}
use Rattle.iot_server_node.specs.Disks.{ArmsOther, Sides, other_of, sides, sides_of}
use Rattle.iot_server_node.specs.Prelude.{Arms, armed_with}
use Rattle.iot_server_node.specs.Servers.{ArmsServersBackup, HasBackup, HasPlaces, Promotes, given_up_in, is_promoted, turned_post}
use Rattle.iot_node.specs.Posts as posts

-- ---- which disks there are

module _ {D : Type 0} (medium : Medium D) where
  -- there are disks in their places, and the one beside the server's own was armed so
  pub record ArePlaced (disks : Option (Disks D)) (promoted : Bool) (arms : Arms) : Type 0 where
    pub first : D
    pub last : D
    pub has : disks ≡ Some (placed promoted first last)
    pub beside : medium.arms (other_of promoted first last) ≡ arms

  placed_by : (promoted : Bool) (arms : Arms) (disk : D) (backup given_up : Option D)
      → sides_of medium (record { disk = disk; backup = backup; given_up = given_up }) ≡ sides promoted arms
      → ArePlaced (Some (record { disk = disk; backup = backup; given_up = given_up })) promoted arms
  placed_by false arms disk (Some last) None same =
      record { first = disk; last = last; has = refl; beside = same_Some _ _ (λ i. (same i).backup) }
  placed_by true arms disk None (Some first) same =
      record { first = first; last = disk; has = refl; beside = same_Some _ _ (λ i. (same i).given_up) }
  placed_by promoted arms disk backup given_up same =
      let one = ap (λ (s : Sides). s.backup) same in
      let other = ap (λ (s : Sides). s.given_up) same in absurd cc

  pub placed_in : (disks : Option (Disks D)) (promoted : Bool) (arms : Arms)
      → option_map (sides_of medium) disks ≡ Some (sides promoted arms) → ArePlaced disks promoted arms
  placed_in None promoted arms is = absurd cc
  placed_in (Some disks) promoted arms is = placed_by promoted arms disks.disk disks.backup disks.given_up (same_Some _ _ is)

module _ {D : Type 0} where
  -- one that is down, and was not promoted, has its backup
  down_by : (post : Post (ServerKeeper D) (Disks D)) (promoted : Bool) (first last : D) → is_on post ≡ false
      → given_up_in (posts.disk_of disks_in post) ≡ false → posts.disk_of disks_in post ≡ Some (placed promoted first last)
      → HasBackup (record { post = post })
  down_by (Down fallen) false first last off own has = record {
    first = first;
    last = last;
    doubt = fallen.doubt;
    is = λ i. Down (record { disk = same_Some _ _ has i; doubt = fallen.doubt });
  }
  down_by post promoted first last off own has = let given_up = ap given_up_in has in absurd cc

  pub has_backup : (server : ServerNode D) → is_up server ≡ false → is_promoted server ≡ false → HasPlaces server → HasBackup server
  has_backup server down own it = down_by server.post it.promoted it.first it.last down own it.has

-- ---- it goes on from its backup

module _ {D : Type 0} (medium : Medium D) (is_image : (disk : D) → medium.may_leave disk (medium.reads disk))
    (says : List Commit → List Commit → List ℕ) where
  -- an image of both, of which there is no backup
  alone : {P : List ℕ → Type 0} {Q : (one other : List ℕ) → Type 0} (first last : D) (image : Image)
      → MayLeave medium (placed true first last) image → P image.disk → AreSo P Q image
  alone {Q = Q} first last image left is = record { disk = is; backup = other_left medium (Q image.disk) None image.backup tt left.backup }

  -- the backup holds what both held
  turned_holds : (first last : D) (count : ℕ) (doubt : Option Doubt) (arms : Arms) (node : Node (List Commit))
      → HoldsBy (lists medium) (on_both medium) says (MayLeave medium (placed false first last)) count doubt node
      → HoldsBy (lists medium) (on_both medium) says (MayLeave medium (placed true first last)) count doubt (arming_as arms node)
  turned_holds first last count None arms node it = record {
    sure = it.sure;
    each = both_so medium (placed true first last) (λ i at. (
      (it.each.each (record { disk = medium.reads first; backup = Some i }) (record { disk = is_image first; backup = at })).backup,
      tt,
    ));
  }
  turned_holds first last count (Some doubt) arms node it = record {
    after = it.after;
    is = it.is;
    each = record {
      each = λ image left.
          elim (it.each.each (record { disk = medium.reads first; backup = Some image.disk })
          (record { disk = is_image first; backup = left.disk })) [
            | inl both ↦ inl (alone first last image left both.backup)
            | inr turning ↦ elim turning.backup [
              | inl lacks ↦ inl (alone first last image left lacks.image)
              | inr has ↦ inr (alone first last image left has)
            ]
          ];
    };
    counted = it.counted;
    lines = it.lines;
  }

  -- over the backup it stands for the node that is armed as that was
  pub turned_stands : (first last : D) (doubt : Option Doubt) (node : Node (List Commit))
      → PostStands (lists medium) (on_both medium) says (Down (record { disk = placed false first last; doubt = doubt })) node
      → PostStands (lists medium) (on_both medium) says (Down (record { disk = placed true first last; doubt = doubt }))
      (arming_as (medium.arms last) node)
  turned_stands first last doubt node here =
      let sum : medium.faults last + medium.faults first ≡ node.counts.faults =
      omega (arith, ap (λ (c : Counts). c.faults) here.counts) in
      record {
        alive = here.alive;
        counts = λ i. record { faults = sum i; arms = medium.arms last };
        count = here.count;
        holds = turned_holds first last here.count doubt (medium.arms last) node here.holds;
      }

-- ---- a promotion

module _ {D : Type 0} (medium : Medium D) (is_image : (disk : D) → medium.may_leave disk (medium.reads disk)) {old : ServerNode D}
    (it : HasBackup old) where
  abbrev arms : Arms
  arms = medium.arms it.last

  -- over the backup it stands for the node that is armed as that was
  pub over : {names : List (List ℕ)} {node : Node (List Commit)} {n : ℕ} → ServerStands medium names old node n
      → Posted medium names (turned_post old.post) (arming_as arms node)
  over {names} {node} here =
      subst (λ (post : Post (ServerKeeper D) (Disks D)). Posted medium names (turned_post post) (arming_as arms node)) (sym it.is)
      (turned_stands medium is_image (kept_text names) it.first it.last it.doubt node (rw it.is at here.post))

  -- what came of a call that starts it from the backup
  pub promotes : (new : ServerNode D) (x y : List ℕ)
      → option_map (sides_of medium) (disk_of new) ≡ option_map (sides_of medium) (posts.disk_of disks_in (turned_post old.post))
      → (names : List (List ℕ)) (on : Bool)
      → Refines (Posted medium names) (ComesBackAs promote_words server_name (kept_text names)) (turned_post old.post) new.post x y on
      → HasAnswered 0 new.post → Promotes medium names old new x y
  promotes new x y same names on steps answered = record {
    step = λ node n side here beside.
        let armed : arms ≡ side = let is = same_Some _ (sides false side) (rw it.is at beside.is) in same_Some _ _ (λ i. (is i).backup) in
        let s = steps.step (arming_as side node) (rw armed at (over here)) in
        let was = rw it.is at here.post in (
          s.0,
          on,
          s.1,
          s.2,
          s.3,
          record { post = s.4; known = known_comes_back names promote_words on _ s.1 s.0 s.3 here.known; answered = answered },
          record { is = (rw it.is at same) ∙ (λ i. Some (sides true (was.counts i).arms)) },
        );
  }

  pub promotes_records : {post : Post (ServerKeeper D) (Disks D)} (new : ServerNode D) → post ≡ turned_post old.post
      → ((says : List Commit → List Commit → List ℕ) (node : Node (List Commit)) → PostStands (lists medium) (on_both medium) says post node
      → Lasts (lists medium) (on_both medium) new.post node.durable node.doubt) → KeepsCommits medium old new
  promotes_records new turned last = record {
    keeps = λ names node n here.
        lasts_go_on medium names new.post node here.known (last (kept_text names) (arming_as arms node) (rw turned (over here)));
  }

-- ---- its backup is armed

module _ {D : Type 0} (medium : Medium D) (calls : ℕ) (pick : Pick) where
  -- so it is armed, if it stands for the same node but for what that counts
  pub arms_by : (old new : ServerNode D) (was now : Disks D) → ArmsOther medium calls pick was now → disk_of old ≡ Some was
      → disk_of new ≡ Some now
      → ((names : List (List ℕ)) (node : Node (List Commit)) (n : ℕ) (counts : Counts)
      → (counts_on (on_both medium) was ≡ node.counts → counts_on (on_both medium) now ≡ counts) → ServerStands medium names old node n
      → ServerStands medium names new (record node { counts = counts }) n) → (promoted : Bool)
      → ArmsServersBackup medium calls pick promoted old new
  arms_by old new was now it old_has new_has still false = λ names node n arms here side.
      let same = same_Some _ _ (sym (ap (option_map (sides_of medium)) old_has) ∙ side.is) in (
        still names node n node.counts (λ counts. (λ i. record { faults = it.faults i; arms = (it.backup arms same).0 i }) ∙ counts) here,
        record { is = ap (option_map (sides_of medium)) new_has ∙ ap (λ (s : Sides). Some s) (it.backup arms same).1 },
      )
  arms_by old new was now it old_has new_has still true = λ names node n arms here side.
      let same = same_Some _ _ (sym (ap (option_map (sides_of medium)) old_has) ∙ side.is) in (
        still names node n (armed calls pick node).counts (λ counts.
            (λ i. record { faults = it.faults i; arms = (it.promoted arms same).0 i })
            ∙ ap (λ (c : Counts). record { faults = c.faults; arms = armed_with c.arms calls pick }) counts) here,
        record { is = ap (option_map (sides_of medium)) new_has ∙ ap (λ (s : Sides). Some s) (it.promoted arms same).1 },
      )
