-- How a server's keeper starts: from a disk and its backup, or from a disk that is alone.
use Rattle.iot_backup.specs.{Parts.IsThere, declared.faults.TwinFault.TheVariants.Disk as OfDisk}
use Rattle.iot_durable.{proofs.ImagesLaws.not_both, specs.Causes.HasPairCause}
use Rattle.iot_durable.specs.Standing.{EachIsBroughtUp, EachStands, StandWith}
use Rattle.iot_judging.proofs.ImagesLaws.{Starts, brought_there, hold_too, kept_there, lacks_still}
use Rattle.{iot_judging.specs.Records.LacksCommit, iot_node.specs.Keeping.Comes, iot_node.specs.Keeping.Fails}
use Rattle.iot_server_node.proofs.Common.{AreImages, Commit, Disks, HasCause, If, IsImage, KeepsList, List, MayFollow, MayLeave, Medium}
use Rattle.iot_server_node.proofs.Common.{None, Only, OnlyImage, Option, Server, ServerKeeper, Slots, Some, StandFor, StartFault, State}
use Rattle.iot_server_node.proofs.Common.{TakesBytes, ap, decoded, disk_on, disks_in, faults_in, header, images_of, inl, inr, lists, next}
use Rattle.iot_server_node.proofs.Common.{on_both, option_map, other_in, reads_may_leave, refl, rules, same_Some, state_of, sym, ℕ, ◌+◌}
use Rattle.iot_server_node.proofs.{Common.◌∙◌, Common.◌≡◌, CountsLaws.alone_start, CountsLaws.pair_start, KeepersLaws.keeps_images}
use Rattle.iot_server_node.{proofs.KeepersLaws.keeps_of, proofs.PairsLaws.both_so, proofs.PairsLaws.so_as, specs.Records.AreTurning}
use Rattle.iot_store.specs.Standing.{EachBrings, EachFollows, records_in}
use Rattle.iot_server.specs.Servers as servers

-- the second disk that is there
pub is_there : {X : Type 0} (o : Option X) → IsThere o → (x : X) × (o ≡ Some x)
is_there (Some x) there = (x, refl)
is_there None there = absurd there

-- disks that have one image together
module _ {D : Type 0} (medium : Medium D) (is_image : (disk : D) → medium.may_leave disk (medium.reads disk)) (disks : Disks D)
    (only : OnlyImage ((on_both medium).reads disks) (MayLeave medium disks)) where
  open disks use {disk, given_up}

  -- so has each
  pub only_first : Only (medium.reads disks.disk) (medium.may_leave disks.disk)
  only_first = record {
    is = λ i at k. (only.is (record { disk = i; backup = option_map medium.reads disks.backup })
        (record { disk = at; backup = (reads_may_leave medium is_image disks).backup }) k).disk;
  }

  pub only_second : (backup : D) → disks.backup ≡ Some backup → Only (medium.reads backup) (medium.may_leave backup)
  only_second backup is = record {
    is = λ j at.
        let image = only.is (record { disk = _; backup = Some j }) (record { disk = is_image disks.disk; backup = rw is at }) in
        same_Some _ _ ((λ k. (image k).backup) ∙ ap (option_map medium.reads) is);
  }

  -- what is known of a start of the first disk
  abbrev Begins : (left : D) → Type 0
  Begins left = Starts (medium.reads disk) (medium.may_leave disk) (medium.may_leave left)

  -- ---- a disk that is alone

  pub alone_fails : disks.backup ≡ None → (left : D) (fault : StartFault) → TakesBytes fault → Begins left
      → HasCause rules fault (medium.reads disk) (medium.faults disk) (medium.faults left) → medium.arms left ≡ medium.arms disk
      → Fails (lists medium) (on_both medium) disks (record { disk = left; backup = None; given_up = given_up }) fault
  alone_fails none left fault takes it cause arms = record {
    images = record {
      stand = λ n commits is. both_so medium _ (λ i at. (hold_too only_first it n commits is.disk i at, tt));
      turn = λ n commits longer is. both_so medium _ (λ i at. (hold_too only_first it (next n) longer is.disk i at, tt));
    };
    counts = rw none (alone_start medium fault (medium.reads disk) disk left given_up takes cause arms);
  }

  -- ---- a disk and its backup

  module _ (backup : D) where
    -- what is known of a start of the second, if no server comes of it
    pub record Brings (left behind : D) : Type 0 where
      pub brings : (state was : State) → StandFor (medium.reads disk) state → StandFor (medium.reads backup) was
          → EachBrings (medium.may_leave behind) (medium.reads disk) (medium.reads backup) state was
      pub encodes : EachIsBroughtUp rules (medium.may_leave behind) (medium.reads disk) (medium.reads backup)
      pub follows : MayFollow (medium.reads disk) (medium.reads backup)
          → EachFollows (medium.may_leave left) (medium.may_leave behind)

    pub pair_fails : disks.backup ≡ Some backup → (left behind : D) (fault : StartFault) → TakesBytes fault
        → Begins left → Brings left behind
        → HasPairCause rules (OfDisk fault) (medium.reads disk) (medium.reads backup) (medium.faults disk) (medium.faults left)
        (medium.faults backup) (medium.faults behind)
        → medium.arms left ≡ medium.arms disk
        → Fails (lists medium) (on_both medium) disks (record { disk = left; backup = Some behind; given_up = given_up }) fault
    pair_fails some left behind fault takes first it cause arms = record {
      images = record {
        stand = λ n commits is.
            both_so medium _ (λ i at. (hold_too only_first first n commits is.disk i at, also n commits is.disk (rw some at is.backup)));
        turn = λ n commits longer is. both_so medium _ (λ i at. (
          hold_too only_first first (next n) longer is.disk i at,
          λ j there. elim (rw some at is.backup) [
            | inl lacks ↦ elim ((it.brings (state_of longer) (state_of commits) is.disk.stands lacks.image.stands).each j there) [
              | inl stands ↦ inl (lacks_still lacks (read i at lacks)
                  (kept_there it.encodes j there lacks.image stands.stands (stands.counted ∙ lacks.image.many))
                  ((it.follows lacks.follows).each i j at there))
              | inr stands ↦ inr (brought_there it.encodes j there is.disk lacks stands.stands (stands.counted ∙ is.disk.many))
            ]
            | inr has ↦ inr (also (next n) longer is.disk has j there)
          ],
        ));
      };
      counts = rw some
          (pair_start medium fault (medium.reads disk) (medium.reads backup) disk left backup behind given_up takes cause arms);
    }
      where
        also : (n : ℕ) (commits : List Commit) → IsImage (medium.reads disk) n commits → IsImage (medium.reads backup) n commits
            → (j : List ℕ) → medium.may_leave behind j → IsImage j n commits
        also n commits is had j there = elim ((it.brings (state_of commits) (state_of commits) is.stands had.stands).each j there) [
          | inl stands ↦ kept_there it.encodes j there had stands.stands (stands.counted ∙ had.many)
          | inr stands ↦ kept_there it.encodes j there had stands.stands (stands.counted ∙ is.many)
        ]

        -- the first disk has a record, so it was only read
        read : {n : ℕ} {commits longer : List Commit} (i : List ℕ) → medium.may_leave left i
            → LacksCommit (medium.reads disk) (medium.reads backup) n commits longer → i ≡ medium.reads disk
        read i at lacks =
            only_first.is i ((first.same (λ none. not_both (decoded header (medium.reads disk)) _ none lacks.lacks.is)).was i at)

  -- ---- a server that was started

  module _ (it : Server D) (synced : servers.IsSynced medium it)
      (here : StandWith rules (medium.reads disk) (servers.count_of it) (servers.state_of it))
      (own_state : (state : State) → StandFor (medium.reads disk) state → servers.state_of it ≡ state) (first : Begins (servers.disk_of it))
      (arms : medium.arms (servers.disk_of it) ≡ medium.arms disk) where
    abbrev made : ServerKeeper D
    made = record { server = it; given_up = given_up }

    -- what its second disk has, if it has one
    abbrev Second : (n : ℕ) → List Commit → Type 0
    Second n commits = If (λ j. IsImage j n commits) ((on_both medium).reads (disks_in made)).backup

    keeps : (n : ℕ) (commits : List Commit) → IsImage (medium.reads disk) n commits → Second n commits → KeepsList medium made n commits
    keeps n commits is second =
        keeps_of medium made n commits synced (sym here.counted ∙ is.many) (own_state (state_of commits) is.stands)
        (record { disk = hold_too only_first first n commits is _ (is_image (servers.disk_of it)); backup = second })

    comes : ((n : ℕ) (commits : List Commit) → AreImages ((on_both medium).reads disks) n commits → Second n commits)
        → ((n : ℕ) (commits longer : List Commit)
        → AreTurning ((on_both medium).reads disks) n commits longer → Second (next n) longer)
        → medium.faults (servers.disk_of it) + faults_in medium (other_in (disks_in made).backup given_up)
        ≡ medium.faults disk + faults_in medium (other_in disks.backup given_up)
        → Comes (lists medium) (on_both medium) disks made
    comes second longer faults = record {
      from = λ n commits is. keeps n commits is.disk (second n commits is);
      turned = λ n commits after is. keeps (next n) after is.disk (longer n commits after is);
      images = record {
        stand = λ n commits is. keeps_images (keeps n commits is.disk (second n commits is));
        turn = λ n commits after is. record {
          each = λ image left.
              so_as ((keeps_images (keeps (next n) after is.disk (longer n commits after is))).each image left) (λ i has. has)
              (λ i j has. inr has);
        };
      };
      counts = λ i. record { faults = faults i; arms = arms i };
    }

    pub alone_comes : disks.backup ≡ None → servers.IsAlone it → medium.faults (servers.disk_of it) ≡ medium.faults disk
        → Comes (lists medium) (on_both medium) disks made
    alone_comes none alone faults =
        comes (λ n commits is. rw alone tt) (λ n commits longer is. rw alone tt)
        (rw (alone, none, faults) refl)

    pub pair_comes : {backup : D} → disks.backup ≡ Some backup → (s : Slots D) → servers.second_of it ≡ Some s
        → ((state was : State) → StandFor (medium.reads disk) state → StandFor (medium.reads backup) was
        → EachStands rules (images_of medium s) (records_in (medium.reads disk)) state)
        → EachIsBroughtUp rules (images_of medium s) (medium.reads disk) (medium.reads backup)
        → medium.faults (servers.disk_of it) ≡ medium.faults disk → medium.faults (disk_on s) ≡ medium.faults backup
        → Comes (lists medium) (on_both medium) disks made
    pair_comes {backup = backup} some s there stand encodes faults also =
        comes (λ n commits are. rw there (has n commits are.disk (rw some at are.backup)))
        (λ n commits longer are. rw there (elim (rw some at are.backup) [
          | inl lacks ↦
              let stands = (stand (state_of longer) (state_of commits) are.disk.stands lacks.image.stands).each _ (is_image (disk_on s)) in
              brought_there encodes _ (is_image (disk_on s)) are.disk lacks stands.stands (stands.counted ∙ are.disk.many)
          | inr had ↦ has (next n) longer are.disk had
        ]))
        (rw (there, some) (λ i. faults i + also i))
      where
        -- its own bytes are an image of it
        has : (n : ℕ) (commits : List Commit) → IsImage (medium.reads disk) n commits → IsImage (medium.reads backup) n commits
            → IsImage (medium.reads (disk_on s)) n commits
        has n commits one other =
            let stands = (stand (state_of commits) (state_of commits) one.stands other.stands).each _ (is_image (disk_on s)) in
            kept_there encodes _ (is_image (disk_on s)) other stands.stands (stands.counted ∙ one.many)
