-- What a server does is what is said of it.
use Rattle.std.proofs.Common.{IsSome, drop, if◌then◌else◌, slice_index_or, suc, zero, ◌%◌, ◌^◌, ◌⊎◌}
use Rattle.{std.proofs.Math.Nat.mod-add-mod, iot_judging.proofs.ImagesLaws.empty_image, iot_judging.proofs.ImagesLaws.record_is}
use Rattle.iot_machine.proofs.FollowsLaws.{all_as, all_push, at_push}
use Rattle.iot_machine.proofs.KeepsLaws.{asks_then, keeps_does, keeps_either, stays_says}
use Rattle.iot_machine.specs.Nodes.{back, fallen, paired, unopened}
use Rattle.iot_machine.specs.{Serving.added_text, Stops.ArmsDisk, Stops.Crashes, Stops.OpensNode, Stops.SettlesAs, Texts.transaction_name}
use Rattle.iot_node.proofs.PostsLaws.{lasts_in as posts_lasts_in, on_is}
use Rattle.iot_node.specs.{Posts.IsStanding, Posts.live_of, declared.post.Post.TheVariants.Between}
use Rattle.iot_server.specs.{Replies.EncodesAfter, Traffic.no_traffic}
use Rattle.iot_server_node.proofs.Common.{Access, Appends, AreOf, Bool, Both, Call, CanFollow}
use Rattle.iot_server_node.proofs.Common.{ComesBackAs, Commit, Differs, Disks, Doubt, Down, Encoded, Handles, HasAnswered, HavingAnswered}
use Rattle.iot_server_node.proofs.Common.{Holds, HoldsBy, If, Image, IsAnswered, IsGrown, IsImage, IsKnown, KeepsDisk, KeepsList}
use Rattle.iot_server_node.proofs.Common.{Label, Lasts, Leads, List, MayLeave, Medium, Node, NodeIsKnown, None, Option, Pick, Post}
use Rattle.iot_server_node.proofs.Common.{PostStands, Refines, Reply, ServerIsSound, ServerKeeper, ServerNode, ServerStands, Some, State}
use Rattle.iot_server_node.proofs.Common.{StepsTo, Storing, Submits, Two, Up, add_commit, after_commit, ap, arith, changed, commit_text}
use Rattle.iot_server_node.proofs.Common.{counts_on, disk_of, disks_in, false, header, if_so, inl, inr, is_on, is_up, kept_text, length}
use Rattle.iot_server_node.proofs.Common.{length-append, lists, next, number_in, on_both, placed, refl, renewed_list, rules, server_name}
use Rattle.iot_server_node.proofs.Common.{state_is, state_of, store_counted, subst, sym, tree_after, true, ℕ, [], ◌++◌, ◌+◌, ◌∙◌, ◌∷◌, ◌≡◌}
use Rattle.iot_server_node.proofs.{CountsLaws.kept_counts, DisksLaws.both_only, KeepersLaws.each_on, KeepersLaws.keeps_images}
use Rattle.iot_server_node.{proofs.KeepersLaws.one_counted, proofs.PairsLaws.both_so, specs.Keepers.traffic_in, specs.Prelude.IsEmpty}
use Rattle.{iot_server_node.specs.Servers.AreKnown, iot_server_node.specs.Servers.IsUnopened, iot_slots.specs.Decoding.NotStarted}
use Rattle.{iot_slots.specs.Decoding.decoded, iot_store.proofs.NumbersLaws.is_new_from, iot_store.proofs.StandingLaws.grown_count}
use Rattle.iot_server.specs.Servers as servers
use Rattle.iot_node.specs.Posts as posts
use Rattle.iot_wire.specs.declared.requests.Request.TheVariants as requests

-- nothing was started on an empty disk
nothing_started : decoded header [] ≡ NotStarted
unfolding decoded
nothing_started = refl

-- ---- what is known of the commits

module _ (names : List (List ℕ)) where
  -- what is known stays so in this call
  abbrev pub Keeps : {A : Type 0} → Call (Node (List Commit)) A → A → Type 0
  Keeps call a =
      (node after : Node (List Commit)) (text : List ℕ) → call node text a after → NodeIsKnown names node → NodeIsKnown names after

  pub known_opens : (on : Bool) → Keeps (OpensNode server_name) on
  known_opens on node after text (inl is) known = rw is.2 known
  known_opens on node after text (inr is) known = rw is.2.is known

  known_back : (s : List Commit) (node after : Node (List Commit)) → after ≡ back s node → AreKnown names s → NodeIsKnown names after
  known_back s node after is known = subst (NodeIsKnown names) (sym is) (record { durable = known; doubt = tt; longer = tt })

  known_settled : (words : List ℕ) (doubt : Option (List Commit)) (node after : Node (List Commit)) (text : List ℕ)
      → SettlesAs words (kept_text names) doubt node text after → AreKnown names node.durable → If (AreKnown names) doubt
      → NodeIsKnown names after
  known_settled words None node after text is durable doubt = known_back node.durable node after is.1 durable
  known_settled words (Some s) node after text (inl is) durable doubt = known_back s node after is.1 doubt
  known_settled words (Some s) node after text (inr is) durable doubt = known_back node.durable node after is.1 durable

  pub known_comes_back : (words : List ℕ) (on : Bool) → Keeps (ComesBackAs words server_name (kept_text names)) on
  known_comes_back words on node after text (inl is) known = known_settled words node.doubt node after text is.1 known.durable known.doubt
  known_comes_back words on node after text (inr is) known = rw is.2.is known

  pub known_armed : (calls : ℕ) (pick : Pick) → Keeps (ArmsDisk server_name calls pick) tt
  known_armed calls pick node after text is known = rw is.1 known

  pub known_crash : Keeps (Crashes server_name) tt
  known_crash node after text step known =
      (asks_then {R = λ _. NodeIsKnown names} (keeps_either (keeps_does (λ m it. it)) stays_says)).at node after text tt known step

  -- also if the server stops as it appends a commit that is known, and that can follow
  pub known_stopped : (commit : Commit) (node after : Node (List Commit)) (text body : List ℕ) → IsKnown names commit
      → Leads (rules Two) (body ∷ []) (state_of node.durable) (state_of (add_commit commit node.durable))
      → Appends server_name (add_commit commit) node text false after → NodeIsKnown names node → NodeIsKnown names after
  known_stopped commit node after text body one leads (inl done) known = absurd cc
  known_stopped commit node after text body one leads (inr stop) known = subst (NodeIsKnown names) (sym stop.2.is) (record {
    durable = known.durable;
    doubt = all_push (IsKnown names) node.durable commit one known.durable;
    longer = record { commit = commit; is = refl; body = body; leads = leads };
  })

-- one client more has a name
module _ (names : List (List ℕ)) (name : List ℕ) where
  known_more : (commits : List Commit) → AreKnown names commits → AreKnown (names ++ name ∷ []) commits
  known_more commits =
      all_as (IsKnown names) (IsKnown (names ++ name ∷ [])) commits (λ commit known. record {
        spelled = known.spelled;
        client = omega (arith, known.client, length-append names (name ∷ []));
      })

  -- what a list says that has one commit more is the same
  same_added : (before added : List Commit) → AreKnown names added
      → added_text (names ++ name ∷ []) before added ≡ added_text names before added
  same_added before [] known = refl
  same_added before (commit ∷ later) known =
      ap (λ (client : List ℕ). commit_text (transaction_name client commit.entry.number) commit before)
      (at_push (λ (client : List ℕ). client ≡ slice_index_or names commit.entry.client []) names commit.entry.client name []
      known.0.client refl)

  known_dropped : (count : ℕ) (commits : List Commit) → AreKnown names commits → AreKnown names (drop count commits)
  known_dropped zero commits known = known
  known_dropped (suc count) [] known = tt
  known_dropped (suc count) (commit ∷ commits) known = known_dropped count commits known.1

  pub same_kept : (before after : List Commit) → AreKnown names after
      → kept_text (names ++ name ∷ []) before after ≡ kept_text names before after
  same_kept before after known = same_added before (drop (length before) after) (known_dropped (length before) after known)

-- ---- its post

module _ {D : Type 0} where
  -- a server that is alive
  abbrev pub live : ServerKeeper D → ServerNode D
  live keeper = record { post = Up keeper }

  pub live_is : {server : ServerNode D} {keeper : ServerKeeper D} → server.post ≡ Up keeper → server ≡ live keeper
  live_is is = λ i. record { post = is i }

  pub answered_off : (post : Post (ServerKeeper D) (Disks D)) (n : ℕ) → is_on post ≡ false → HasAnswered n post
  answered_off (Up keeper) n off = absurd cc
  answered_off post n off = tt

  -- one that was just started has answered none
  pub answered_fresh : (post : Post (ServerKeeper D) (Disks D)) (on : Bool) → live_of traffic_in post ≡ if on then Some no_traffic else None
      → HasAnswered 0 post
  answered_fresh post true is = rw is refl
  answered_fresh post false is = rw is tt

  -- as it has a disk, it has the same after a call that leaves it
  pub keeps_same : {I : Type 0} (medium : Storing D I) (old new : Option D) → IsSome old → new ≡ old → KeepsDisk medium old new
  keeps_same medium None new some same = absurd cc
  keeps_same medium (Some disk) new some same =
      record { was = disk; now = disk; old_has = refl; new_has = same; arms = refl; faults = inl refl }

module _ {D : Type 0} (medium : Medium D) (names : List (List ℕ)) where
  abbrev pub Posted : Post (ServerKeeper D) (Disks D) → Node (List Commit) → Type 0
  Posted = PostStands (lists medium) (on_both medium) (kept_text names)

  -- what its post does, it does, if what is known of its node stays so
  pub with_known : {A : Type 0} {call : Call (Node (List Commit)) A} {old new : ServerNode D} {n k : ℕ} {x y : List ℕ} {a : A}
      → Refines Posted call old.post new.post x y a
      → Keeps names call a → (HasAnswered n old.post → HasAnswered k new.post) → StepsTo (HavingAnswered medium names n)
      (HavingAnswered medium names k) call old new x y a
  with_known one keeps counts = record {
    step = λ node here.
        let s = one.step node here.post in
        (s.0, s.1, s.2, s.3, record { post = s.4; known = keeps node s.1 s.0 s.3 here.known; answered = counts here.answered });
  }

  -- ---- never started

  each_empty : (disk : D) → IsEmpty medium disk → (bytes : List ℕ) → medium.may_leave disk bytes → IsImage bytes 0 []
  each_empty disk empty bytes there = empty_image bytes (ap (decoded header) (empty.synced.is bytes there ∙ empty.empty) ∙ nothing_started)

  pub unopened_stands : (first backup : D) (n : ℕ) → IsEmpty medium first → IsEmpty medium backup
      → ServerStands medium names (record { post = Down (record { disk = placed false first backup; doubt = None }) })
      (unopened [] (paired (counts_on medium first) (counts_on medium backup))) n
  unopened_stands first backup n empty also = record {
    post = record {
      alive = refl;
      counts = refl;
      count = 0;
      holds = record {
        sure = refl;
        each = both_so medium (placed false first backup) (λ i at. (each_empty first empty i at, each_empty backup also));
      };
    };
    known = record { durable = tt; doubt = tt; longer = tt };
    answered = tt;
  }

  -- it is alive if the node is
  pub up_is : (server : ServerNode D) (node : Node (List Commit)) (n : ℕ) → ServerStands medium names server node n
      → node.alive ≡ is_up server
  up_is server node n here = on_is (lists medium) (on_both medium) (kept_text names) server.post node here.post

  lasts_in : (post : Post (ServerKeeper D) (Disks D)) (node : Node (List Commit)) → Posted post node
      → Lasts (lists medium) (on_both medium) post node.durable node.doubt
  lasts_in = posts_lasts_in (lists medium) (on_both medium) (kept_text names) (λ keeper n commits here. keeps_images here)

  pub has_disk : (post : Post (ServerKeeper D) (Disks D)) (node : Node (List Commit)) → Posted post node
      → IsSome (posts.disk_of disks_in post)
  has_disk post node here = rw (lasts_in post node here).has refl

  -- what its disk holds
  pub lasts : (server : ServerNode D) (node : Node (List Commit)) (n : ℕ) → ServerStands medium names server node n
      → Lasts (lists medium) (on_both medium) server.post node.durable node.doubt
  lasts server node n here = lasts_in server.post node here.post

  -- ---- a request

  module _ {was now : ServerKeeper D} {asked reply : List ℕ} {node : Node (List Commit)} {n : ℕ}
      (it : Handles medium asked reply was now) (here : ServerStands medium names (live was) node n) where
    -- once more, with what it has now
    stands_on : (change : List Commit → List Commit) (count : ℕ) → KeepsList medium now count (change node.durable)
        → NodeIsKnown names (changed change node) → ServerStands medium names (live now) (changed change node) (n + 1)
    stands_on change count keeps known = record {
      post = record {
        alive = here.post.alive;
        sure = here.post.sure;
        counts = kept_counts medium it.arms it.faults ∙ here.post.counts;
        count = count;
        stands = keeps;
      };
      known = known;
      answered = it.requests ∙ ap (λ (requests : ℕ). (requests + 1) % 2 ^ 64) here.answered ∙ mod-add-mod n (2 ^ 64) 1;
    }

    -- as many records as before it
    counted_before : (servers.encoded_on medium was.server).count ≡ here.post.count
    counted_before = store_counted medium (servers.store_of was.server) here.post.stands.synced ∙ here.post.stands.many

    -- after it as many as it encodes
    counted_now : servers.count_of now.server ≡ (servers.encoded_on medium now.server).count
    counted_now = sym (store_counted medium (servers.store_of now.server) it.synced)

    -- one that encodes what it did, and has the state that it had, stands for what it stood for
    pub stands_still : Both medium (λ old new. new ≡ old) was now → servers.state_of now.server ≡ servers.state_of was.server
        → ServerStands medium names (live now) node (n + 1)
    stands_still both made =
        stands_on (λ commits. commits) here.post.count (record {
          synced = it.synced;
          lists = each_on both here.post.stands.lists (λ old new list same. rw same list);
          many = counted_now ∙ ap (λ (e : Encoded). e.count) both.first ∙ counted_before;
          has_state = made ∙ here.post.stands.has_state;
          counted = here.post.stands.counted;
        })
        here.known

    -- one that encodes one record more, and has the state after it, stands for a list with this commit
    pub stands_longer : {commit : Commit} {label : Label} {access : Access} {lines : List (List ℕ)}
        → AreOf commit (tree_after node.durable) label access lines
        → Both medium (λ old new. IsGrown old (servers.state_of was.server) (record { label = label; access = access; lines = lines }) new)
        was now
        → servers.state_of now.server ≡ after_commit (servers.state_of was.server) label access → IsKnown names commit
        → ServerStands medium names (live now) (changed (add_commit commit) node) (n + 1)
    stands_longer {commit} {label} {access} {lines} are both made known =
        stands_on (add_commit commit) (next here.post.count) (record {
          synced = it.synced;
          lists = each_on both here.post.stands.lists (λ old new list grown.
              rw grown.is
              (record_is node.durable are grown.mid grown.body grown.next.spells
              (renewed_list old grown.mid node.durable (rw here.post.stands.has_state at grown.renews) list)));
          many = counted_now ∙ grown_count _ _ _ _ both.first ∙ ap next counted_before;
          has_state = made ∙ (rw here.post.stands.has_state (sym (state_is node.durable are)));
          counted = one_counted here.post.stands commit;
        })
        (record {
          durable = all_push (IsKnown names) node.durable commit known here.known.durable;
          doubt = here.known.doubt;
          longer = rw here.post.sure tt;
        })

-- ---- how it handles a request

-- a submission leaves all as it was, or makes its commit, which can follow
pub recorded : {before after : State} {was now : Encoded} {label : Label} {access : Access} {lines : List (List ℕ)} {bytes : List ℕ}
    → IsAnswered before was (requests.Commit label access lines) bytes after now
    → ((after ≡ before) × (now ≡ was))
    ⊎ (CanFollow before label access × (after ≡ after_commit before label access)
    × IsGrown was before (record { label = label; access = access; lines = lines }) now)
recorded {before} {after} {was} {now} {label} {access} {lines} it =
    by (number_in before.labels label.client label.tid) it.reply refl it.answers it.encodes
  where
    by : (found : Option ℕ) (reply : Reply) → number_in before.labels label.client label.tid ≡ found
        → Submits found before label access reply after → EncodesAfter (requests.Commit label access lines) reply before was now
        → ((after ≡ before) × (now ≡ was))
        ⊎ (CanFollow before label access × (after ≡ after_commit before label access)
        × IsGrown was before (record { label = label; access = access; lines = lines }) now)
    by (Some number) reply listed (replied, made) it = inl (made, rw replied at it)
    by None reply none (Holds, holds, inl (fit, replied, made)) it =
        inr (record { is_new = is_new_from before.labels label.client label.tid none; holds = holds; fit = fit }, made, rw replied at it)
    by None reply none (Holds, holds, inr (misfit, replied, made)) it = inl (made, rw replied at it)
    by None reply none (Differs place answer, judged, (replied, made)) it = inl (made, rw replied at it)

-- one that was never started stands for some node
pub is_standing : {D : Type 0} (medium : Medium D) (server : ServerNode D) → IsUnopened medium server
    → IsStanding (lists medium) (on_both medium) server.post
is_standing medium server never = record {
  says = kept_text [];
  node = unopened [] (paired (counts_on medium never.first) (counts_on medium never.backup));
  stands = rw never.down (unopened_stands medium [] never.first never.backup 0 never.empty never.empty_backup).post;
}

-- a server that stands for some node has its disks, and they are the same if nothing is done
pub keeps_own : {D : Type 0} (medium : Medium D) (server : ServerNode D) → ServerIsSound medium server
    → KeepsDisk (on_both medium) (disk_of server) (disk_of server)
keeps_own medium server sound =
    keeps_same (on_both medium) (disk_of server) (disk_of server)
    (has_disk medium sound.names server.post sound.node sound.stands.post) refl

-- and can be started
pub is_ready : {D : Type 0} (medium : Medium D) (server : ServerNode D) → IsUnopened medium server
    → posts.Ready (on_both medium) server.post
is_ready medium server never =
    rw never.down (refl, both_only medium (placed false never.first never.backup) never.empty.synced never.empty_backup.synced)

-- so it can start
pub ruleset can_open = (is_standing, is_ready)

-- ---- one client more is declared

module _ {D : Type 0} (medium : Medium D) (names : List (List ℕ)) (name : List ℕ) where
  holds_more : (images : Image → Type 0) (count : ℕ) (doubt : Option Doubt) (node : Node (List Commit)) → NodeIsKnown names node
      → HoldsBy (lists medium) (on_both medium) (kept_text names) images count doubt node
      → HoldsBy (lists medium) (on_both medium) (kept_text (names ++ name ∷ [])) images count doubt node
  holds_more images count None node known it = record { sure = it.sure; each = it.each }
  holds_more images count (Some doubt) node known it = record {
    after = it.after;
    is = it.is;
    each = it.each;
    counted = it.counted;
    lines = it.lines ∙ sym (same_kept names name node.durable it.after (rw it.is at known.doubt));
  }

  posted_more : (post : Post (ServerKeeper D) (Disks D)) (node : Node (List Commit)) → NodeIsKnown names node
      → PostStands (lists medium) (on_both medium) (kept_text names) post node
      → PostStands (lists medium) (on_both medium) (kept_text (names ++ name ∷ [])) post node
  posted_more (Up keeper) node known here =
      record { alive = here.alive; sure = here.sure; counts = here.counts; count = here.count; stands = here.stands }
  posted_more (Down fallen) node known here = record {
    alive = here.alive;
    counts = here.counts;
    count = here.count;
    holds = holds_more (MayLeave medium fallen.disk) here.count fallen.doubt node known here.holds;
  }
  posted_more Between node known here = absurd here

  -- a server stands where its clients have these names, and one more
  pub more_names : (server : ServerNode D) (node : Node (List Commit)) (n : ℕ) → ServerStands medium names server node n
      → ServerStands medium (names ++ name ∷ []) server node n
  more_names server node n here = record {
    post = posted_more server.post node here.known here.post;
    known = record {
      durable = known_more names name node.durable here.known.durable;
      doubt = if_so _ _ (known_more names name) node.doubt here.known.doubt;
      longer = here.known.longer;
    };
    answered = here.answered;
  }
