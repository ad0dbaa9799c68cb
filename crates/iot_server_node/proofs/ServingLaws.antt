-- What the server replies to a request for objects and to a submission.
use Rattle.std.proofs.{Common.cond, Common.length-append, Common.map, Common.slice_get, Common.◌-◌, lemmas.Bool.le-leb, lemmas.Bool.lt-leb}
use Rattle.std.proofs.lemmas.{Bool.Decides.nat_tests, Iterator.Adapters.position_from-zero, List.append-nil, Option.slice_get_cases}
use Rattle.{std.specs.List.list_any, std.specs.List.position_from, iot_access.specs.Access.TakesPlace, iot_access.specs.Access.lines_of}
use Rattle.iot_acts.specs.{Traces.ActsHold, Traces.ReadsHold, Traces.after_acts, Turns.DiffersAt, Turns.reads_of, Turns.turns}
use Rattle.{iot_certify.proofs.AccessLaws.judges as judges_acts, iot_exec.specs.Serial.run_entry}
use Rattle.{iot_hoard.proofs.TakingLaws.pick_is, iot_hoard.specs.Picking.picked, iot_judging.proofs.JudgingLaws.access_there}
use Rattle.iot_judging.proofs.JudgingLaws.{certified, differs_some, parts_there, parts_within, refused, same_there, takes_place_of}
use Rattle.iot_judging.proofs.{ListsLaws.IsStamped, ListsLaws.list_stamped, RunTreesLaws.list_tree, RunTreesLaws.list_whole}
use Rattle.iot_judging.specs.{Errands.IsErrand, Errands.changes_to, Errands.request_for, Verdicts.SpellsVerdict}
use Rattle.iot_machine.proofs.{KeptLaws.kept_added, StepsLaws.also, StepsLaws.answers, StepsLaws.at_each, StepsLaws.at_one, StepsLaws.gets}
use Rattle.iot_machine.{proofs.StepsLaws.quiet, proofs.StepsLaws.says_this, specs.Calls.Then}
use Rattle.iot_machine.specs.Serving.{Conflict, Judges, Lends, Refresh, Settled, Walk, committed, lent, number_of}
use Rattle.{iot_machine.specs.Texts.acts_output, iot_node.specs.Keeping.Appended}
use Rattle.{iot_node.specs.Keeping.Doubts, iot_node.specs.Posts.StepsFrom, iot_node.specs.Posts.UpStands, iot_server.specs.Replies.Answers}
use Rattle.iot_server_node.proofs.Common.{Access, Appends, AreOf, Both, Call, CanFollow, Commit, Cuts}
use Rattle.iot_server_node.proofs.Common.{Differs, Disks, EachIs, EachStarts, Encoded, Err, Handles, HavingAnswered, Holds, If, IsAnswered}
use Rattle.iot_server_node.proofs.Common.{IsEither, IsGrown, IsKnown, IsMessage, IsRequest, KeepsList, Label, Leads, List, MayLeave}
use Rattle.iot_server_node.proofs.Common.{Medium, Node, None, Option, Post, PostStands, Refuses, Reply, Request, Served, ServerIsSound}
use Rattle.iot_server_node.proofs.Common.{ServerKeeper, ServerNode, Some, State, StepsTo, Submits, Two, add_commit, after_commit}
use Rattle.iot_server_node.proofs.Common.{ap, arith, asks, bind, changed, commit_text, disks_in, false, images_of, inl, inr, is_on}
use Rattle.iot_server_node.proofs.Common.{kept_text, label_of, length, lists, number_in, on_both, option_map, refl, request_spelling, rules}
use Rattle.iot_server_node.proofs.Common.{server_name, state_is, state_of, subst, sym, tree_after, true, ℕ, [], ◌++◌, ◌+◌, ◌∙◌, ◌∷◌, ◌≡◌}
use Rattle.iot_server_node.proofs.{CountsLaws.failed_counts, KeepersLaws.as_many, KeepersLaws.both_map, KeepersLaws.cut_images}
use Rattle.iot_server_node.proofs.ServersLaws.{answered_off, known_stopped, live, recorded, stands_longer, stands_still}
use Rattle.iot_server_node.specs.Messages.{SpellsCut, committed_since, printed_under, said_of}
use Rattle.iot_server_node.specs.Prelude.{Errand, IsTree, Stamps, Submission, commit_line, nodes_of}
use Rattle.iot_server_node.specs.Servers.{IsHanded, IsNamedIn, ServesBy, count_of, stamps_of}
use Rattle.{iot_server_node.specs.declared.message.Message.Message, iot_stamp.specs.Refresh.changes_on}
use Rattle.iot_store.{proofs.NumbersLaws.is_old_from, specs.declared.commit.Commit.Commit as Noted}
use Rattle.iot_tree.specs.{Snapshots.has, Tree.IsWhole, Tree.Path, declared.acts.Read.Read}
use Rattle.iot_wire.{proofs.MessagesLaws.call_one, proofs.SpellingLaws.request_laws, specs.Meanings.Spells, specs.Messages.IsOneMessage}
use Rattle.iot_disk.specs.declared.faults.JournalFault.TheVariants as append
use Rattle.iot_server.specs.Servers as servers
use Rattle.iot_wire.specs.declared.replies.Reply.TheVariants as replies
use Rattle.iot_machine.specs.Serving as serving
use Rattle.iot_store.specs.States as store
use Rattle.iot_wire.specs.declared.requests.Request.TheVariants as requests

-- the bytes of a message are the spelling of one request at most
pub one_request : (message : Message) → IsOneMessage IsRequest request_spelling message.request.items
one_request message = call_one _ _ _ request_laws message.request.items (omega (arith, message.request.ok, message.request.small))

-- ---- a request that was handled

module _ {D : Type 0} {medium : Medium D} (message : Message) (served : Served) {was now : ServerKeeper D}
    (it : Handles medium message.request.items served.reply.items was now) where
  -- the reply is to what the bytes spell
  pub answers_it : {request : Request} → IsMessage IsRequest request_spelling message.request.items request
      → Both medium (λ old new. IsAnswered (servers.state_of was.server) old request served.reply.items (servers.state_of now.server) new)
      was now
  answers_it asked = both_map it.handled (λ old new handled. rw (one_request message _ _ handled.is asked) at handled.answered)

  module _ (counted : served.committed ≡ committed_since (count_of (live was)) (count_of (live now))) where
    -- what is to be said, by the state after it
    pub said_by : {after : State} → servers.state_of now.server ≡ after
        → said_of served.committed message.handed
        ≡ said_of (committed_since (length (servers.state_of was.server).labels) (length after.labels)) message.handed
    said_by made =
        (λ i. said_of (counted i) message.handed)
        ∙ (λ i. said_of (committed_since (length (servers.state_of was.server).labels) (length (made i).labels)) message.handed)

    -- nothing is said by a server that has as many commits as before
    pub still_silent : servers.state_of now.server ≡ servers.state_of was.server → said_of served.committed message.handed ≡ []
    still_silent made = let n : ℕ = length (servers.state_of was.server).labels in rw (le-leb n n (omega arith)) at (said_by made)

-- ---- a request for objects

-- it appends nothing
no_commit : (client : ℕ) (held : Stamps) (errand : Errand) (label : Label) (access : Access) (lines : List (List ℕ))
    → requests.Commit label access lines ≡ request_for client held errand → ⊥
no_commit client held (Refresh want) label access lines same = absurd cc
no_commit client held (Walk profile limit) label access lines same = absurd cc

-- so all is the same after it
errand_leaves : {before after : State} {was now : Encoded} {bytes : List ℕ} (client : ℕ) (held : Stamps) (errand : Errand)
    → IsAnswered before was (request_for client held errand) bytes after now → (after ≡ before) × (now ≡ was)
errand_leaves client held (Refresh want) it = (it.answers.1, it.encodes)
errand_leaves client held (Walk profile limit) it = (it.answers.3, it.encodes)

-- the server of a list answers it by what its tree has for it
errand_cut : {before after : State} {was now : Encoded} {bytes : List ℕ} (commits : List Commit) → before ≡ state_of commits → (client : ℕ)
    (held : Stamps) (errand : Errand) → IsAnswered before was (request_for client held errand) bytes after now
    → SpellsCut before.stamps held errand bytes (lent (nodes_of held) errand before.tree)
errand_cut {before} {bytes = bytes} commits is client held errand it = record {
  spelled = subst (Spells bytes) (by _ errand it.reply it.answers) it.spelled;
  tree = subst IsTree (sym stamped.nodes) stamped.tree;
  whole = subst IsWhole (sym stamped.nodes) stamped.whole;
  cut = ap (lent (nodes_of held) errand) (sym stamped.nodes);
}
  where
    stamped : IsStamped before.tree before.stamps (length commits)
    stamped = rw is (list_stamped commits)

    by : (after : State) (errand : Errand) (reply : Reply) → Answers before (request_for client held errand) reply after
        → reply ≡ replies.Objects (changes_to before.stamps held errand)
    by after (Refresh want) reply told = told.0
    by after (Walk profile limit) reply told =
        told.2
        ∙ ap (λ (k : List Path). replies.Objects (changes_on before.stamps [] (has k)))
        (pick_is before.tree profile limit told.1 ∙ (λ i. picked (sym stamped.nodes i) profile limit))

module _ {D : Type 0} (medium : Medium D) (message : Message) (client : ℕ) (held : Stamps) (errand : Errand)
    (asks : IsErrand client held errand message.request.items) where
  -- what its tree has for it, and with that its tree cut down to this
  pub lends : (names : List (List ℕ)) (served : Served) {was now : ServerKeeper D} {y : List ℕ} → ServerIsSound medium (live was)
      → Handles medium message.request.items served.reply.items was now
      → served.committed ≡ committed_since (count_of (live was)) (count_of (live now))
      → ServesBy medium names (Lends (nodes_of held) errand) (SpellsCut (stamps_of (live was)) held errand) message.handed (Some served)
      (live was) (live now) y y
  lends names served {was} {now} sound it counted =
      let both = answers_it message served it asks in
      let same = (errand_leaves client held errand both.first).0 in (
        refl,
        (
          lent (nodes_of held) errand (servers.state_of was.server).tree,
          errand_cut sound.node.durable sound.stands.post.stands.has_state client held errand both.first,
          λ n x.
              rw (still_silent message served it counted same, append-nil x) (gets (λ node here. (
                rw here.post.stands.has_state refl,
                stands_still medium names it here (both_map both (λ old new told. (errand_leaves client held errand told).1)) same,
              ))),
        ),
      )

  -- and its stamps stay
  pub stays_stamped : (served : Served) {was now : ServerKeeper D} → Handles medium message.request.items served.reply.items was now
      → stamps_of (live now) ≡ stamps_of (live was)
  stays_stamped served it = ap (λ (s : State). s.stamps) (errand_leaves client held errand (answers_it message served it asks).first).0

  -- it does not stop in that, since it appends nothing
  pub lends_always : {was now : ServerKeeper D} → Refuses medium message.request.items append.Stopped was now → ⊥
  lends_always refused = no_commit client held errand _ _ _ (one_request message _ _ refused.why.0.asked asks)

-- ---- a submission

-- ---- the number of a transaction

-- a label is of a transaction if its commit is
same_of : (commit other : Commit) → store.is_of commit.entry.client commit.entry.number (label_of other) ≡ serving.is_of commit other
same_of commit other = grind (arith, nat_tests)

found_from : (commit : Commit) (commits : List Commit) (i : ℕ)
    → position_from (store.is_of commit.entry.client commit.entry.number) i (map label_of commits)
    ≡ position_from (serving.is_of commit) i commits
found_from commit [] i = refl
found_from commit (other ∷ commits) i = λ j. cond (same_of commit other j) (Some i) (found_from commit commits (i + 1) j)

-- it has the same number among the labels
number_among : (commit : Commit) (commits : List Commit)
    → number_in (map label_of commits) commit.entry.client commit.entry.number ≡ number_of commit commits
number_among commit commits =
    ap (option_map (λ place. place + 1))
    (position_from-zero (store.is_of commit.entry.client commit.entry.number) (map label_of commits) ∙ found_from commit commits 0
    ∙ sym (position_from-zero (serving.is_of commit) commits))

-- one that is not among the labels has none there
not_listed : (labels : List Label) (client tid : ℕ) → list_any (store.is_of client tid) labels ≡ false → number_in labels client tid ≡ None
not_listed labels client tid none = by (number_in labels client tid) refl
  where
    by : (found : Option ℕ) → number_in labels client tid ≡ found → found ≡ None
    by None is = refl
    by (Some n) is = absurd (is_old_from labels client tid n is none)

-- ---- what is encoded after a submission

-- a commit makes another state
other_state : (before : State) (label : Label) (access : Access) → after_commit before label access ≡ before → ⊥
other_state before label access same = omega (arith, ap (λ (s : State). length s.labels) same, length-append before.labels (label ∷ []))

-- ---- a message that hands one in

module _ {message : Message} {it : Submission} (hands : IsHanded message it) where
  open hands use {label, acts, access, submission as is}
  open it.commit.entry use {script, kept, budget}

  -- on the tree of a list the access may take the place of the acts
  takes_there : (commits : List Commit) → TakesPlace access.reads access.places access.updates acts (tree_after commits)
  takes_there commits =
      rw is.has_access
      (takes_place_of script kept budget is.base is.base acts is.has_acts is.tree _ (list_tree commits) (list_whole commits))

  -- a live server with a list
  module _ {D : Type 0} {medium : Medium D} {was : ServerKeeper D} {count : ℕ} {commits : List Commit}
      (keeps : KeepsList medium was count commits) where
    counted_there : length (servers.state_of was.server).labels ≡ length commits
    counted_there = as_many keeps ∙ keeps.counted

    module _ (hold : ReadsHold (servers.state_of was.server).tree access.reads) where
      reads_there : ReadsHold (tree_after commits) access.reads
      reads_there = rw keeps.has_state at hold

      hold_there : ActsHold (tree_after commits) acts
      hold_there = (takes_there commits).exactly.0 reads_there

      -- its script does the same there
      does_same : run_entry it.commit.entry (tree_after commits)
          ≡ record { acts = acts; tree = after_acts (tree_after commits) acts; ended = (run_entry it.commit.entry is.base).ended }
      does_same = same_there script kept budget is.base (tree_after commits) acts is.has_acts (list_tree commits) hold_there

      are : AreOf it.commit (tree_after commits) label access (lines_of acts)
      are = record {
        has_label = is.has_label;
        has_access =
            access_there script kept budget is.base (tree_after commits) acts is.has_acts is.tree (list_tree commits) hold_there
            (rw is.has_access at reads_there) ∙ sym is.has_access;
        has_lines = (λ i. lines_of (does_same i).acts);
        made = (λ i. (does_same i).tree) ∙ sym ((takes_there commits).after hold_there);
        spelled = is.spelled;
      }

      -- what is said of it
      says_it : {number : ℕ} → number ≡ length (servers.state_of was.server).labels
          → printed_under (number + 1) message.handed ≡ commit_text it.name it.commit commits
      says_it {number} counts =
          ap (printed_under (number + 1)) hands.handed
          ∙ (λ i. commit_line ((counts ∙ counted_there) i + 1) (sym is.name i) (sym is.has_label i).way
          ++ acts_output (sym does_same i).acts)

  -- its commit was cut off
  module _ {D : Type 0} {medium : Medium D} (was now : ServerKeeper D) (cut : Cuts medium message.request.items was now) where
    its_noted : ◌≡◌ {A = Noted} (record { label = label; access = access; lines = lines_of acts })
        (record { label = cut.label; access = cut.access; lines = cut.lines })
    its_noted = let same = one_request message _ _ cut.asked hands.asked in cc

    follows : CanFollow (servers.state_of was.server) label access
    follows = subst (λ (c : Noted). CanFollow (servers.state_of was.server) c.label c.access) (sym its_noted) cut.follows

    module _ {count : ℕ} {commits : List Commit} (keeps : KeepsList medium was count commits) where
      there_are : AreOf it.commit (tree_after commits) label access (lines_of acts)
      there_are = are keeps follows.holds

      -- each image has the list without it, or is in its midst
      either_list : If (λ s. EachStarts (medium.may_leave (servers.disk_of now.server)) (images_of medium s)) (servers.second_of now.server)
          → EachIs (MayLeave medium (disks_in now)) (λ image. IsEither (lists medium) image count commits (add_commit it.commit commits))
      either_list =
          cut_images keeps now cut
          (subst (λ (c : Noted). AreOf it.commit (tree_after commits) c.label c.access c.lines) its_noted there_are)

      -- the state of the list is that before it, and it leads to the state after it
      leads_on : Leads (rules Two) (message.request.items ∷ []) (state_of commits) (state_of (add_commit it.commit commits))
      leads_on = (
        record { label = label; access = access; lines = lines_of acts },
        hands.asked,
        rw keeps.has_state at follows,
        state_is commits there_are,
      )

  module _ {D : Type 0} (medium : Medium D) (names : List (List ℕ)) (named : IsNamedIn names it) where
    is_known : IsKnown names it.commit
    is_known = record { spelled = is.spelled; client = named.client }

    module _ (was : ServerKeeper D) where
      -- a step of this server
      abbrev Steps : {A : Type 0} → (n k : ℕ) → Call (Node (List Commit)) A → ServerNode D → (x y : List ℕ) → A → Type 0
      Steps n k call new x y a = StepsTo (HavingAnswered medium names n) (HavingAnswered medium names k) call (live was) new x y a

      -- it is judged by its number
      by_number : {n k : ℕ} {new : ServerNode D} {x y : List ℕ} {verdict : Option serving.Verdict} (found : Option ℕ)
          → number_in (servers.state_of was.server).labels label.client label.tid ≡ found
          → Steps n k (serving.judged it found) new x y verdict → Steps n k (Judges it) new x y verdict
      by_number found listed judged =
          bind {a = found} (asks (λ node here.
          sym listed
          ∙ (λ i. number_in (here.post.stands.has_state i).labels (sym is.has_label i).client (sym is.has_label i).tid)
          ∙ number_among it.commit node.durable)) judged

      -- one that holds is certified: it is to be appended, and says so
      judged_well : {n k : ℕ} {new : ServerNode D} {x y : List ℕ} {verdict : Option serving.Verdict} {number : ℕ}
          → number_in (servers.state_of was.server).labels label.client label.tid ≡ None
          → ReadsHold (servers.state_of was.server).tree access.reads → number ≡ length (servers.state_of was.server).labels
          → Steps n k
          (Then (Appends server_name (add_commit it.commit)) (committed (printed_under (number + 1) message.handed))) new x y verdict
          → Steps n k (Judges it) new x y verdict
      judged_well {number = number} none hold numbered appends =
          let commits =
          bind {a = (printed_under (number + 1) message.handed)}
          (asks (λ node here. says_it here.post.stands hold numbered)) appends in
          by_number None none (at_each (λ node here.
          also (λ text after.
          certified it node is.base acts is.has_acts is.reads (list_tree node.durable) text _ after (hold_there here.post.stands hold))
          (at_one commits here)))

    -- it is judged
    module _ (served : Served) (y : List ℕ) {was now : ServerKeeper D}
        (done : Handles medium message.request.items served.reply.items was now)
        (counted : served.committed ≡ committed_since (count_of (live was)) (count_of (live now)))
        (sound : ServerIsSound medium (live was)) where
      takes_here : TakesPlace access.reads access.places access.updates acts (servers.state_of was.server).tree
      takes_here = rw sound.stands.post.stands.has_state (takes_there sound.node.durable)

      abbrev Serves : Type 0
      Serves = ServesBy medium names (Judges it) (SpellsVerdict it.reads) message.handed (Some served) (live was) (live now) y y

      both : Both medium (λ old new. IsAnswered (servers.state_of was.server) old (requests.Commit label access (lines_of acts))
          served.reply.items (servers.state_of now.server) new) was now
      both = answers_it message served done hands.asked

      -- what both disks encode, by the state after it
      same_by : servers.state_of now.server ≡ servers.state_of was.server → Both medium (λ old new. new ≡ old) was now
      same_by made =
          both_map both (λ old new told. elim (recorded told) [
            | inl same ↦ same.1
            | inr more ↦ absurd (other_state (servers.state_of was.server) label access (sym more.1 ∙ made))
          ])

      grown_by : servers.state_of now.server ≡ after_commit (servers.state_of was.server) label access
          → Both medium (λ old new. IsGrown old (servers.state_of was.server)
          (record { label = label; access = access; lines = lines_of acts }) new) was now
      grown_by made =
          both_map both (λ old new told. elim (recorded told) [
            | inl same ↦ absurd (other_state (servers.state_of was.server) label access (sym made ∙ same.0))
            | inr more ↦ more.2
          ])

      spelled : {reply : Reply} → both.first.reply ≡ reply → Spells served.reply.items reply
      spelled replied = rw replied at both.first.spelled

      -- this is the verdict, and this is to be said
      serves : (verdict : serving.Verdict) {said : List ℕ} → SpellsVerdict it.reads served.reply.items verdict
          → said_of served.committed message.handed ≡ said
          → ((n : ℕ) (x : List ℕ) → Steps was n (n + 1) (Judges it) (live now) x (x ++ said) (Some verdict)) → Serves
      serves verdict spells said steps = (refl, (verdict, spells, λ n x. rw said (steps n x)))

      by_found : (found : Option ℕ) → number_in (servers.state_of was.server).labels label.client label.tid ≡ found
          → Submits found (servers.state_of was.server) label access both.first.reply (servers.state_of now.server) → Serves
      by_found (Some number) listed (replied, made) =
          serves (Settled number) (inr (spelled replied)) (still_silent message served done counted made) (λ n x.
          rw (append-nil x) (by_number was (Some number) listed (answers (λ node here.
          stands_still medium names done here (same_by made) made))))
      by_found None none (Holds, holds, inl (fit, replied, made)) =
          let number : ℕ = length (servers.state_of was.server).labels in
          let more : length (after_commit (servers.state_of was.server) label access).labels ≡ number + 1 =
          length-append (servers.state_of was.server).labels (label ∷ []) in
          serves (Settled (number + 1)) (inl (spelled replied))
          (rw (more, lt-leb (number + 1) number (omega arith)) at (said_by message served done counted made)) (λ n x.
          judged_well was none holds refl
          (bind {a = true}
          (at_each (λ node here.
          quiet (changed (add_commit it.commit) node) (inl (refl, refl, refl))
          (stands_longer medium names done here (are here.post.stands holds) (grown_by made) made is_known)))
          (bind {a = tt} (says_this refl)
          (asks (λ node here.
          ap (λ (k : ℕ). Some (Settled k))
          (sym more ∙ ap (λ (s : State). length s.labels) (sym made) ∙ counted_there here.post.stands))))))
      by_found None none (Holds, holds, inr (misfit, replied, made)) = absurd (misfit (takes_here.fit (takes_here.exactly.0 holds)))
      by_found None none (Differs place answer, judged, (replied, made)) =
          let differs =
          differs_some (turns (servers.state_of was.server).tree acts) 1 place
          (judges_acts (servers.state_of was.server).tree access acts (Differs place answer) takes_here judged) in
          let within =
          parts_within (reads_of acts) _ place differs.0
          (parts_there script kept budget is.base _ acts is.has_acts place differs.0 differs.1) in
          let found : (read : Read) × (slice_get it.reads (place - 1) ≡ Some read) =
          elim (slice_get_cases it.reads (place - 1)).1 [
            | inl there ↦ (there.0, there.2)
            | inr past ↦ absurd (omega (arith, within.1, past.0, ap length is.reads))
          ] in
          serves (Conflict place found.0.question)
          (found.0, record { answer = answer; spelled = spelled replied; first = within.0; at = found.1 }, refl)
          (still_silent message served done counted made) (λ n x.
          rw (append-nil x) (by_number was None none (at_each (λ node here.
          quiet node
          (refused it node is.base acts is.has_acts is.reads (list_tree node.durable) place differs.0 found.0
          (subst (λ (s : State). DiffersAt (turns s.tree acts) 1 place differs.0) here.post.stands.has_state differs.1) found.1)
          (stands_still medium names done here (same_by made) made)))))

      pub judges : Serves
      judges = by_found _ refl both.first.answers

    -- the server stops as it commits it
    pub judges_stopped : {was now : ServerKeeper D} {new : Post (ServerKeeper D) (Disks D)} {number : ℕ} {x y : List ℕ}
        → Refuses medium message.request.items append.Stopped was now → number ≡ count_of (live was)
        → ((change : List Commit → List Commit) (node : Node (List Commit))
        → UpStands (lists medium) (on_both medium) (kept_text names) was node
        → Appended (lists medium) (on_both medium) {T = Unit {0}} change node.durable was now (Err append.Stopped)
        → Doubts (lists medium) (kept_text names) change was (record { count = number; lines = printed_under (number + 1) message.handed })
        → StepsFrom (PostStands (lists medium) (on_both medium) (kept_text names)) (Appends server_name change) node new x y false)
        → is_on new ≡ false
        → ServesBy medium names (Judges it) (SpellsVerdict it.reads) message.handed None (live was) (record { post = new }) x y
    judges_stopped {was} {now} {new} refused counts stops off =
        let cut = refused.why.0 in
        let after = follows was now cut in
        λ n.
        judged_well was (not_listed _ label.client label.tid after.is_new) after.holds counts
        (bind {Q = HavingAnswered medium names n} {v = record { post = new }} {a = false}
        (record {
          step = λ node here.
              let s = stops (add_commit it.commit) node here.post (
                (λ k keeps. either_list was now cut keeps refused.restarts),
                failed_counts medium refused.arms refused.why.1,
              )
              (record {
                count = λ k commits keeps. counts ∙ as_many keeps;
                lines = λ k commits keeps.
                    says_it keeps after.holds counts ∙ ap (λ (name : List ℕ). commit_text name it.commit commits) named.name
                    ∙ sym (kept_added names commits it.commit);
              }) in
              let known = known_stopped names it.commit node s.1 s.0 message.request.items is_known
              (leads_on was now cut here.post.stands) s.3 here.known in
              (s.0, s.1, s.2, s.3, record { post = s.4; known = known; answered = answered_off new n off });
        })
        (answers (λ node here. here)))
