-- From which states each image of the server's disks goes on.
use Rattle.iot_disk.specs.declared.faults.JournalFault.{JournalFault}
use Rattle.{iot_durable.proofs.StandingLaws.leads_push, iot_server.specs.Faults.Stays}
use Rattle.iot_server_node.proofs.Common.{Access, CanFollow, Commit, Cuts, Disks, EachStays, Encoded, Handles, If, Image}
use Rattle.iot_server_node.proofs.Common.{IsAnswered, IsImage, IsMessage, IsRequest, KeepsCommits, Label, Lasts, Leads, List, Medium, Node}
use Rattle.iot_server_node.proofs.Common.{NodeIsKnown, Option, Post, PostStands, Refuses, Request, ServerIsSound, ServerKeeper, ServerNode}
use Rattle.iot_server_node.proofs.Common.{ServerStands, Some, StandFor, State, Storing, Two, Up, after_commit, disk_of, disks_in, if_so}
use Rattle.iot_server_node.proofs.Common.{images_of, inl, inr, kept_text, lists, next, on_both, reads_may_leave, refl, request_spelling}
use Rattle.iot_server_node.proofs.Common.{rules, second_stays, state_of, state_on, store_stays, sym, ℕ, [], ◌++◌, ◌∷◌, ◌≡◌}
use Rattle.iot_server_node.proofs.{PairsLaws.server_so, PairsLaws.so_as, ServersLaws.lasts, ServersLaws.recorded}
use Rattle.iot_server_node.specs.Keepers.{RefusesFor}
use Rattle.iot_server_node.specs.{Records.DiskGoesOn, Records.EachGoesOn, Records.GoesOnFrom, Records.KeepsRecords, Servers.IsOneMore}
use Rattle.iot_store.{proofs.PartsLaws.changes_if, proofs.StandingLaws.store_alone, specs.Records.IsRecord, specs.Standing.EachStandsEither}
use Rattle.iot_disk.specs.declared.faults.JournalFault.TheVariants as append
use Rattle.iot_node.specs.Posts as posts
use Rattle.iot_server.specs.Servers as servers
use Rattle.iot_wire.specs.declared.requests.Request.TheVariants as requests

-- ---- one image

-- an image of a list goes on from its state
pub own_goes_on : (bytes : List ℕ) (n : ℕ) (commits : List Commit) → IsImage bytes n commits → GoesOnFrom (state_of commits) bytes
own_goes_on bytes n commits image = record { state = state_of commits; stands = image.stands; records = []; leads = refl }

-- and from the state of a list than which it has one commit more
pub image_goes_on : (bytes : List ℕ) (n : ℕ) (commits longer : List Commit) → IsOneMore commits longer → IsImage bytes n longer
    → GoesOnFrom (state_of commits) bytes
image_goes_on bytes n commits longer more image =
    record { state = state_of longer; stands = image.stands; records = more.body ∷ []; leads = more.leads }

module _ {P : Type 0} (medium : Storing P Image) where
  -- ---- what it keeps

  pub records_same : (old new : Option P) → new ≡ old → KeepsRecords medium old new
  records_same old new same = record { keeps = λ from had. rw same had }

  pub records_then : (old mid new : Option P) → KeepsRecords medium old mid → KeepsRecords medium mid new → KeepsRecords medium old new
  records_then old mid new one other = record { keeps = λ from had. other.keeps from (one.keeps from had) }

module _ {D : Type 0} (medium : Medium D) where
  -- what its disks hold goes on from what is durable
  pub lasts_go_on : (names : List (List ℕ)) (post : Post (ServerKeeper D) (Disks D)) (node : Node (List Commit)) → NodeIsKnown names node
      → Lasts (lists medium) (on_both medium) post node.durable node.doubt
      → DiskGoesOn (on_both medium) (state_of node.durable) (posts.disk_of disks_in post)
  lasts_go_on names post node known it =
      rw it.has
      (record {
        each = λ image there. elim (it.each.each image there) [
          | inl is ↦ so_as is (λ i. own_goes_on i it.count node.durable) (λ i j. own_goes_on j it.count node.durable)
          | inr more ↦
              let one = rw more.1 at known.longer in
              let goes_on = λ (j : List ℕ). image_goes_on j (next it.count) node.durable more.0 one in
              so_as more.2 goes_on (λ i j so. elim so [
                | inl lacks ↦ own_goes_on j it.count node.durable lacks.image
                | inr has ↦ goes_on j has
              ])
        ];
      })

  -- the disks of a server go on from the state of its list
  pub stands_go_on : (names : List (List ℕ)) (server : ServerNode D) (node : Node (List Commit)) (n : ℕ)
      → ServerStands medium names server node n → DiskGoesOn (on_both medium) (state_of node.durable) (disk_of server)
  stands_go_on names server node n here = lasts_go_on names server.post node here.known (lasts medium names server node n here)

  -- and still does
  module _ (old new : ServerNode D) where
    pub commits_last : ((says : List Commit → List Commit → List ℕ) (node : Node (List Commit))
        → PostStands (lists medium) (on_both medium) says old.post node
        → Lasts (lists medium) (on_both medium) new.post node.durable node.doubt)
        → KeepsCommits medium old new
    commits_last still =
        record { keeps = λ names node n here. lasts_go_on names new.post node here.known (still (kept_text names) node here.post) }

    pub commits_kept : KeepsRecords (on_both medium) (disk_of old) (disk_of new) → KeepsCommits medium old new
    commits_kept it = record { keeps = λ names node n here. it.keeps (state_of node.durable) (stands_go_on names old node n here) }

    pub commits_same : disk_of new ≡ disk_of old → KeepsCommits medium old new
    commits_same same = commits_kept (records_same (on_both medium) (disk_of old) (disk_of new) same)

-- ---- a request

module _ {D : Type 0} (medium : Medium D) (is_image : (disk : D) → medium.may_leave disk (medium.reads disk)) {old : ServerNode D}
    (was now : ServerKeeper D) (is : old.post ≡ Up was) (sound : ServerIsSound medium old) where
  -- a server on whose disks nothing is under way
  module _ (from : State) (had : EachGoesOn (on_both medium) from (disks_in was)) where
    abbrev before : State
    before = servers.state_of was.server

    abbrev GoesOn : Type 0
    GoesOn = EachGoesOn (on_both medium) from (disks_in now)

    -- records lead from there to its state, for which alone its disk stands
    leads_here : (records : List (List ℕ)) × Leads (rules Two) records from before
    leads_here =
        let first = (had.each _ (reads_may_leave medium is_image (disks_in was))).disk in
        let same = store_alone medium (servers.store_of was.server) (rw is at sound.stands.post).stands.synced _ first.stands in
        (first.records, rw same at first.leads)

    same_on : {bytes : List ℕ} → StandFor bytes before → GoesOnFrom from bytes
    same_on stands = record { state = before; stands = stands; records = leads_here.0; leads = leads_here.1 }

    -- and a commit that can follow goes on from there
    more_on : {bytes body : List ℕ} {label : Label} {access : Access} {lines : List (List ℕ)} → IsRecord body label access lines
        → CanFollow before label access → StandFor bytes (after_commit before label access) → GoesOnFrom from bytes
    more_on {body = body} {label} {access} {lines} is follows stands = record {
      state = after_commit before label access;
      stands = stands;
      records = leads_here.0 ++ body ∷ [];
      leads =
          leads_push (rules Two) leads_here.0 from before body
          (record { label = label; access = access; lines = lines }) leads_here.1 is follows;
    }

    -- bytes that stand for the state after a request
    answered_on : {asked reply : List ℕ} {encoded later : Encoded} (request : Request) {bytes : List ℕ}
        → IsMessage IsRequest request_spelling asked request
        → IsAnswered before encoded request reply (servers.state_of now.server) later
        → StandFor bytes (servers.state_of now.server) → GoesOnFrom from bytes
    answered_on (requests.Refresh client known want) is answered stands = same_on (rw (sym answered.answers.1) stands)
    answered_on (requests.Walk client profile limit) is answered stands = same_on (rw (sym answered.answers.3) stands)
    answered_on (requests.Commit label access lines) is answered stands = elim (recorded answered) [
      | inl same ↦ same_on (rw (sym same.0) stands)
      | inr more ↦ more_on is more.0 (rw (sym more.1) stands)
    ]

    -- what is so of each image of both disks
    each_on : ((i : List ℕ) → medium.may_leave (servers.disk_of now.server) i → GoesOnFrom from i)
        → If (λ s. (j : List ℕ) → images_of medium s j → GoesOnFrom from j) (servers.second_of now.server) → GoesOn
    each_on first second = record { each = λ image. (server_so medium now (λ i at. (first i at, second))).each image }

    handled_on : {asked reply : List ℕ} → Handles medium asked reply was now → GoesOn
    handled_on it =
        let done = it.handled.first in
        each_on (λ i there. answered_on done.request done.is done.answered
        ((store_stays medium (servers.store_of now.server) it.synced).stands.each i there).stands)
        (if_so (λ s. EachStays (images_of medium s) (servers.count_of now.server) (state_on medium s) (servers.state_of now.server))
        _ (λ s stays j there. answered_on done.request done.is done.answered (stays.stands.each j there).stands)
        (servers.second_of now.server) (second_stays medium (servers.store_of now.server) it.synced))

    -- all stays
    stays_on : Stays medium (servers.store_of was.server) (servers.store_of now.server) → GoesOn
    stays_on it =
        each_on (λ i there. same_on (it.first.stands.each i there).stands)
        (changes_if (λ old new. EachStays (images_of medium new) (servers.count_of was.server) (state_on medium old) before) _
        (λ old new stays j there. same_on (stays.stands.each j there).stands) (servers.second_of was.server)
        (servers.second_of now.server) it.second)

    -- a commit was cut off
    cut_on : {asked : List ℕ} → Cuts medium asked was now → GoesOn
    cut_on it =
        each_on (either_on it.either)
        (changes_if (λ old new. EachStandsEither (images_of medium new) (servers.count_of was.server) before
        (after_commit before it.label it.access)) _ (λ old new. either_on) (servers.second_of was.server) (servers.second_of now.server)
        it.second_either)
      where
        either_on : {images : List ℕ → Type 0}
            → EachStandsEither images (servers.count_of was.server) before (after_commit before it.label it.access) → (j : List ℕ)
            → images j → GoesOnFrom from j
        either_on either j there =
            elim (either.each j there) [ inl same ↦ same_on same.stands | inr more ↦ more_on it.asked it.follows more.stands ]

    refused_by : (asked : List ℕ) (fault : JournalFault) → RefusesFor medium asked fault was now → GoesOn
    refused_by asked append.NoMemory lacks = elim lacks.either [ inl kept ↦ stays_on kept | inr cut ↦ cut_on cut ]
    refused_by asked append.Stopped stops = cut_on stops.0

  pub handled_records : {asked reply : List ℕ} → Handles medium asked reply was now
      → KeepsRecords (on_both medium) (disk_of old) (Some (disks_in now))
  handled_records it = record { keeps = λ from had. handled_on from (rw is at had) it }

  pub refused_records : {asked : List ℕ} {fault : JournalFault} → Refuses medium asked fault was now
      → KeepsRecords (on_both medium) (disk_of old) (Some (disks_in now))
  refused_records {asked} {fault} it = record { keeps = λ from had. refused_by from (rw is at had) asked fault it.why }
