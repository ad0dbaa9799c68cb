-- The server as a node, alive or down: for which node of the machine it stands, and what it does.
use Rattle.std.specs.List.{AllByRecursion}
use Rattle.std.specs.Prelude.{map, slice_index_or, ◌%◌, ◌++◌, ◌+◌, ◌<◌, ◌^◌, ◌∷◌, ◌≡◌}
use Rattle.iot_access.specs.Access.{access_of, lines_of}
use Rattle.{iot_acts.specs.Turns.reads_of, iot_exec.specs.Serial.run_entry, iot_judging.specs.Entries.IsSpelledEntry}
use Rattle.iot_machine.specs.{Calls.Call, Nodes.armed, Nodes.arming_as, Recorded.label_of, Stops.ComesBackAs}
use Rattle.iot_machine.specs.Texts.{acts_output, promote_words, transaction_name}
use Rattle.iot_node.specs.{Posts.PostStands, Posts.is_on, Posts.live_of, declared.lines.Transaction.Transaction}
use Rattle.iot_node.specs.declared.post.{Doubt.Doubt, Post.Post, Post.TheVariants.Down, Post.TheVariants.Up}
use Rattle.iot_server.specs.declared.server.Server.{Server}
use Rattle.iot_server_node.specs.Disks.{HavePlaces, on_both, placed, sides, sides_of, turned}
use Rattle.iot_server_node.specs.{Keepers.disks_in, Keepers.lists, Keepers.traffic_in, Messages.said_of}
use Rattle.iot_server_node.specs.Prelude.{Arms, Bool, Commit, Disks, Handed, If, IsEmpty, IsMessage}
use Rattle.iot_server_node.specs.Prelude.{IsRequest, IsTree, KeepsDisk, Leads, List, Medium, Node, Nodes, None, Option, Pick, ServerKeeper}
use Rattle.iot_server_node.specs.Prelude.{Some, Stamps, State, StepsTo, Submission, Two, armed_with, false, is_some, kept_text}
use Rattle.iot_server_node.specs.Prelude.{length, option_map, request_spelling, rules, server_name, state_of, tree_after, true, ℕ, []}
use Rattle.iot_server_node.specs.{Records.DiskGoesOn, declared.message.Message.Message, declared.server.Served.Served}
use Rattle.{iot_server_node.specs.declared.server.ServerNode.ServerNode, iot_store.specs.States.opening}
use Rattle.iot_tree.specs.declared.{access.Access.Access, acts.Act.Act, labels.Label.Label}
use Rattle.iot_node.specs.Posts as posts
use Rattle.iot_server.specs.Servers as servers
use Rattle.iot_wire.specs.declared.requests.Request.TheVariants as requests

-- ---- what it has

abbrev pub post_of : {D : Type 0} → ServerNode D → Post (ServerKeeper D) (Disks D)
post_of server = server.post

abbrev pub is_up : {D : Type 0} → ServerNode D → Bool
is_up server = is_on server.post

-- its disks, which it has except inside a call that starts or stops it
abbrev pub disk_of : {D : Type 0} → ServerNode D → Option (Disks D)
disk_of server = posts.disk_of disks_in server.post

-- whether its backup was promoted: a disk was given up then
abbrev pub given_up_in : {D : Type 0} → Option (Disks D) → Bool
given_up_in (Some disks) = is_some disks.given_up
given_up_in None = false

abbrev pub is_promoted : {D : Type 0} → ServerNode D → Bool
is_promoted server = given_up_in (disk_of server)

-- The backup was promoted, or the server still has it; and its other disk, which is the backup until then, and later the one that was given
-- up, was armed so.
pub record IsBeside {D : Type 0} (medium : Medium D) (server : ServerNode D) (promoted : Bool) (arms : Arms) : Type 0 where
  pub is : option_map (sides_of medium) (disk_of server) ≡ Some (sides promoted arms)

-- that stays as it is
abbrev pub KeepsBeside : {D : Type 0} → Medium D → (old new : ServerNode D) → Type 0
KeepsBeside medium old new = (promoted : Bool) (arms : Arms) → IsBeside medium old promoted arms → IsBeside medium new promoted arms

-- these are the disks of a live server, and one that was given up, if one was
pub record HasDisks {D : Type 0} (it : Server D) (disks : Option (Disks D)) : Type 0 where
  pub given_up : Option D
  pub is : disks ≡ Some (disks_in (record { server = it; given_up = given_up }))

-- it has its disks in their places
abbrev pub HasPlaces : {D : Type 0} → ServerNode D → Type 0
HasPlaces server = HavePlaces (disk_of server)

-- the live server itself
abbrev pub lent_of : {D : Type 0} → ServerNode D → Option (Server D)
lent_of server = live_of (λ keeper. keeper.server) server.post

-- the state of a live server, or else the opening one
abbrev pub state_in : {D : Type 0} → Post (ServerKeeper D) (Disks D) → State
state_in (Up keeper) = servers.state_of keeper.server
state_in post = opening

-- the stamps of its tree
abbrev pub stamps_of : {D : Type 0} → ServerNode D → Stamps
stamps_of server = (state_in server.post).stamps

-- how many commits it has
abbrev pub count_of : {D : Type 0} → ServerNode D → ℕ
count_of server = length (state_in server.post).labels

-- ---- for which node of the machine it stands

-- the script of a commit has a spelling, so that what the tree holds has one too, and its client has its name among these
pub record IsKnown (names : List (List ℕ)) (commit : Commit) : Type 0 where
  pub spelled : IsSpelledEntry commit.entry
  pub client : commit.entry.client < length names

abbrev pub AreKnown : List (List ℕ) → List Commit → Type 0
AreKnown names commits = AllByRecursion (IsKnown names) commits

-- it has one commit more, which can follow: a record leads from the state of the one list to that of the other
pub record IsOneMore (commits longer : List Commit) : Type 0 where
  pub commit : Commit
  pub is : longer ≡ commits ++ commit ∷ []
  pub body : List ℕ
  pub leads : Leads (rules Two) (body ∷ []) (state_of commits) (state_of longer)

abbrev pub IsOneMoreIfAny : List Commit → Option (List Commit) → Type 0
IsOneMoreIfAny commits = If (IsOneMore commits)

-- so is each commit of these, and of what is in doubt, which has one more than these, and one that can follow
pub record AreSettled (names : List (List ℕ)) (commits : List Commit) (later : Option (List Commit)) : Type 0 where
  pub durable : AreKnown names commits
  pub doubt : If (AreKnown names) later
  pub longer : IsOneMoreIfAny commits later

-- that is so of what is durable
abbrev pub NodeIsKnown : List (List ℕ) → Node (List Commit) → Type 0
NodeIsKnown names node = AreSettled names node.durable node.doubt

-- a live server has answered so many requests since its start, as far as it can count
abbrev pub HasAnswered : {D : Type 0} → ℕ → Post (ServerKeeper D) (Disks D) → Type 0
HasAnswered n post = If (λ traffic. traffic.requests ≡ n % 2 ^ 64) (live_of traffic_in post)

-- it stands for this node of the machine, where the clients have these names, and has answered so many requests
pub record ServerStands {D : Type 0} (medium : Medium D) (names : List (List ℕ)) (server : ServerNode D) (node : Node (List Commit))
    (requests : ℕ) : Type 0 where
  pub post : PostStands (lists medium) (on_both medium) (kept_text names) server.post node
  pub known : NodeIsKnown names node
  pub answered : HasAnswered requests server.post

-- the same, of those that have answered so many
abbrev pub HavingAnswered : {D : Type 0} → Medium D → (names : List (List ℕ)) → (requests : ℕ) → ServerNode D → Node (List Commit) → Type 0
HavingAnswered medium names requests server node = ServerStands medium names server node requests

-- it stands for some node
pub record ServerIsSound {D : Type 0} (medium : Medium D) (server : ServerNode D) : Type 0 where
  pub names : List (List ℕ)
  pub node : Node (List Commit)
  pub requests : ℕ
  pub stands : ServerStands medium names server node requests

-- a live server with the tree and the labels of this node, which has answered so many requests, as far as it can count
pub record IsServerOf {D : Type 0} (it : Server D) (node : Node (List Commit)) (count : ℕ) : Type 0 where
  pub alive : node.alive ≡ true
  pub tree : (servers.state_of it).tree ≡ tree_after node.durable
  pub labels : (servers.state_of it).labels ≡ map label_of node.durable
  pub requests : (servers.traffic_of it).requests ≡ count % 2 ^ 64

-- what is lent of it
abbrev pub LendsServer : {D : Type 0} → Option (Server D) → Node (List Commit) → ℕ → Type 0
LendsServer None node count = node.alive ≡ false
LendsServer (Some it) node count = IsServerOf it node count

-- whatever list the old server has, each image of the new one's disks goes on from its state
pub record KeepsCommits {D : Type 0} (medium : Medium D) (old new : ServerNode D) : Type 0 where
  pub keeps : (names : List (List ℕ)) (node : Node (List Commit)) (n : ℕ) → ServerStands medium names old node n
      → DiskGoesOn (on_both medium) (state_of node.durable) (disk_of new)

-- it was never started, and its disk and its backup are empty
pub record IsUnopened {D : Type 0} (medium : Medium D) (server : ServerNode D) : Type 0 where
  pub first : D
  pub backup : D
  pub down : server.post ≡ Down (record { disk = placed false first backup; doubt = None })
  pub empty : IsEmpty medium first
  pub empty_backup : IsEmpty medium backup

-- ---- it goes on from its backup

-- it is down, with its first disk and its backup
pub record HasBackup {D : Type 0} (server : ServerNode D) : Type 0 where
  pub first : D
  pub last : D
  pub doubt : Option Doubt
  pub is : server.post ≡ Down (record { disk = placed false first last; doubt = doubt })

-- the same node over the disks that it has then
abbrev pub turned_post : {D : Type 0} → Post (ServerKeeper D) (Disks D) → Post (ServerKeeper D) (Disks D)
turned_post (Down fallen) = Down (record fallen { disk = turned fallen.disk })
turned_post post = post

-- The first disk was given up, whatever came of the call: it is the other one from now on, and the backup is the server's. Neither was
-- armed, and the sum of their counts of faults is what it was or rose.
pub record TurnsToBackup {D : Type 0} (medium : Medium D) (old new : ServerNode D) : Type 0 where
  pub disks : KeepsDisk (on_both medium) (disk_of (record { post = turned_post old.post })) (disk_of new)
  pub beside : option_map (sides_of medium) (disk_of new) ≡ option_map (sides_of medium) (disk_of (record { post = turned_post old.post }))

-- What the machine's server does at a promotion, if it is down and its backup was not promoted: it comes back from that, or stops again.
pub record Promotes {D : Type 0} (medium : Medium D) (names : List (List ℕ)) (old new : ServerNode D) (before after : List ℕ) : Type 0 where
  pub step : (node : Node (List Commit)) (n : ℕ) (arms : Arms) → ServerStands medium names old node n → IsBeside medium old false arms
      → (text : List ℕ) × (on : Bool) × (next : Node (List Commit)) × (after ≡ before ++ text)
      × ComesBackAs promote_words server_name (kept_text names) (arming_as arms node) text on next
      × ServerStands medium names new next 0 × IsBeside medium new true node.counts.arms

-- ---- the backup is armed, or the server's own disk if that was promoted

abbrev pub ArmsServersBackup : {D : Type 0} → Medium D → (calls : ℕ) → Pick → (promoted : Bool) → (old new : ServerNode D) → Type 0
ArmsServersBackup medium calls pick false old new =
    (names : List (List ℕ)) (node : Node (List Commit)) (n : ℕ) (arms : Arms) → ServerStands medium names old node n
    → IsBeside medium old false arms
    → ServerStands medium names new node n × IsBeside medium new false (armed_with arms calls pick)
ArmsServersBackup medium calls pick true old new =
    (names : List (List ℕ)) (node : Node (List Commit)) (n : ℕ) (arms : Arms) → ServerStands medium names old node n
    → IsBeside medium old true arms
    → ServerStands medium names new (armed calls pick node) n × IsBeside medium new true arms

-- how many requests it has answered, if it is started unless it is alive
abbrev pub answered_since : (was_alive : Bool) → ℕ → ℕ
answered_since true n = n
answered_since false n = 0

-- ---- submissions

-- this label, these acts, their access and this name are those of a submission, whose script was run on some tree
pub record IsSubmission (label : Label) (acts : List Act) (access : Access) (transaction : Transaction) (it : Submission) : Type 0 where
  pub name : it.name ≡ transaction_name transaction.client transaction.number
  pub has_label : label_of it.commit ≡ label
  pub base : Nodes
  pub tree : IsTree base
  pub has_acts : acts ≡ (run_entry it.commit.entry base).acts
  pub has_access : access ≡ access_of acts base
  pub reads : it.reads ≡ reads_of acts
  pub spelled : IsSpelledEntry it.commit.entry

-- the message hands in this transaction, and has with it its way and what it printed
pub record IsHanded (message : Message) (it : Submission) : Type 0 where
  pub label : Label
  pub acts : List Act
  pub access : Access
  pub asked : IsMessage IsRequest request_spelling message.request.items (requests.Commit label access (lines_of acts))
  pub transaction : Transaction
  pub handed : message.handed
      ≡ Some (record { printed = record { transaction = transaction; output = acts_output acts }; way = label.way })
  pub submission : IsSubmission label acts access transaction it

-- the client of a submission has its name among these
pub record IsNamedIn (names : List (List ℕ)) (it : Submission) : Type 0 where
  pub client : it.commit.entry.client < length names
  pub name : it.name ≡ transaction_name (slice_index_or names it.commit.entry.client []) it.commit.entry.number

-- ---- requests

-- The call is what a live server does with a request: it stops and gives no reply, which it says; or it answers what the bytes of the
-- reply spell, and says nothing. What is to be said of a commit is what the call says: whoever called says it.
abbrev pub ServesBy : {D A : Type 0} → Medium D → (names : List (List ℕ)) → Call (Node (List Commit)) (Option A) → (List ℕ → A → Type 0)
    → Option Handed → Option Served → (old new : ServerNode D) → (before after : List ℕ) → Type 0
ServesBy medium names call Spelled handed None old new before after =
    (n : ℕ) → StepsTo (HavingAnswered medium names n) (HavingAnswered medium names n) call old new before after None
ServesBy {A = A} medium names call Spelled handed (Some served) old new before after =
    (after ≡ before)
    × ((answer : A) × Spelled served.reply.items answer
    × ((n : ℕ) (x : List ℕ)
    → StepsTo (HavingAnswered medium names n) (HavingAnswered medium names (n + 1)) call old new x (x ++ said_of served.committed handed)
    (Some answer)))
