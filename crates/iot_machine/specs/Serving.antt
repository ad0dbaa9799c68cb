-- What the server does with a request. It answers, or nothing if it stops.
use Rattle.std.specs.Prelude.{◌≡◌, ℕ, ◌+◌, ◌&&◌, ◌==◌, Bool, true, false, List, [], ◌∷◌, ◌++◌, Option, None, Some}
use Rattle.std.specs.Prelude.{length, codes, drop, position, option_map, slice_index_or}
use Rattle.iot_tree.specs.Tree.{Nodes}
use Rattle.iot_tree.specs.declared.acts.Read.{Read}
use Rattle.iot_tree.specs.declared.questions.Answer.{Answer}
use Rattle.iot_tree.specs.declared.questions.Question.{Question}
use Rattle.iot_tree.specs.declared.want.Want.{Want}
use Rattle.iot_tree.specs.Profiles.{Profile}
use Rattle.iot_tree.specs.Snapshots.{has, prune}
use Rattle.iot_hoard.specs.Picking.{picked}
use Rattle.iot_acts.specs.Turns.{reads_of}
use Rattle.iot_exec.specs.Parting.{PartsAt}
use Rattle.iot_exec.specs.Serial.{run_entry}
use Rattle.iot_machine.specs.Calls.{Call, Answers, Asks, Says, Then}
use Rattle.iot_machine.specs.Clients.{snapshot}
use Rattle.iot_machine.specs.Machine.{Commit, add_commit, tree_after}
use Rattle.iot_machine.specs.Nodes.{Node}
use Rattle.iot_machine.specs.Stops.{Appends}
use Rattle.iot_machine.specs.Texts.{transaction_name, commit_line, acts_output}

abbrev pub server_name : List ℕ
server_name = codes "server"

-- its backup
abbrev pub backup_name : List ℕ
backup_name = codes "backup"

-- ---- objects

-- what a client asks for: what it knows and wants besides, or what a profile picks within a limit
pub data Errand : Type 0 where
  Refresh : Want → Errand
  Walk : Profile → (limit : ℕ) → Errand

-- the server's tree, cut down to that for a client with this held tree
abbrev pub lent : (held : Nodes) → Errand → (server : Nodes) → Nodes
lent held (Refresh want) server = snapshot held want server
lent held (Walk profile limit) server = prune server (has (picked server profile limit))

abbrev pub Lends : (held : Nodes) → Errand → Call (Node (List Commit)) (Option Nodes)
Lends held errand = Asks (λ node. Some (lent held errand (tree_after node.durable)))

-- ---- submissions

-- a transaction as it is submitted: its name, the commit that it would be, and what its run read
pub record Submission : Type 0 where
  pub name : List ℕ
  pub commit : Commit
  pub reads : List Read

-- it is in the list, by its number there; or this read of it, counted from 1, has another answer on the server
pub data Verdict : Type 0 where
  Settled : (number : ℕ) → Verdict
  Conflict : (read : ℕ) (question : Question) → Verdict

abbrev pub is_of : Commit → Commit → Bool
is_of commit other = (commit.entry.client == other.entry.client) && (commit.entry.number == other.entry.number)

-- the number of the transaction in the list, from 1
abbrev pub number_of : Commit → List Commit → Option ℕ
number_of commit commits = option_map (λ place. place + 1) (position (is_of commit) commits)

-- the reads of the same script, run on the server's tree
abbrev pub reads_there : Commit → List Commit → List Read
reads_there commit commits = reads_of (run_entry commit.entry (tree_after commits)).acts

-- what a commit says: its line, and what its script prints on the server's tree
abbrev pub commit_text : List ℕ → Commit → List Commit → List ℕ
commit_text name commit commits =
    commit_line (length commits + 1) name commit.entry.way ++ acts_output (run_entry commit.entry (tree_after commits)).acts

-- the same of the commit that this list has behind the other one, where the clients have these names
abbrev pub added_text : List (List ℕ) → List Commit → (added : List Commit) → List ℕ
added_text names commits [] = []
added_text names commits (commit ∷ later) =
    commit_text (transaction_name (slice_index_or names commit.entry.client []) commit.entry.number) commit commits

abbrev pub kept_text : List (List ℕ) → (before after : List Commit) → List ℕ
kept_text names before after = added_text names before (drop (length before) after)

-- it is appended, and says so, and its number is the answer; a server that stops answers none
abbrev pub committed : List ℕ → Bool → Call (Node (List Commit)) (Option Verdict)
committed text false = Answers None
committed text true = Then (Says (λ _. text)) (λ _. Asks (λ node. Some (Settled (length node.durable))))

abbrev pub Commits : List ℕ → Commit → Call (Node (List Commit)) (Option Verdict)
Commits name commit =
    Then (Asks (λ node. commit_text name commit node.durable)) (λ text.
    Then (Appends server_name (add_commit commit)) (committed text))

-- this is the verdict if the reads there part from those here
pub record Parts (here there : List Read) (verdict : Option Verdict) : Type 0 where
  pub place : ℕ
  pub read : Read
  pub given : Answer
  pub front : List Read
  pub rest : List Read
  pub split : here ≡ front ++ read ∷ rest
  pub at : place ≡ length front + 1
  pub parts : PartsAt here there 1 place given
  pub is : verdict ≡ Some (Conflict place read.question)

-- certified by what it read: it commits exactly if the same script reads the same on the server's tree
pub data Certifies (it : Submission) (node : Node (List Commit)) (text : List ℕ) (verdict : Option Verdict)
    (after : Node (List Commit)) : Type 0 where
  holds : reads_there it.commit node.durable ≡ it.reads → Commits it.name it.commit node text verdict after
      → Certifies it node text verdict after
  conflicts : Parts it.reads (reads_there it.commit node.durable) verdict → text ≡ [] → after ≡ node
      → Certifies it node text verdict after

-- what is in the list already is not committed again
abbrev pub judged : Submission → Option ℕ → Call (Node (List Commit)) (Option Verdict)
judged it (Some number) = Answers (Some (Settled number))
judged it None = Certifies it

abbrev pub Judges : Submission → Call (Node (List Commit)) (Option Verdict)
Judges it = Then (Asks (λ node. number_of it.commit node.durable)) (judged it)
