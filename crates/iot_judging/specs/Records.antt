-- Which list of the machine's commits bytes encode: a checkpoint of its first commits, and a record for each of the others.
use Rattle.std.specs.Prelude.{◌≡◌, ℕ, List, [], ◌∷◌, ◌++◌, length}
use Rattle.iot_access.specs.Access.{access_of, lines_of, after_updates}
use Rattle.iot_durable.specs.Standing.{LacksLast}
use Rattle.iot_exec.specs.Serial.{run_entry}
use Rattle.iot_judging.specs.Entries.{IsSpelledEntry}
use Rattle.iot_judging.specs.Lists.{state_of}
use Rattle.iot_machine.specs.Machine.{Commit, tree_after}
use Rattle.iot_machine.specs.Recorded.{label_of}
use Rattle.iot_slots.specs.Decoding.{Decoded, Encodes, NotStarted, State as Encoded, decoded}
use Rattle.iot_store.specs.Bodies.{IsBody}
use Rattle.iot_store.specs.Records.{record_spelling}
use Rattle.iot_store.specs.Rules.{rules, header}
use Rattle.iot_store.specs.Standing.{StandFor, records_in, MayFollow}
use Rattle.iot_tree.specs.Tree.{Nodes}
use Rattle.iot_tree.specs.declared.access.Access.{Access}
use Rattle.iot_tree.specs.declared.labels.Label.{Label}

-- the records of commits from a tree on: of each its label, the access of its script's run there, and the lines of that
abbrev pub records_from : List Commit → Nodes → List (List ℕ)
records_from [] t = []
records_from (commit ∷ commits) t =
    record_spelling (label_of commit) (access_of (run_entry commit.entry t).acts t) (lines_of (run_entry commit.entry t).acts)
    ∷ records_from commits (run_entry commit.entry t).tree

-- the checkpoint is of the first of these commits, and the records behind it are those of the others
pub record EncodesList (encoded : Encoded) (commits : List Commit) : Type 0 where
  pub front : List Commit
  pub later : List Commit
  pub split : commits ≡ front ++ later
  pub spells : IsBody encoded.version encoded.body (state_of front)
  pub records : encoded.bodies ≡ records_from later (tree_after front)

-- a disk that is not started has no commits
abbrev pub HasList : Decoded → List Commit → Type 0
HasList (Encodes encoded) commits = EncodesList encoded commits
HasList NotStarted commits = commits ≡ []
HasList decoded commits = ⊥

-- The bytes stand for the state of this list, which has so many commits. As many records were ever appended to them; they have a
-- checkpoint of its first commits, and the records of the others.
pub record IsImage (bytes : List ℕ) (count : ℕ) (commits : List Commit) : Type 0 where
  pub stands : StandFor bytes (state_of commits)
  pub list : HasList (decoded header bytes) commits
  pub many : records_in bytes ≡ count
  pub counted : count ≡ length commits

-- The second one lacks the last commit of the longer list: it stands for the list before it. That commit's record is the last one of the
-- first, and a start from both can bring the second up.
pub record LacksCommit (one other : List ℕ) (count : ℕ) (commits longer : List Commit) : Type 0 where
  pub commit : Commit
  pub is : longer ≡ commits ++ commit ∷ []
  pub image : IsImage other count commits
  pub lacks : LacksLast rules one other (state_of longer)
  pub before : lacks.before ≡ state_of commits
  pub follows : MayFollow one other

-- this label, this access and these lines are those of a commit, whose script is run on this tree
pub record AreOf (commit : Commit) (tree : Nodes) (label : Label) (access : Access) (lines : List (List ℕ)) : Type 0 where
  pub has_label : label_of commit ≡ label
  pub has_access : access_of (run_entry commit.entry tree).acts tree ≡ access
  pub has_lines : lines_of (run_entry commit.entry tree).acts ≡ lines
  pub made : (run_entry commit.entry tree).tree ≡ after_updates tree access.updates
  -- so that the tree that it makes has a spelling
  pub spelled : IsSpelledEntry commit.entry
