-- What a client sends to the server, and what it reads of the replies.
use Rattle.std.specs.Prelude.{◌≡◌, ℕ, ⊤, Bool, length, List, [], ◌∷◌, Result, Ok, Err}
use Rattle.std.specs.FinMap.{entries}
use Rattle.std.specs.List.{list_all}
use Rattle.iot_tree.specs.Snapshots.{is_known}
use Rattle.iot_tree.specs.Tree.{Row, Nodes, IsTree, IsWhole}
use Rattle.iot_tree.specs.declared.access.Access.{Access}
use Rattle.iot_tree.specs.declared.changes.Changes.{Changes}
use Rattle.iot_access.specs.Access.{access_of, lines_of}
use Rattle.iot_stamp.specs.Stamps.{Stamps, nodes_of}
pub use Rattle.iot_stamp.specs.Stamps.{nothing_held}
use Rattle.iot_kept.specs.Bringing.{brought}
use Rattle.iot_tree.specs.declared.labels.Label.{Label}
use Rattle.iot_tree.specs.declared.labels.OnConflict.{OnConflict}
use Rattle.iot_tree.specs.declared.labels.OnConflict.TheVariants as options
use Rattle.iot_tree.specs.declared.labels.Way.{Way}
use Rattle.iot_tree.specs.declared.labels.Way.TheVariants.{Certified, Reexecuted}
use Rattle.iot_tree.specs.declared.labels.Way.TheVariants as ways
use Rattle.iot_tree.specs.declared.want.Want.TheVariants as wants
use Rattle.iot_wire.specs.Decoding.{reply_at}
use Rattle.iot_wire.specs.Messages.{IsMessage, whole}
use Rattle.iot_wire.specs.Rules.{IsRequest, IsReply}
use Rattle.iot_wire.specs.Spelling.{request_spelling, reply_spelling}
use Rattle.iot_wire.specs.declared.requests.Request.TheVariants.{Refresh, Commit}
use Rattle.iot_wire.specs.declared.replies.Reply.{Reply}
use Rattle.iot_wire.specs.declared.replies.Reply.TheVariants.{Objects, Committed, Already, Conflict}
use Rattle.iot_queue.specs.declared.items.Item.{Item}
use Rattle.iot_queue.specs.declared.items.Resolution.{Resolution}
use Rattle.iot_queue.specs.declared.items.Stage.{Stage}
use Rattle.iot_queue.specs.declared.items.Stage.TheVariants.{Waiting, Manual, Resolved}
use Rattle.iot_queue.specs.declared.items.Stage.TheVariants as stages
use Rattle.iot_client.specs.declared.asks.Ask.{Ask}
use Rattle.iot_client.specs.declared.asks.Ask.TheVariants as asks
use Rattle.iot_client.specs.declared.fault.ClientFault.{ClientFault}
use Rattle.iot_client.specs.declared.fault.ClientFault.TheVariants.{NoMemory, Stopped, Busy, Pending, Idle, NotAtEnd, Nothing}
use Rattle.iot_client.specs.declared.fault.ClientFault.TheVariants.{NotManual, BadReply}
use Rattle.iot_client.specs.declared.noted.Noted.{Noted}
use Rattle.iot_client.specs.declared.noted.Noted.TheVariants as notes

-- ---- requests

-- the label of a transaction that is submitted as it ran
abbrev pub label_in : ℕ → ℕ → List ℕ → ℕ → Label
label_in client tid script budget =
    record { client = client; tid = tid; script = script; budget = budget; way = Certified; kept = [] }

abbrev pub label_of : ℕ → Item → Label
label_of client item = label_in client item.tid item.script item.budget

-- the bytes are the spelling of the request that it be committed: with what its acts asked of the held tree, their updates and their lines
abbrev pub IsCommit : ℕ → Nodes → Item → List ℕ → Type 0
IsCommit client held item bytes =
    IsMessage IsRequest request_spelling bytes (Commit (label_of client item) (access_of item.acts held) (lines_of item.acts))

-- how a transaction is committed that was resolved
abbrev pub way_of : OnConflict → Way
way_of options.Reexec = Reexecuted
way_of (options.Resolver script) = ways.Resolved
way_of options.Abort = ways.Resolved
way_of options.Manual = ways.Resolved

-- the label of a transaction that is submitted with a run in its place
abbrev pub resolved_label : ℕ → ℕ → OnConflict → Resolution → Label
resolved_label client tid option done =
    record {
      client = client;
      tid = tid;
      script = done.script;
      budget = done.budget;
      way = way_of option;
      kept = done.kept;
    }

-- the bytes are the spelling of the request that it be committed with this access, which is kept beside that run, and the run's lines
abbrev pub IsResolvedCommit : ℕ → Access → ℕ → OnConflict → Resolution → List ℕ → Type 0
IsResolvedCommit client access tid option done bytes =
    IsMessage IsRequest request_spelling bytes (Commit (resolved_label client tid option done) access (lines_of done.acts))

-- the bytes are the spelling of the request for the whole tree, with nothing known
abbrev pub IsWholeRequest : ℕ → List ℕ → Type 0
IsWholeRequest client bytes = IsMessage IsRequest request_spelling bytes (Refresh client [] (wants.Below []))

-- what a transaction in this stage needs of the server: that it be committed, the whole tree, or nothing
abbrev pub IsAsked : ℕ → Nodes → Access → Item → Stage → Ask → Type 0
IsAsked client held access item Waiting (asks.Commit bytes) = IsCommit client held item bytes
IsAsked client held access item Waiting (asks.Whole bytes) = ⊥
IsAsked client held access item Waiting asks.Manual = ⊥
IsAsked client held access item stages.Conflict (asks.Commit bytes) = ⊥
IsAsked client held access item stages.Conflict (asks.Whole bytes) = IsWholeRequest client bytes
IsAsked client held access item stages.Conflict asks.Manual = ⊥
IsAsked client held access item Manual (asks.Commit bytes) = ⊥
IsAsked client held access item Manual (asks.Whole bytes) = ⊥
IsAsked client held access item Manual asks.Manual = Unit {0}
IsAsked client held access item (Resolved done) (asks.Commit bytes) = IsResolvedCommit client access item.tid item.option done bytes
IsAsked client held access item (Resolved done) (asks.Whole bytes) = ⊥
IsAsked client held access item (Resolved done) asks.Manual = ⊥

-- what the first that waits needs
abbrev pub IsSubmission : ℕ → Nodes → Access → List Item → Ask → Type 0
IsSubmission client held access [] ask = ⊥
IsSubmission client held access (item ∷ items) ask = IsAsked client held access item item.stage ask

-- ---- replies

-- the changes of a reply that brings some; a reply of another kind is bad from its beginning on
abbrev pub objects : Result Reply ℕ → Result Changes ℕ
objects (Ok (Objects changes)) = Ok changes
objects (Ok (Committed number)) = Err 0
objects (Ok (Already number)) = Err 0
objects (Ok (Conflict read answer)) = Err 0
objects (Err at) = Err at

abbrev pub objects_in : List ℕ → Result Changes ℕ
objects_in bytes = objects (whole reply_at bytes)

-- changes are read of the bytes that are the spelling of a reply which brings them
abbrev pub ReadsObjects : List ℕ → Type 0
ReadsObjects bytes = (changes : Changes) → IsMessage IsReply reply_spelling bytes (Objects changes) → objects_in bytes ≡ Ok changes

-- what a reply makes of a held tree: that tree after its changes, if this passes the test; else it is bad at its end, and a reply that
-- brings no changes at its first fault
pub data Makes (Passes : Nodes → Type 0) (held : Stamps) (bytes : List ℕ) : Result Stamps ℕ → Type 0 where
  made : (changes : Changes) → objects_in bytes ≡ Ok changes → Passes (nodes_of (brought held changes))
      → Makes Passes held bytes (Ok (brought held changes))
  no_tree : (changes : Changes) → objects_in bytes ≡ Ok changes → (Passes (nodes_of (brought held changes)) → ⊥)
      → Makes Passes held bytes (Err (length bytes))
  no_changes : (at : ℕ) → objects_in bytes ≡ Err at → Makes Passes held bytes (Err at)

-- merged into what is held, it is a tree
abbrev pub MakesTree : Stamps → List ℕ → Result Stamps ℕ → Type 0
MakesTree held bytes = Makes IsTree held bytes

-- merged into nothing, it is a whole tree
abbrev pub MakesWhole : List ℕ → Result Stamps ℕ → Type 0
MakesWhole bytes = Makes (λ t. IsTree t × IsWhole t) nothing_held bytes

-- whether the inside of every object of a tree is known
abbrev pub is_known_row : Row → Bool
is_known_row row = is_known row.1

abbrev pub is_whole : Nodes → Bool
is_whole tree = list_all is_known_row (entries tree)

-- the stamped tree is what the reply's changes make of nothing, and it is a whole tree
pub record MakesOf (bytes : List ℕ) (held : Stamps) : Type 0 where
  pub changes : Changes
  pub read : objects_in bytes ≡ Ok changes
  pub spelled : IsMessage IsReply reply_spelling bytes (Objects changes)
  pub is : held ≡ brought nothing_held changes
  pub tree : IsTree (nodes_of held)
  pub whole : IsWhole (nodes_of held)

-- what a reply says of a transaction that was submitted; one that brings changes is bad from its beginning on
abbrev pub noted : Result Reply ℕ → Result Noted ℕ
noted (Ok (Objects changes)) = Err 0
noted (Ok (Committed number)) = Ok (notes.Settled number)
noted (Ok (Already number)) = Ok (notes.Settled number)
noted (Ok (Conflict read answer)) = Ok (notes.Conflict read)
noted (Err at) = Err at

abbrev pub noted_in : List ℕ → Result Noted ℕ
noted_in bytes = noted (whole reply_at bytes)

-- of the bytes that are the spelling of a reply, it is what that says
abbrev pub ReadsNoted : List ℕ → Type 0
ReadsNoted bytes = (said : Reply) → IsMessage IsReply reply_spelling bytes said → noted_in bytes ≡ noted (Ok said)

-- the bytes are the spelling of a reply that says this of a transaction that was submitted
pub record IsToldBy (bytes : List ℕ) (told : Noted) : Type 0 where
  pub said : Reply
  pub spelled : IsMessage IsReply reply_spelling bytes said
  pub is : noted (Ok said) ≡ Ok told

-- a reply is read: as this value, or as bad from a place on, or memory ran out
abbrev pub Reads : {X : Type 0} → Result X ℕ → Result X ClientFault → Type 0
Reads read (Ok value) = read ≡ Ok value
Reads read (Err NoMemory) = ⊤
Reads read (Err Stopped) = ⊥
Reads read (Err Busy) = ⊥
Reads read (Err Pending) = ⊥
Reads read (Err Idle) = ⊥
Reads read (Err NotAtEnd) = ⊥
Reads read (Err Nothing) = ⊥
Reads read (Err NotManual) = ⊥
Reads read (Err (BadReply at)) = read ≡ Err at

-- the same by a relation
abbrev pub ReadsAs : {X : Type 0} → (Result X ℕ → Type 0) → Result X ClientFault → Type 0
ReadsAs As (Ok value) = As (Ok value)
ReadsAs As (Err NoMemory) = ⊤
ReadsAs As (Err Stopped) = ⊥
ReadsAs As (Err Busy) = ⊥
ReadsAs As (Err Pending) = ⊥
ReadsAs As (Err Idle) = ⊥
ReadsAs As (Err NotAtEnd) = ⊥
ReadsAs As (Err Nothing) = ⊥
ReadsAs As (Err NotManual) = ⊥
ReadsAs As (Err (BadReply at)) = As (Err at)
