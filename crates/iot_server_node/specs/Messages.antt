-- Messages between a client and the server, and what they say.
use Rattle.std.specs.Prelude.{if◌then◌else◌, leb, ◌++◌, ◌≡◌}
use Rattle.{iot_judging.specs.Errands.changes_to, iot_machine.specs.Serving.lent}
use Rattle.iot_server_node.specs.Prelude.{Errand, Handed, IsMessage, IsRequest, IsTree}
use Rattle.iot_server_node.specs.Prelude.{List, Nodes, None, Option, Some, Stamps, commit_line, name_of, nodes_of, request_spelling, ℕ, []}
use Rattle.{iot_tree.specs.Tree.IsWhole, iot_wire.specs.Meanings.Spells, iot_wire.specs.declared.requests.Request.Request}
use Rattle.iot_wire.specs.declared.replies.Reply.TheVariants as replies

-- ---- requests

-- the bytes are the spelling of a request
pub record IsSomeRequest (bytes : List ℕ) : Type 0 where
  pub request : Request
  pub is : IsMessage IsRequest request_spelling bytes request

-- ---- what is said of a commit

-- what a commit says under this number: its line, and what its script printed
abbrev pub printed_under : ℕ → Option Handed → List ℕ
printed_under number None = []
printed_under number (Some handed) = commit_line number (name_of handed.printed.transaction) handed.way ++ handed.printed.output

-- the number under which something was committed, if there were so many commits before, and there are so many now
abbrev pub committed_since : (before now : ℕ) → Option ℕ
committed_since before now = if leb now before then None else Some now

-- what is to be said of that
abbrev pub said_of : Option ℕ → Option Handed → List ℕ
said_of None handed = []
said_of (Some number) handed = printed_under number handed

-- ---- replies

-- the reply brings what this stamped tree, which is whole, has for the errand of a client with this held tree: so that one makes this
-- tree of it
pub record SpellsCut (server held : Stamps) (errand : Errand) (bytes : List ℕ) (t : Nodes) : Type 0 where
  pub spelled : Spells bytes (replies.Objects (changes_to server held errand))
  pub tree : IsTree (nodes_of server)
  pub whole : IsWhole (nodes_of server)
  pub cut : t ≡ lent (nodes_of held) errand (nodes_of server)
