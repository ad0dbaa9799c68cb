-- What a transcript tells of stops and of commits. Somebody reads it with a ledger in hand and notes each piece of the text. At the end
-- the ledger says what is so of the machine.
use Rattle.std.specs.Prelude.{◌≡◌, ℕ, ◌+◌, ◌<◌, ◌==◌, Bool, true, false, List, [], ◌∷◌, ◌++◌, Option, None, Some}
use Rattle.std.specs.Prelude.{length, slice_set}
use Rattle.iot_event.specs.declared.event.Event.{Event}
use Rattle.iot_machine.specs.Events.{event_part}
use Rattle.iot_machine.specs.Machine.{Machine, Commit, handed, client_in, add_commit}
use Rattle.iot_machine.specs.Nodes.{Counts}
use Rattle.iot_machine.specs.Serving.{commit_text}
use Rattle.iot_machine.specs.Texts.{stopped_line}
use Rattle.iot_machine.specs.Transcript.{Transcript}
use Rattle.iot_lasting.specs.Ledger.{Row, Ledger, ledger_of, row_at, node_name, name_in}
use Rattle.iot_lasting.specs.Sayings.{IsOther}
use Rattle.iot_lasting.specs.Lasting.{IsGrowing}

-- ---- pieces of a text

-- That the server has stopped, or the client at this place; what this commit says; or something else, which may still read like a stop
-- line, as `connect stopped` does if it is said of a client with the name `stopped`. That there is one more client has no text.
pub data Piece : Type 0 where
  StopLine : (who : Option ℕ) → Piece
  CommitSaid : (commit : Commit) → Piece
  Joins : (name : List ℕ) → Piece
  Other : (other : List ℕ) → Piece

-- it has stopped once more
abbrev pub once_more : Row → Row
once_more row = record row { stops = row.stops + 1 }

-- the ledger when the piece is noted
abbrev pub note : Ledger → Piece → Ledger
note l (StopLine None) = record l { stops = l.stops + 1 }
note l (StopLine (Some c)) = record l { clients = slice_set l.clients c (once_more (row_at l.clients c)) }
note l (CommitSaid commit) = record l { commits = add_commit commit l.commits }
note l (Joins name) = record l { clients = l.clients ++ record { name = name; stops = 0 } ∷ [] }
note l (Other other) = l

-- the name of a commit's transaction
abbrev pub name_of : Ledger → Commit → List ℕ
name_of l commit = name_in l commit.entry.client commit.entry.number

-- The text of the piece. A commit's line has the number of the next commit in the ledger, from 1, and what its script prints follows.
abbrev pub piece_text : Ledger → Piece → List ℕ
piece_text l (StopLine who) = stopped_line (node_name l who)
piece_text l (CommitSaid commit) = commit_text (name_of l commit) commit l.commits
piece_text l (Joins name) = []
piece_text l (Other other) = other

-- one piece after the other: the ledger when all are noted, and their text
abbrev pub noted : Ledger → List Piece → Ledger
noted l [] = l
noted l (piece ∷ pieces) = noted (note l piece) pieces

abbrev pub told : Ledger → List Piece → List ℕ
told l [] = []
told l (piece ∷ pieces) = piece_text l piece ++ told (note l piece) pieces

-- the piece fits the ledger: a stop line is of a client that there is, and what else is said has one of the forms
abbrev pub Fits : Ledger → Piece → Type 0
Fits l (StopLine None) = Unit {0}
Fits l (StopLine (Some c)) = c < length l.clients
Fits l (CommitSaid commit) = Unit {0}
Fits l (Joins name) = Unit {0}
Fits l (Other other) = IsOther l other

abbrev pub AllFit : Ledger → List Piece → Type 0
AllFit l [] = Unit {0}
AllFit l (piece ∷ pieces) = Fits l piece × AllFit (note l piece) pieces

-- ---- what is counted of them

-- whether it is a stop line of the server, or of the client at this place
abbrev pub is_stop_of : Option ℕ → Piece → Bool
is_stop_of None (StopLine None) = true
is_stop_of None (StopLine (Some c)) = false
is_stop_of (Some k) (StopLine None) = false
is_stop_of (Some k) (StopLine (Some c)) = k == c
is_stop_of who (CommitSaid commit) = false
is_stop_of who (Joins name) = false
is_stop_of who (Other other) = false

abbrev pub one_if : Bool → ℕ
one_if true = 1
one_if false = 0

-- how many are
abbrev pub stop_lines : Option ℕ → List Piece → ℕ
stop_lines who [] = 0
stop_lines who (piece ∷ pieces) = one_if (is_stop_of who piece) + stop_lines who pieces

-- the commits that are said, in their order
abbrev pub commit_in : Piece → List Commit
commit_in (StopLine who) = []
commit_in (CommitSaid commit) = commit ∷ []
commit_in (Joins name) = []
commit_in (Other other) = []

abbrev pub commits_in : List Piece → List Commit
commits_in [] = []
commits_in (piece ∷ pieces) = commit_in piece ++ commits_in pieces

-- how often the server has stopped, or the client at this place
abbrev pub stops_of : Option ℕ → Machine → ℕ
stops_of None m = m.server.stops
stops_of (Some c) m = (client_in m c).node.stops

-- ---- the laws

-- The text accounts for what has become of the machine: it is made of pieces that fit, and the ledger in which they are noted says what is
-- so then. So each node has stopped as often as it has a stop line, and the list is the earlier one and then the commits that are said.
pub record Accounts (m n : Machine) (text : List ℕ) : Type 0 where
  pub pieces : List Piece
  pub fit : AllFit (ledger_of m) pieces
  pub whole : text ≡ told (ledger_of m) pieces
  pub ledger : ledger_of n ≡ noted (ledger_of m) pieces
  pub stops : (who : Option ℕ) → stops_of who n ≡ stops_of who m + stop_lines who pieces
  pub commits : n.server.durable ≡ m.server.durable ++ commits_in pieces

-- so it is of each event
abbrev pub EventTells : Type 0
EventTells = (event : Event) (m n : Machine) (text : List ℕ) → IsGrowing m.server → event_part event m text tt n → Accounts m n text

-- and of each transcript, from before the opening on
abbrev pub TranscriptTells : Type 0
TranscriptTells = (counts : List Counts) (events : List Event) (text : List ℕ) (m : Machine) → Transcript counts events text m
    → Accounts (handed counts) m text
