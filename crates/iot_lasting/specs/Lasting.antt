-- What becomes of a commit: once it is in the server's list it stays there, at its place, whatever is done and whatever fails.
use Rattle.std.specs.Prelude.{◌≡◌, ℕ, List, ◌++◌, Some, IfSome, slice_get}
use Rattle.iot_event.specs.declared.event.Event.{Event}
use Rattle.iot_machine.specs.Machine.{Machine, Commit, add_commit}
use Rattle.iot_machine.specs.Nodes.{Node, Counts}
use Rattle.iot_machine.specs.Events.{event_part}
use Rattle.iot_machine.specs.Sound.{IsSure, Possibly}
use Rattle.iot_machine.specs.Transcript.{InTurn, Transcript}

-- ---- lists of commits

-- the later list begins with these commits, each at its place
pub record IsFront (commits later : List Commit) : Type 0 where
  pub more : List Commit
  pub is : later ≡ commits ++ more

-- it has one commit more
pub record AddsOne (commits later : List Commit) : Type 0 where
  pub commit : Commit
  pub is : later ≡ add_commit commit commits

-- this commit stands at this place of the list, from 0: its number is one more
abbrev pub StandsAt : (place : ℕ) → Commit → List Commit → Type 0
StandsAt place commit commits = slice_get commits place ≡ Some commit

-- ---- the server

-- if it is alive nothing is in doubt, and what is in doubt adds one commit to its list
pub record IsGrowing (node : Node (List Commit)) : Type 0 where
  pub sure : IsSure node
  pub adds : IfSome node.doubt (AddsOne node.durable)

-- it has each commit of the earlier list at its place, and goes on so
pub record Lasts (node n : Node (List Commit)) : Type 0 where
  pub front : IsFront node.durable n.durable
  pub growing : IsGrowing n

-- ---- the laws

-- no event takes a commit out of the list or moves it: not a stop or a crash of the server, nor a restart
abbrev pub EventKeepsCommits : Type 0
EventKeepsCommits = (event : Event) (m n : Machine) (text : List ℕ) → IsGrowing m.server → event_part event m text tt n
    → Lasts m.server n.server

-- a transcript of events and then others is one of the first, from whose end the others go on
pub record SplitsAt (counts : List Counts) (events later : List Event) (text : List ℕ) (n : Machine) : Type 0 where
  pub mid : Machine
  pub front : List ℕ
  pub rest : List ℕ
  pub before : Transcript counts events front mid
  pub after : InTurn later mid rest tt n
  pub whole : text ≡ front ++ rest

-- each transcript can be split so at each of its events
abbrev pub TranscriptsSplit : Type 0
TranscriptsSplit = (counts : List Counts) (events later : List Event) (text : List ℕ) (n : Machine)
    → Transcript counts (events ++ later) text n → SplitsAt counts events later text n

-- after each transcript what is in doubt adds one commit, and nothing is in doubt if the server is alive
abbrev pub TranscriptsGrow : Type 0
TranscriptsGrow = (counts : List Counts) (events : List Event) (text : List ℕ) (m : Machine) → Transcript counts events text m
    → IsGrowing m.server

-- from the opening on: after some events and more events, whichever list the server comes back with then begins with the list of before
abbrev pub CommitsLast : Type 0
CommitsLast = (counts : List Counts) (events later : List Event) (m n : Machine) (text rest : List ℕ)
    → Transcript counts events text m → InTurn later m rest tt n → Possibly (IsFront m.server.durable) n.server

-- so a commit keeps its number
abbrev pub CommitsKeepTheirNumbers : Type 0
CommitsKeepTheirNumbers = (counts : List Counts) (events later : List Event) (m n : Machine) (text rest : List ℕ)
    → Transcript counts events text m → InTurn later m rest tt n → (place : ℕ) (commit : Commit)
    → StandsAt place commit m.server.durable → Possibly (StandsAt place commit) n.server
