-- What is said of a commit, and where it stands then: its line is said once it is in the server's list, under the number of its place,
-- and a client that hears that its transaction is settled hears this number.
use Rattle.std.specs.Prelude.{◌≡◌, ◌⊎◌, ℕ, ◌+◌, true, List, ◌++◌, length, Option, Some, None}
use Rattle.iot_event.specs.declared.event.Event.{Event}
use Rattle.iot_machine.specs.Calls.{Then, At}
use Rattle.iot_machine.specs.Clients.{Declared}
use Rattle.iot_machine.specs.Machine.{Machine, Commit, pair_at, add_commit}
use Rattle.iot_machine.specs.Nodes.{Node}
use Rattle.iot_machine.specs.Options.{OnConflict}
use Rattle.iot_machine.specs.Serving.{Submission, Verdict, Settled, Commits, commit_text, kept_text, is_of, server_name}
use Rattle.iot_machine.specs.Sound.{Possibly}
use Rattle.iot_machine.specs.Stops.{ComesBackAs}
use Rattle.iot_machine.specs.Texts.{line, stopped_line, kept_as, lost_as}
use Rattle.iot_machine.specs.Transactions.{submits}
use Rattle.iot_machine.specs.Transcript.{InTurn}
use Rattle.iot_lasting.specs.Lasting.{IsGrowing, StandsAt}

-- the commit's line is said, with the next number, and it stands at that place of the list of after
pub record IsSaid (name : List ℕ) (commit : Commit) (before : List Commit) (text : List ℕ) (after : List Commit) : Type 0 where
  pub says : text ≡ commit_text name commit before
  pub adds : after ≡ add_commit commit before
  pub stands : StandsAt (length before) commit after

-- This commit's transaction stands under this number, from 1. What stands there may be an earlier submission of it.
pub record IsListedAs (number : ℕ) (commit : Commit) (commits : List Commit) : Type 0 where
  pub place : ℕ
  pub is : number ≡ place + 1
  pub listed : Commit
  pub stands : StandsAt place listed commits
  pub same : is_of commit listed ≡ true

-- ---- the laws

-- A server that commits says the commit's line when it is in the list. One that stops says that alone, and gives no verdict.
abbrev pub ACommitIsSaid : Type 0
ACommitIsSaid = (name : List ℕ) (commit : Commit) (node n : Node (List Commit)) (text : List ℕ) (verdict : Option Verdict)
    → Commits name commit node text verdict n
    → (IsSaid name commit node.durable text n.durable × (verdict ≡ Some (Settled (length node.durable + 1))))
    ⊎ ((text ≡ stopped_line server_name) × (n.durable ≡ node.durable) × (verdict ≡ None))

-- one that comes back with the commit that was in doubt says its line, behind that it was kept
pub record IsSaidKept (words : List ℕ) (before : List Commit) (text : List ℕ) (after : List Commit) : Type 0 where
  pub name : List ℕ
  pub commit : Commit
  pub said : List ℕ
  pub it : IsSaid name commit before said after
  pub whole : text ≡ kept_as words ++ said

-- a server that comes back, at an event with these words, has its list, or says which commit it has more
abbrev pub AKeptCommitIsSaid : Type 0
AKeptCommitIsSaid = (words : List ℕ) (names : List (List ℕ)) (node n : Node (List Commit)) (text : List ℕ) → IsGrowing node
    → ComesBackAs words server_name (kept_text names) node text true n
    → IsSaidKept words node.durable text n.durable
    ⊎ (((text ≡ line words) ⊎ (text ≡ lost_as words)) × (n.durable ≡ node.durable))

-- if the verdict that comes is that a transaction is settled, it stands under the number that the client says, then and ever after
abbrev pub ASettledCommitLasts : Type 0
ASettledCommitLasts = (c : ℕ) (option : OnConflict Declared) (it : Submission) (later : List Event) (m n : Machine) (text : List ℕ)
    (number : ℕ) → IsGrowing m.server → (submitted : Then (At (pair_at c) (submits option it)) (λ _. InTurn later) m text tt n)
    → submitted.first.step.answer ≡ Some (Settled number) → Possibly (IsListedAs number it.commit) n.server
